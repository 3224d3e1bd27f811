-- `atom_arguments` goes along the arguments. The invariant: they are atoms where those from the one reached on are.
use mathlib.Core.Path.{◌≡◌, refl, sym, ap, ◌∙◌}
use mathlib.Core.Bool.{Bool}
use Prim.Native.Nat.{ℕ, ◌+◌, ◌-◌, ◌/◌, ◌≤◌}
use native.Mathlib.Omega.{arith}
use lib.ListN.{length}
use borrow.Author.Tests.{not-true, not-false}
use Rattle.words.specs.Table.{row_count, number_at}
use Rattle.check_kernel_statements.specs.Statements.{is_atom, atom_arguments}
use Rattle.check_kernel_statements.specs.Laws.{arguments-none, arguments-other, arguments-along}
use Rattle.check_kernel_statements.proofs.atom_arguments.Goals as goal

pub loop-passed-init : goal.loop-passed-init
loop-passed-init c =
    let all : length c.args.rows.now / 6 ≡ length c.args.rows.now / 6 - 0 = omega arith in
    (omega arith, ap (λ (n : ℕ). atom_arguments n c.args.rows.now c.args.first) all)

pub returns-then-argument-eq0 : goal.returns-then-argument-eq0
returns-then-argument-eq0 c = sym (c.loop-passed.invariant.1 ∙ arguments-none _ _ _ c.if-argument-eq0.true)

pub number_or_zero-requires : goal.number_or_zero-requires
number_or_zero-requires c = (c.requires, omega arith)

pub is_atom-requires : goal.is_atom-requires
is_atom-requires c = c.requires

pub returns-then-not-is_atom : goal.returns-then-not-is_atom
returns-then-not-is_atom c =
    let rows = c.args.rows.now in
    let at = c.loop-passed in
    let atom = c.is_atom.ensures ∙ ap (is_atom rows) c.number_or_zero.ensures in
    sym (at.invariant.1 ∙ arguments-other rows _ at.argument (omega arith) c.if-argument-eq0.false (sym atom ∙ c.if-not-is_atom.true))

pub number_or_zero-argument-requires : goal.number_or_zero-argument-requires
number_or_zero-argument-requires c = (c.requires, omega arith)

pub loop-passed-preserved : goal.loop-passed-preserved
loop-passed-preserved c =
    let rows = c.args.rows.now in
    let at = c.loop-passed in
    let atom = c.is_atom.ensures ∙ ap (is_atom rows) c.number_or_zero.ensures in
    let one_less : length rows / 6 - at._passed - 1 ≡ length rows / 6 - (at._passed + 1) = omega arith in (
      omega arith,
      at.invariant.1
          ∙ arguments-along rows (length rows / 6 - at._passed) at.argument (omega arith) c.if-argument-eq0.false (sym atom ∙ c.if-not-is_atom.false)
          ∙ ap (λ (k : ℕ). atom_arguments k rows (number_at rows at.argument 5)) one_less
          ∙ ap (λ (a : ℕ). atom_arguments (length rows / 6 - (at._passed + 1)) rows a) (sym c.number_or_zero-argument.ensures),
    )

pub returns : goal.returns
unfolding atom_arguments
returns c =
    let rows = c.args.rows.now in
    let at = c.loop-passed in
    let none : length rows / 6 - at._passed ≡ 0 = omega arith in
    sym (at.invariant.1 ∙ ap (λ (k : ℕ). atom_arguments k rows at.argument) none)
