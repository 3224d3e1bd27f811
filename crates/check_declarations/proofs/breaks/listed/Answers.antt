-- `listed` goes along the list. The invariant: the search from this row on gives what the search from the first gives.
use mathlib.Core.Path.{◌≡◌, refl, sym, ◌∙◌}
use Prim.Native.Nat.{◌<◌}
use native.Mathlib.Omega.{arith}
use borrow.Author.Tests.{eq-eqb, ne_eqb}
use Rattle.words.specs.Table.{row_count}
use Rattle.check_structure.specs.LinkLaws.{part-inside}
use Rattle.check_parameter_causes.specs.Parameters.{some_of_list}
use Rattle.check_parameter_causes.proofs.SearchLaws.{some-none, some-here, some-step}
use Rattle.check_declaration_causes.specs.Causes.{same_number}
use Rattle.check_declarations.specs.WalkLaws.{left, part_falls}
use Rattle.check_declarations.proofs.breaks.listed.Goals as goal

pub number_at-number-requires : goal.number_at-number-requires
number_at-number-requires c = let n = c.requires.2 in omega arith

pub loop-parameter-init : goal.loop-parameter-init
loop-parameter-init c = (c.requires.1, refl)

pub returns-then-parameter-eq0 : goal.returns-then-parameter-eq0
returns-then-parameter-eq0 c = sym (c.loop-parameter.invariant.1 ∙ some-none _ c.requires.0 _ _ c.if-parameter-eq0.true)

pub number_at-requires : goal.number_at-requires
number_at-requires c = let n = c.loop-parameter.invariant.0 in omega arith

pub returns-then-number_at-number : goal.returns-then-number_at-number
unfolding same_number
returns-then-number_at-number c =
    let s = c.before.before.before.before.before in
    let at = c.loop-parameter in
    sym (at.invariant.1 ∙ some-here _ s.requires.0 _ at.parameter c.if-parameter-eq0.false at.invariant.0 (eq-eqb _ _ (sym c.number_at.ensures ∙ c.if-number_at-number.true ∙ c.number_at-number.ensures)))

pub link-parameter-requires : goal.link-parameter-requires
link-parameter-requires c = let s = c.before.before.before.before.before in let n = c.loop-parameter.invariant.0 in let whole = s.requires.0.whole in (omega arith, omega arith)

pub loop-parameter-smaller : goal.loop-parameter-smaller
loop-parameter-smaller c =
    let s = c.before.before.before.before.before.before in
    let at = c.loop-parameter in
    part_falls s.args.rows.now s.requires.0 at.parameter 5 _ c.if-parameter-eq0.false at.invariant.0 (omega arith) c.link-parameter.ensures

pub loop-parameter-preserved : goal.loop-parameter-preserved
unfolding same_number
loop-parameter-preserved c =
    let s = c.before.before.before.before.before.before in
    let rows = s.args.rows.now in
    let at = c.loop-parameter in (
      part-inside rows s.requires.0 at.parameter 5 _ at.invariant.0 (omega arith) c.link-parameter.ensures,
      at.invariant.1
          ∙ some-step rows s.requires.0 (same_number rows s.args.row) at.parameter c.if-parameter-eq0.false at.invariant.0
          ∙ rw (ne_eqb _ _ (λ q. c.if-number_at-number.false (c.number_at.ensures ∙ q ∙ sym c.number_at-number.ensures)), ← c.link-parameter.ensures),
    )
