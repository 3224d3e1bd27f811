-- `after_initial` stores the value in the word of the new object, or hands the stop on.
use mathlib.Core.Path.{refl, sym, ap, ◌∙◌}
use Prim.Native.Nat.{ℕ}
use native.Mathlib.Omega.{arith}
use lib.IntN.{ℤ}
use lib.ListN.{set, length-set}
use Rattle.words.specs.Table.{number_at}
use Rattle.words.specs.Laws.{back}
use Rattle.computation.specs.Remaining.{gives}
use Rattle.language.specs.Meaning.{next}
use Rattle.machine_operations.proofs.Operands.{goes}
use Rattle.machine_flows.proofs.Answers.{ran-next, hands-flow}
use Rattle.machine_flows.proofs.flows.after_initial.Goals as goal

pub returns-in_default : goal.returns-in_default
returns-in_default c n =
    let past-operand = c.operand in
    hands-flow c.args.answer n c.args.store.now c.ranges.answer.sfits refl past-operand.result past-operand.ensures c.in_default.is _

pub link_at-at-requires : goal.link_at-at-requires
link_at-at-requires c =
    (c.requires.0, omega (arith, c.requires.1, c.requires.2))

pub offset_bounds-store-at : goal.offset_bounds-store-at
offset_bounds-store-at c =
    omega (arith, c.link_at-at.ensures, c.requires.1, c.requires.2)

pub bounds-store-at : goal.bounds-store-at
bounds-store-at c =
    omega (arith, c.link_at-at.ensures, c.requires.1)

pub shape_of-store : goal.shape_of-store
shape_of-store c = simp length-set refl

pub returns : goal.returns
returns c n =
    let past-operand = c.operand in
    let past-known-told = c.in-Some.known_told-1-own in
    let store = c.args.store.now in
    let v = c.in-Some.value in
    ran-next n _ ∙ ap (λ (z : ℤ). gives next n (set store c.link_at-at.result z)) (back v past-known-told.given.0.1)
    ∙ ap (λ (i : ℕ). gives next n (set store i v)) c.link_at-at.ensures
    ∙ sym (goes (λ v n s. gives next n (set s (number_at c.args.rows.now c.args.row 1) v)) c.args.answer n store c.ranges.answer.sfits refl past-operand.result past-operand.ensures v c.in-Some.is)
