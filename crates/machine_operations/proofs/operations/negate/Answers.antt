-- `negate` takes the logical not of the operand, or minus it, or hands the stop on.
use mathlib.Core.Path.{refl, sym, ap, ◌∙◌}
use lib.IntN.{ℤ}
use Rattle.words.specs.Laws.{back}
use Rattle.arithmetic.specs.Arithmetic.{logical_not, minus as minus_word}
use Rattle.computation.specs.Remaining.{gives}
use Rattle.machine_operations.proofs.Decoding.{wide_fits, answered-wide}
use Rattle.machine_operations.proofs.Operands.{goes, hands-up, settled_is, chosen-true, chosen-false}
use Rattle.machine_operations.proofs.operations.negate.Goals as goal

pub returns-in_default : goal.returns-in_default
returns-in_default c n s =
    let start = c.before.before in
    let past-operand = c.operand in
    hands-up start.args.answer n s start.ranges.answer.sfits refl past-operand.result past-operand.ensures c.in_default.is _

pub overflow_cast-result : goal.overflow_cast-result
overflow_cast-result c = wide_fits c.logical_not.result c.logical_not.type_inv

pub returns-then-truth : goal.returns-then-truth
returns-then-truth c n s =
    let start = c.before.before.before.before in
    let past-operand = c.operand in
    let past-known-told = c.in-Some.known_told-1-own in
    let past-logical-not = c.logical_not in
    answered-wide past-logical-not.result past-logical-not.type_inv n s ∙ ap (λ (z : ℤ). gives z n s) (past-logical-not.ensures ∙ ap logical_not (back c.in-Some.value past-known-told.given.0.1))
    ∙ sym (goes _ start.args.answer n s start.ranges.answer.sfits refl past-operand.result past-operand.ensures c.in-Some.value c.in-Some.is ∙ chosen-true _ _ _ c.if-truth.true)

pub returns : goal.returns
returns c n s =
    let start = c.before.before.before.before.before in
    let past-operand = c.operand in
    let past-known-told = c.in-Some.known_told-1-own in
    let past-minus = c.minus in
    let past-settled = c.settled in
    settled_is past-settled.result past-minus.result (minus_word c.in-Some.value) past-settled.type_inv past-settled.ensures (past-minus.ensures ∙ ap minus_word (back c.in-Some.value past-known-told.given.0.1)) n s
    ∙ sym (goes _ start.args.answer n s start.ranges.answer.sfits refl past-operand.result past-operand.ensures c.in-Some.value c.in-Some.is ∙ chosen-false _ _ _ c.if-truth.false)
