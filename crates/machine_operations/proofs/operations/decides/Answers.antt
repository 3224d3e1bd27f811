-- `decides` tests the operand's truth one way or the other.
use mathlib.Core.Path.{sym, ap, ◌∙◌}
use mathlib.Core.Bool.{Bool, not}
use Rattle.words.specs.Word.{pick}
use Rattle.arithmetic.specs.Arithmetic.{is_true}
use Rattle.words.specs.Laws.{back}
use Rattle.machine_operations.proofs.operations.decides.Goals as goal

pub returns-then-decided : goal.returns-then-decided
returns-then-decided c =
    let start = c.before.before in
    c.is_true.ensures ∙ ap is_true (back start.args.value start.ranges.value.sfits) ∙ ap (λ (d : Bool). pick d (is_true start.args.value) (not (is_true start.args.value))) (sym c.if-decided.true)

pub returns : goal.returns
returns c =
    let start = c.before.before in
    ap not (c.is_true-2.ensures ∙ ap is_true (back start.args.value start.ranges.value.sfits)) ∙ ap (λ (d : Bool). pick d (is_true start.args.value) (not (is_true start.args.value))) (sym c.if-decided.false)
