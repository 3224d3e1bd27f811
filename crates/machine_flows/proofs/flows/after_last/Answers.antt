-- `after_last` goes by who decides, and then by the value.
use mathlib.Core.Path.{sym, ap, ◌∙◌}
use Rattle.arithmetic.specs.Arithmetic.{is_true}
use Rattle.words.specs.Laws.{back}
use Rattle.machine_operations.proofs.Operands.{chosen-true, chosen-false}
use Rattle.machine_flows.proofs.Answers.{turned-last, turned-again}
use Rattle.machine_flows.proofs.flows.after_last.Goals as goal
use Rattle.machine_flows.proofs.flows.after_last.Goals.{else-decides-via-then-decides+else-not-is_true, else-decides-via-else-decides}

pub returns-then-not-is_true : goal.returns-then-not-is_true
returns-then-not-is_true c =
    λ n s. turned-last n s ∙ sym (chosen-true c.args.decides _ _ c.if-decides.true ∙ chosen-false (is_true c.args.value) _ _ (sym (ap is_true (back c.args.value c.ranges.value.sfits)) ∙ sym c.is_true.ensures ∙ c.if-not-is_true.true))

pub returns : goal.returns
returns c =
    elim c.else-decides.branch [
      | else-decides-via-then-decides+else-not-is_true w ↦ λ n s.
          turned-again n s ∙ sym (chosen-true c.args.decides _ _ w.if-decides.true ∙ chosen-true (is_true c.args.value) _ _ (sym (ap is_true (back c.args.value c.ranges.value.sfits)) ∙ sym w.is_true.ensures ∙ w.if-not-is_true.false))
      | else-decides-via-else-decides w ↦ λ n s. turned-again n s ∙ sym (chosen-false c.args.decides _ _ w.if-decides.false)
    ]
