-- `without_guard` says next, or the fault.
use mathlib.Core.Path.{sym, ◌∙◌}
use Rattle.machine_operations.proofs.Operands.{chosen-true, chosen-false}
use Rattle.machine_flows.proofs.Answers.{ran-next, ran-guard}
use Rattle.machine_flows.proofs.flows.without_guard.Goals as goal

pub returns-then-repeats : goal.returns-then-repeats
returns-then-repeats c n s = ran-next n s ∙ sym (chosen-true _ _ _ c.if-repeats.true)

pub returns : goal.returns
returns c n s = ran-guard n s ∙ sym (chosen-false _ _ _ c.if-repeats.false)
