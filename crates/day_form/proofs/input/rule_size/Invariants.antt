-- `rule_size` walks the bytes; the invariant is `Passed`.
use Rattle.day_form.proofs.Bounds.{Passed}
use Rattle.day_form.proofs.input.rule_size.Given as goal

abbrev pub invariant-loop-at : goal.invariant-loop-at
invariant-loop-at l =
    Passed l.input l.at l.starts
