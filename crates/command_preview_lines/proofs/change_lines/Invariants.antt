-- `change_lines` passes one place after the other; the invariant is `Passed`.
use Rattle.command_preview_lines.proofs.Changed.{Passed}
use Rattle.command_preview_lines.proofs.change_lines.Given as goal

abbrev pub invariant-loop-i : goal.invariant-loop-i
invariant-loop-i l = Passed l.size l.store l.left l.i l.at l.initial.text l.text
