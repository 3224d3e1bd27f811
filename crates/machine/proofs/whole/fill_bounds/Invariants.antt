-- `fill_bounds` writes the bounds in order. The invariant: what is written, and the bounds of the lengths to come, are all bounds.
use Rattle.machine.proofs.Bounds.{Filled}
use Rattle.machine.proofs.whole.fill_bounds.Given as goal

abbrev pub invariant-loop-i : goal.invariant-loop-i
invariant-loop-i l = Filled l.lengths l.variables l.bounds l.total l.i
