-- `all_named` walks the pairs; the invariant is `Named`.
use Prim.Native.Nat.{◌*◌}
use Rattle.day_form.proofs.Tests.{Named}
use Rattle.day_form.proofs.lines.all_named.Given as goal

abbrev pub invariant-loop-i : goal.invariant-loop-i
invariant-loop-i l =
    Named l.variables l.numbers (2 * l.i)
