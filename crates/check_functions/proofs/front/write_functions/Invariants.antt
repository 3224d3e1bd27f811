-- `write_functions` walks along the run. The invariant: the definitions of the numbers passed are written, and the row at the next place is known.
use mathlib.Core.Path.{sym, ◌∙◌}
use Prim.Native.Nat.{◌-◌}
use native.Mathlib.Omega.{arith}
use Rattle.words.specs.Table.{row_count}
use Rattle.check_functions.specs.WalkLaws.{Walking, walking-begun, walking-number, walking_on, walking-ended}
use Rattle.check_functions.proofs.front.write_functions.Given as goal

abbrev pub invariant-loop-functions : goal.invariant-loop-functions
invariant-loop-functions l =
    Walking l.rows l.initial.functions l.functions l.number l.row

abbrev pub decreases-loop-functions : goal.decreases-loop-functions
decreases-loop-functions l =
    row_count l.rows - l.number
