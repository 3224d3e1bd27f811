-- `same_length` goes through both lists. The invariant: what is left of them compares as they do.
use mathlib.Core.Path.{◌≡◌, refl}
use Prim.Native.Nat.{◌<◌}
use native.Mathlib.Omega.{arith}
use lib.Dec.{eqb}
use Rattle.words.specs.Table.{row_count}
use Rattle.check_structure.specs.LinkLaws.{part-inside}
use Rattle.check_function_causes.specs.Functions.{list_length}
use Rattle.check_function_causes.proofs.LengthLaws.{length-step}
use Rattle.check_functions.specs.KnownLaws.{both-ended, one_ended, both-on}
use Rattle.check_functions.proofs.calls.same_length.Given as goal

abbrev pub invariant-loop-row : goal.invariant-loop-row
invariant-loop-row l =
    (l.row < row_count l.rows) × (l.beside < row_count l.rows) × (eqb (list_length l.rows l.one) (list_length l.rows l.other) ≡ eqb (list_length l.rows l.row) (list_length l.rows l.beside))

abbrev pub decreases-loop-row : goal.decreases-loop-row
decreases-loop-row l =
    list_length l.rows l.row
