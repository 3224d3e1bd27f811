-- `mark_row` takes the fields in order. The invariant: the links among the words passed are marked.
use mathlib.Core.Path.{◌≡◌}
use Prim.Native.Nat.{◌+◌, ◌*◌}
use lib.ListN.{length}
use Rattle.check_structure.specs.Passes.{Marked}
use Rattle.check_structure.proofs.links.mark_row.Given as goal

abbrev pub invariant-loop-field : goal.invariant-loop-field
invariant-loop-field l =
    (length l.marks ≡ length l.initial.marks) × Marked l.rows (6 * l.row + l.field) l.marks
