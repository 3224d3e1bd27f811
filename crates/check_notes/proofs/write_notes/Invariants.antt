-- `write_notes` goes over the words in order. The invariant: the notes of row 0 and of the rows linked so far are written.
use Prim.Native.Nat.{◌-◌, ◌≤◌}
use native.Mathlib.Omega.{arith}
use lib.ListN.{length}
use Rattle.words.specs.Links.{target}
use Rattle.check_notes.specs.RowNoteLaws.{Noting, noting-begun, noting-on, noting-ended}
use Rattle.check_notes.proofs.write_notes.Given as goal

abbrev pub invariant-loop-word : goal.invariant-loop-word
invariant-loop-word l =
    (l.word ≤ length l.rows) × Noting l.which l.rows l.initial.notes l.word l.notes

abbrev pub decreases-loop-word : goal.decreases-loop-word
decreases-loop-word l =
    length l.rows - l.word
