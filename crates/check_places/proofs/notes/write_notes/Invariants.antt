-- `write_notes` goes over the words in order. The invariant, for each of the four notes: those of row 0 and of the rows linked so far
-- are written.
use Prim.Native.Nat.{◌≤◌, ◌-◌}
use native.Mathlib.Omega.{arith}
use lib.ListN.{length}
use Rattle.words.specs.Links.{target}
use Rattle.check_notes.specs.RowNoteLaws.{Noting, noting-begun, noting-on, noting-ended}
use Rattle.check_places.specs.Places.{in_loop, in_loop_or_switch, switch_item, mark_before}
use Rattle.check_places.proofs.notes.write_notes.Given as goal

abbrev pub invariant-loop-word : goal.invariant-loop-word
invariant-loop-word l =
    (l.word ≤ length l.rows)
    × Noting in_loop l.rows l.initial.loops l.word l.loops
    × Noting in_loop_or_switch l.rows l.initial.breakable l.word l.breakable
    × Noting switch_item l.rows l.initial.items l.word l.items
    × Noting mark_before l.rows l.initial.before l.word l.before

abbrev pub decreases-loop-word : goal.decreases-loop-word
decreases-loop-word l =
    length l.rows - l.word
