-- `write_notes_by` goes over the words in order. The invariant: the notes of row 0 and of the rows linked so far are written.
use mathlib.Core.Path.{◌≡◌, refl, ◌∙◌}
use Prim.Native.Nat.{◌≤◌, ◌-◌}
use native.Mathlib.Omega.{arith}
use lib.ListN.{length}
use borrow.Author.Rules.{rules}
use Rattle.check_structure.specs.NoteLaws.{Noted, noted-start}
use Rattle.check_structure.specs.Structured.{Tree}
use Rattle.check_labels.specs.Passes.{handed, note_at}
use Rattle.check_structure.specs.WrittenLaws.{written-length, written-noted, notes-written}
use Rattle.check_labels.proofs.notes.write_notes_by.Given as goal

abbrev pub invariant-loop-word : goal.invariant-loop-word
invariant-loop-word l = (l.word ≤ length l.rows) × (l.word-end ≡ length l.rows) × (length l.notes ≡ length l.initial.notes) × ((t : Tree l.rows) → Noted (handed l.which l.rows) 0 l.rows t l.word l.notes)

abbrev pub decreases-loop-word : goal.decreases-loop-word
decreases-loop-word l = length l.rows - l.word
