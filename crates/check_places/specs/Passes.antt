-- Passes: the notes that one pass writes for causes 7 and 8.
use Rattle.std.specs.Prelude.{◌≡◌, List, ℕ, ◌≤◌, ℤ, length, get_or}
use Rattle.words.specs.Table.{row_count}
use Rattle.check_structure.specs.Passes.{Notes}
use Rattle.check_notes.specs.RowNotes.{note_at}
use Rattle.check_places.specs.Places.{in_loop, in_loop_or_switch, switch_item, mark_before}

-- There is room for every row's note.
abbrev pub NoteRoom : List ℤ → List ℕ → Type 0
NoteRoom rows notes = row_count rows ≤ length notes

-- The pass begins with such room; row 0 gets none.
abbrev pub NoNotes : List ℤ → List ℕ → Type 0
NoNotes rows notes = NoteRoom rows notes × (get_or notes 0 0 ≡ 0)

-- All four notes of every row.
pub record AllNotes (rows : List ℤ) (loops breakable items before : List ℕ) : Type 0 where
  pub in_loop : Notes rows (note_at in_loop rows) loops
  pub in-loop-or-switch : Notes rows (note_at in_loop_or_switch rows) breakable
  pub switch-item : Notes rows (note_at switch_item rows) items
  pub mark-before : Notes rows (note_at mark_before rows) before
