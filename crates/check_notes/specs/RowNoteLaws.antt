-- Laws of the notes: along the links each row hands its note on; the notes of items and of earlier rows of a list are those of check_items; a
-- pass over the words writes every row's note.
use Rattle.std.specs.Prelude.{◌≡◌, refl, List, ℕ, ◌+◌, ◌≤◌, ◌<◌, ℤ, length, get_or}
use Rattle.std.proofs.Common.{◌∙◌, arith}
use Rattle.words.specs.Table.{row_count, number_at}
use Rattle.words.specs.Kinds.{between}
use Rattle.words.specs.Links.{link}
use Rattle.check_structure.specs.NoteLaws.{note-root, note-link, Noted, noted-start}
use Rattle.check_structure.specs.Passes.{written, Notes}
use Rattle.check_structure.specs.Structured.{Leads, Tree}
use Rattle.check_structure.specs.WrittenLaws.{written-length, written-noted, notes-written}
use Rattle.check_items.specs.Items.{item_at, earlier_at}
use Rattle.check_notes.specs.RowNotes.{handed, note_at}
use Rattle.check_notes.specs.declared.Note.{Note}
use Rattle.check_notes.specs.declared.Note.TheVariants.{ItemOf, Before}

pub note_at-root : (which : Note) (rows : List ℤ) → note_at which rows 0 ≡ 0
unfolding note_at
note_at-root which rows = note-root (handed which rows) 0 rows

pub note_at-link : (rows : List ℤ) → Tree rows → (which : Note) (row field : ℕ) → field < 6 → Leads rows row field
    → note_at which rows (link rows row field) ≡ handed which rows row field (note_at which rows row)
unfolding note_at
note_at-link rows t which row field h leads = note-link (handed which rows) 0 rows t row field h leads

pub item-note : (kind part : ℕ) (rows : List ℤ) (row : ℕ) → note_at (ItemOf kind part) rows row ≡ item_at rows kind part row
unfolding note_at handed item_at
item-note kind part rows row = refl

pub before-note : (first last : ℕ) (rows : List ℤ) (row : ℕ) → note_at (Before first last) rows row ≡ earlier_at (λ row. between first last (number_at rows row 0)) rows row
unfolding note_at handed earlier_at
before-note first last rows row = refl

-- notes in an array are those of any equal note
pub same-notes : {rows : List ℤ} {note other : ℕ → ℕ} {notes : List ℕ} → ((row : ℕ) → note row ≡ other row) → Notes rows note notes → Notes rows other notes
same-notes same n = record { room = n.room; is = λ row h. n.is row h ∙ same row }

-- ---- a pass over the words

-- The notes after so many words; the array keeps its length.
pub record Noting (which : Note) (rows : List ℤ) (start : List ℕ) (words : ℕ) (notes : List ℕ) : Type 0 where
  pub same : length notes ≡ length start
  pub noted : (t : Tree rows) → Noted (handed which rows) 0 rows t words notes

module _ {which : Note} {rows : List ℤ} {start : List ℕ} where
  pub noting-begun : row_count rows ≤ length start → get_or start 0 0 ≡ 0 → Noting which rows start 0 start
  noting-begun room root = record { same = refl; noted = λ t. noted-start _ _ _ t _ room root }

  pub noting-on : {words : ℕ} {notes next : List ℕ} → words < length rows → Noting which rows start words notes → next ≡ written (handed which rows) rows words notes → Noting which rows start (words + 1) next
  noting-on {words} {notes} h n e =
      record {
        same = rw e (written-length _ _ _ _ ∙ n.same);
        noted = λ t. rw e (written-noted _ _ _ _ _ t (let whole = t.whole in omega arith) (n.noted t));
      }

  pub noting-ended : {words : ℕ} {notes : List ℕ} → (t : Tree rows) → length rows ≤ words → Noting which rows start words notes → Notes rows (note_at which rows) notes
  unfolding note_at
  noting-ended t h n = notes-written _ _ _ t _ _ (let whole = t.whole in omega arith) (n.noted t)
