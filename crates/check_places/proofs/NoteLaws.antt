-- Laws of the notes: those inside loops and switches, those of switch items and of marks.
use Rattle.std.specs.Prelude.{◌≡◌, refl, Bool, List, ℕ, eqb, ℤ}
use Rattle.words.specs.Word.{pick}
use Rattle.words.specs.Table.{number_at}
use Rattle.check_structure.specs.Passes.{Notes}
use Rattle.check_items.specs.Items.{item_at, earlier_at}
use Rattle.check_notes.specs.RowNotes.{handed, note_at}
use Rattle.check_notes.specs.RowNoteLaws.{item-note, before-note, same-notes}
use Rattle.check_notes.specs.declared.Note.{Note}
use Rattle.check_places.specs.Places.{is_loop, is_loop_or_switch, mark_at, in_loop, in_loop_or_switch, switch_item, mark_before}

-- The rule of a note that tells what stands inside a row of such a kind.
abbrev pub Around : List ℤ → Note → (ℕ → Bool) → Type 0
Around rows which kinds = (owner field own : ℕ) → handed which rows owner field own ≡ pick (eqb field 5) own (pick (kinds (number_at rows owner 0)) 1 own)

pub loop-around : (rows : List ℤ) → Around rows in_loop is_loop
unfolding handed
loop-around rows owner field own = refl

pub loop-or-switch-around : (rows : List ℤ) → Around rows in_loop_or_switch is_loop_or_switch
unfolding handed
loop-or-switch-around rows owner field own = refl

pub switch-item-note : (rows : List ℤ) (row : ℕ) → note_at switch_item rows row ≡ item_at rows 47 2 row
switch-item-note rows row = item-note 47 2 rows row

pub mark-notes : {rows : List ℤ} {before : List ℕ} → Notes rows (note_at mark_before rows) before → Notes rows (earlier_at (mark_at rows) rows) before
mark-notes {rows} notes = same-notes (before-note _ _ rows) notes
