-- `write_notes_by` goes over the words in order. The invariant: the notes of row 0 and of the rows linked so far are written.
use mathlib.Core.Path.{◌≡◌, refl, ◌∙◌}
use Prim.Native.Nat.{◌≤◌, ◌-◌}
use native.Mathlib.Omega.{arith}
use lib.ListN.{length}
use borrow.Author.Rules.{rules}
use Rattle.check_structure.specs.NoteLaws.{Noted, noted-start}
use Rattle.check_structure.specs.Structured.{Tree}
use Rattle.check_labels.specs.Passes.{handed, note_at}
use Rattle.check_structure.specs.WrittenLaws.{written-length, written-noted, notes-written}
use Rattle.check_labels.proofs.notes.write_notes_by.Goals as goal

pub loop-word-init : goal.loop-word-init
loop-word-init c = (omega arith, refl, refl, λ t. noted-start _ _ _ t _ c.requires.1 c.requires.2)

pub write_note-requires : goal.write_note-requires
write_note-requires c = (c.requires.0, omega arith, omega arith)

pub loop-word-preserved : goal.loop-word-preserved
loop-word-preserved c = (
  omega arith,
  refl,
  rw c.write_note.ensures (written-length _ _ _ _ ∙ c.loop-word.invariant.2),
  λ t. rw c.write_note.ensures (written-noted _ _ _ _ _ t (let whole = t.whole in omega arith) (c.loop-word.invariant.3 t)),
)

pub shape_of-notes : goal.shape_of-notes
shape_of-notes c = c.loop-word.invariant.2

pub returns : goal.returns
unfolding note_at
returns c =
    let t = c.requires.0 in
    let whole = t.whole in
    notes-written _ _ _ t _ _ (omega arith) (c.loop-word.invariant.3 t)
