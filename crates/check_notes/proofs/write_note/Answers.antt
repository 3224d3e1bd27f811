-- `write_note` writes where its word links a row, and leaves the notes elsewhere.
use native.Mathlib.Omega.{arith}
use Rattle.words.specs.Links.{target}
use Rattle.check_structure.specs.WrittenLaws.{linked-inside, written_none, written-link}
use borrow.Author.Rules.{rules}
use Rattle.check_notes.proofs.write_note.Goals as goal

pub offset_bounds-notes-linked : goal.offset_bounds-notes-linked
unfolding target
offset_bounds-notes-linked c =
    let start = c.before.before.before.before in
    let few = start.requires.0.few in
    let inside = linked-inside _ start.args.word _ start.requires.0 start.requires.2 start.requires.3 c.if-linked-ne0.true in
    omega arith

pub bounds-notes-linked : goal.bounds-notes-linked
unfolding target
bounds-notes-linked c =
    let start = c.before.before.before.before in
    let inside = linked-inside _ start.args.word _ start.requires.0 start.requires.2 start.requires.3 c.if-linked-ne0.true in
    let room = start.requires.1 in
    omega arith

pub returns-then-linked-ne0 : goal.returns-then-linked-ne0
returns-then-linked-ne0 c =
    written-link _ _ _ _ _ _ c.requires.3 c.if-linked-ne0.true c.hand-note.ensures

pub returns-else-linked-ne0 : goal.returns-else-linked-ne0
returns-else-linked-ne0 c =
    written_none _ _ _ _ _ c.requires.3 c.if-linked-ne0.false
