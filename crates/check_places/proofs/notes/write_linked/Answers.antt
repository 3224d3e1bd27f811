-- `write_linked` writes where its word links a row, and leaves all notes elsewhere.
use native.Mathlib.Omega.{arith}
use Rattle.words.specs.Links.{target}
use Rattle.check_structure.specs.WrittenLaws.{linked-inside, written_none, written-link}
use Rattle.check_notes.specs.RowNotes.{handed}
use borrow.Author.Rules.{rules}
use Rattle.check_places.proofs.notes.write_linked.Goals as goal

pub offset_bounds-loops-linked : goal.offset_bounds-loops-linked
unfolding target
offset_bounds-loops-linked c =
    let start = c.before.before.before.before.before.before.before in
    let few = start.requires.tree.0.few in
    let inside = linked-inside _ start.args.word _ start.requires.tree.0 start.requires.tree.1 start.requires.tree.2 c.if-linked-ne0.true in
    omega arith

pub bounds-loops-linked : goal.bounds-loops-linked
unfolding target
bounds-loops-linked c =
    let start = c.before.before.before.before.before.before.before in
    let inside = linked-inside _ start.args.word _ start.requires.tree.0 start.requires.tree.1 start.requires.tree.2 c.if-linked-ne0.true in
    let room = start.requires.note_room.0 in
    omega arith

pub offset_bounds-breakable-linked : goal.offset_bounds-breakable-linked
unfolding target
offset_bounds-breakable-linked c =
    let start = c.before.before.before.before.before.before.before.before.before in
    let few = start.requires.tree.0.few in
    let inside = linked-inside _ start.args.word _ start.requires.tree.0 start.requires.tree.1 start.requires.tree.2 c.if-linked-ne0.true in
    omega arith

pub bounds-breakable-linked : goal.bounds-breakable-linked
unfolding target
bounds-breakable-linked c =
    let start = c.before.before.before.before.before.before.before.before.before in
    let inside = linked-inside _ start.args.word _ start.requires.tree.0 start.requires.tree.1 start.requires.tree.2 c.if-linked-ne0.true in
    let room = start.requires.note_room.1 in
    omega arith

pub offset_bounds-items-linked : goal.offset_bounds-items-linked
unfolding target
offset_bounds-items-linked c =
    let start = c.before.before.before.before.before.before.before.before.before.before.before in
    let few = start.requires.tree.0.few in
    let inside = linked-inside _ start.args.word _ start.requires.tree.0 start.requires.tree.1 start.requires.tree.2 c.if-linked-ne0.true in
    omega arith

pub bounds-items-linked : goal.bounds-items-linked
unfolding target
bounds-items-linked c =
    let start = c.before.before.before.before.before.before.before.before.before.before.before in
    let inside = linked-inside _ start.args.word _ start.requires.tree.0 start.requires.tree.1 start.requires.tree.2 c.if-linked-ne0.true in
    let room = start.requires.note_room.2 in
    omega arith

pub offset_bounds-before-linked : goal.offset_bounds-before-linked
unfolding target
offset_bounds-before-linked c =
    let start = c.before.before.before.before.before.before.before.before.before.before.before.before.before in
    let few = start.requires.tree.0.few in
    let inside = linked-inside _ start.args.word _ start.requires.tree.0 start.requires.tree.1 start.requires.tree.2 c.if-linked-ne0.true in
    omega arith

pub bounds-before-linked : goal.bounds-before-linked
unfolding target
bounds-before-linked c =
    let start = c.before.before.before.before.before.before.before.before.before.before.before.before.before in
    let inside = linked-inside _ start.args.word _ start.requires.tree.0 start.requires.tree.1 start.requires.tree.2 c.if-linked-ne0.true in
    let room = start.requires.note_room.3 in
    omega arith

pub returns-then-linked-ne0 : goal.returns-then-linked-ne0
unfolding handed
returns-then-linked-ne0 c =
    let start = c.before.before.before.before.before.before.before.before.before.before.before.before.before in
    let links = start.requires.tree.2 in
    let taken = c.if-linked-ne0.true in
    let in_loop = written-link _ _ _ _ _ _ links taken c.hand_inside-looped.ensures in
    let breakable = written-link _ _ _ _ _ _ links taken c.hand_inside-broken.ensures in
    let item = written-link _ _ _ _ _ _ links taken c.hand_item-item.ensures in
    record { loops_after = in_loop; breakable_after = breakable; after = item; before_after = written-link _ _ _ _ _ _ links taken c.hand_before-marked.ensures }

pub returns-else-linked-ne0 : goal.returns-else-linked-ne0
returns-else-linked-ne0 c =
    let links = c.requires.tree.2 in
    let none = c.if-linked-ne0.false in
    record { loops_after = written_none _ _ _ _ _ links none; breakable_after = written_none _ _ _ _ _ links none; after = written_none _ _ _ _ _ links none; before_after = written_none _ _ _ _ _ links none }
