-- `write_note` writes what the definition does; a row number fits 16 bits.
use mathlib.Core.Path.{◌∙◌}
use Prim.Native.Nat.{◌/◌, ◌<◌}
use native.Mathlib.Omega.{arith}
use borrow.Author.Rules.{rules}
use Rattle.words.specs.Table.{row_count}
use Rattle.words.specs.Links.{target}
use Rattle.check_structure.specs.WrittenLaws.{linked-inside, written_none, written-link}
use Rattle.check_labels.proofs.Handed.{handed-small}
use borrow.Author.Rules.{rules}
use Rattle.check_labels.proofs.notes.write_note.Goals as goal
use Rattle.check_labels.proofs.notes.write_note.Goals.{Then-linked-ne0}

-- a link leads to a row of the table
inside : (c : Then-linked-ne0) → c.link-linked.result < row_count c.args.rows.now
inside c = let s = c.before.before.before in linked-inside _ _ _ s.requires.0 (omega arith) c.link-linked.ensures c.if-linked-ne0.true

pub narrow-requires : goal.narrow-requires
narrow-requires c =
    let s = c.before.before.before.before.before.before in
    let few = s.requires.0.few in
    let linked = inside (goal.at.narrow-requires c).Then-linked-ne0 in
    rw c.hand-note.ensures (handed-small _ _ _ _ _ (omega arith) (rw (← c.link-linked.ensures) (omega arith)) (let small = c.wide.ensures in let given = c.slice_known-then-linked-ne0-1.given (s.args.word / 6) in omega arith))

pub offset_bounds-notes-linked : goal.offset_bounds-notes-linked
offset_bounds-notes-linked c = let linked = inside (goal.at.offset_bounds-notes-linked c).Then-linked-ne0 in let s = c.before.before.before.before.before.before.before in let few = s.requires.0.few in record { fits = omega arith }

pub bounds-notes-linked : goal.bounds-notes-linked
bounds-notes-linked c = let linked = inside (goal.at.bounds-notes-linked c).Then-linked-ne0 in let s = c.before.before.before.before.before.before.before in omega arith

pub returns-then-linked-ne0 : goal.returns-then-linked-ne0
unfolding target
returns-then-linked-ne0 c = written-link _ _ _ _ _ _ c.link-linked.ensures c.if-linked-ne0.true (c.narrow.ensures ∙ c.hand-note.ensures ∙ rw c.wide.ensures)

pub returns-else-linked-ne0 : goal.returns-else-linked-ne0
unfolding target
returns-else-linked-ne0 c = written_none _ _ _ _ _ c.link-linked.ensures c.if-linked-ne0.false
