-- `write_notes` goes over the words in order. The invariant: the notes of row 0 and of the rows linked so far are written.
use Prim.Native.Nat.{◌-◌, ◌≤◌}
use native.Mathlib.Omega.{arith}
use lib.ListN.{length}
use Rattle.words.specs.Links.{target}
use Rattle.check_notes.specs.RowNoteLaws.{Noting, noting-begun, noting-on, noting-ended}
use Rattle.check_notes.proofs.write_notes.Goals as goal

pub loop-word-init : goal.loop-word-init
loop-word-init c =
    (omega arith, noting-begun c.requires.1 c.requires.2)

pub link-linked-requires : goal.link-linked-requires
link-linked-requires c =
    let whole = c.requires.0.whole in (omega arith, omega arith)

pub write_note-requires : goal.write_note-requires
unfolding target
write_note-requires c =
    let start = c.before.before.before.before.before in
    let room = start.requires.1 in
    let same = c.loop-word.invariant.1.same in
    (start.requires.0, omega arith, omega arith, c.link-linked.ensures)

pub loop-word-preserved : goal.loop-word-preserved
loop-word-preserved c =
    (omega arith, noting-on (omega arith) c.loop-word.invariant.1 c.write_note.ensures)

pub shape_of-notes : goal.shape_of-notes
shape_of-notes c =
    c.loop-word.invariant.1.same

pub returns : goal.returns
returns c =
    noting-ended c.requires.0 (omega arith) c.loop-word.invariant.1
