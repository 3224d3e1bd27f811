-- `write_notes` goes over the words in order. The invariant, for each of the four notes: those of row 0 and of the rows linked so far
-- are written.
use Prim.Native.Nat.{◌≤◌, ◌-◌}
use native.Mathlib.Omega.{arith}
use lib.ListN.{length}
use Rattle.words.specs.Links.{target}
use Rattle.check_notes.specs.RowNoteLaws.{Noting, noting-begun, noting-on, noting-ended}
use Rattle.check_places.specs.Places.{in_loop, in_loop_or_switch, switch_item, mark_before}
use Rattle.check_places.proofs.notes.write_notes.Goals as goal

pub loop-word-init : goal.loop-word-init
loop-word-init c =
    let none = c.requires in
    (omega arith, noting-begun none.1.0 none.1.1, noting-begun none.2.0 none.2.1, noting-begun none.3.0 none.3.1, noting-begun none.4.0 none.4.1)

pub link-linked-requires : goal.link-linked-requires
link-linked-requires c =
    let whole = c.requires.0.whole in (omega arith, omega arith)

pub write_linked-requires : goal.write_linked-requires
unfolding target
write_linked-requires c =
    let start = c.before.before.before.before.before.before.before.before.before.before.before in
    let held = c.loop-word.invariant in
    let same = held.1.same in
    let same-2 = held.2.same in
    let same-3 = held.3.same in
    let same-4 = held.4.same in
    let room = start.requires.1.0 in
    let room-2 = start.requires.2.0 in
    let room-3 = start.requires.3.0 in
    let room-4 = start.requires.4.0 in
    record { tree = (start.requires.0, omega arith, c.link-linked.ensures); note_room = (omega arith, omega arith, omega arith, omega arith) }

pub loop-word-preserved : goal.loop-word-preserved
loop-word-preserved c =
    let held = c.loop-word.invariant in
    let wrote = c.write_linked.ensures in (
      omega arith,
      noting-on (omega arith) held.1 wrote.loops_after,
      noting-on (omega arith) held.2 wrote.breakable_after,
      noting-on (omega arith) held.3 wrote.after,
      noting-on (omega arith) held.4 wrote.before_after,
    )

pub shape_of-loops : goal.shape_of-loops
shape_of-loops c =
    c.loop-word.invariant.1.same

pub shape_of-breakable : goal.shape_of-breakable
shape_of-breakable c =
    c.loop-word.invariant.2.same

pub shape_of-items : goal.shape_of-items
shape_of-items c =
    c.loop-word.invariant.3.same

pub shape_of-before : goal.shape_of-before
shape_of-before c =
    c.loop-word.invariant.4.same

pub returns : goal.returns
returns c =
    let t = c.requires.0 in
    let held = c.loop-word.invariant in
    record {
      in_loop = noting-ended t (omega arith) held.1;
      in-loop-or-switch = noting-ended t (omega arith) held.2;
      switch-item = noting-ended t (omega arith) held.3;
      mark-before = noting-ended t (omega arith) held.4;
    }
