-- `room_behind` takes the sizes off the room; the invariant is `Behind`.
use Rattle.flat_text.proofs.Rooms.{Behind}
use Rattle.flat_text.proofs.writer.room_behind.Given as goal

abbrev pub invariant-loop-word : goal.invariant-loop-word
invariant-loop-word l = Behind l.words l.room l.left l.word-index
