-- `room_behind` takes the sizes off the room; the invariant is `Behind`.
use native.Mathlib.Omega.{arith}
use lib.IntN.{ℤ, pos}
use lib.ListN.{get_or}
use Rattle.text_numbers.proofs.Signs.{length-again}
use Rattle.text_numbers.specs.PutLaws.{number-eleven}
use Rattle.flat_text.proofs.Rooms.{behind-start, behind-end, behind-short, behind-next}
use Rattle.flat_text.proofs.writer.room_behind.Goals as goal
use Rattle.flat_text.proofs.writer.room_behind.Goals.{After-number_size-size}

pub loop-word-init : goal.loop-word-init
loop-word-init c = behind-start _ _

-- the word whose size was taken
abbrev measured : After-number_size-size → ℤ
measured c = get_or c.args.words.now c.loop-word.word-index (pos 0)

pub overflow_add-size : goal.overflow_add-size
overflow_add-size c = omega (arith, length-again (measured c) _ (record { sfits = c.number_size-arg-1.given }) c.number_size-size.ensures, number-eleven (measured c) c.number_size-arg-1.given)

pub returns-then-left-size : goal.returns-then-left-size
returns-then-left-size c = behind-short c.loop-word.invariant c.loop-word-test.true c.number_size-arg-1.given _ (length-again _ _ (record { sfits = c.number_size-arg-1.given }) c.number_size-size.ensures) c.if-left-size.true

pub loop-word-preserved : goal.loop-word-preserved
loop-word-preserved c = behind-next c.loop-word.invariant c.loop-word-test.true c.number_size-arg-1.given _ (length-again _ _ (record { sfits = c.number_size-arg-1.given }) c.number_size-size.ensures) c.if-left-size.false

pub returns : goal.returns
returns c = behind-end c.loop-word.invariant c.loop-word-test.false
