-- `put_number`: a minus sign where there is one, and the digits of the size behind it.
use mathlib.Core.Path.{◌≡◌, sym, ◌∙◌}
use native.Mathlib.Omega.{arith}
use mathlib.Core.List.{◌∷◌}
use lib.ListN.{length-set}
use Rattle.text_numbers.specs.Number.{digits, number_bytes}
use Rattle.text_numbers.specs.PutLaws.{put_as, LedRoom, led-room, led-back, led-put}
use Rattle.text_numbers.proofs.Signs.{bytes-negative, bytes-positive}
use Rattle.text_numbers.proofs.digits.put_number.Goals as goal
use Rattle.text_numbers.proofs.digits.put_number.Goals.{Else-number-lt0, Then-number-lt0}

-- the bytes of a negative number, and their room
signed : (c : Then-number-lt0) → number_bytes c.args.number ≡ 45 ∷ digits c.from-n.result
signed c = bytes-negative _ _ c.ranges.number (c.from-n.ensures ∙ c.unsigned_abs.ensures.value) c.if-number-lt0.true

room : (c : Then-number-lt0) → LedRoom 45 (digits c.from-n.result) c.args.text.now
room c = record { room = rw (signed c) at c.requires }

unsigned : (c : Else-number-lt0) → number_bytes c.args.number ≡ digits c.from-n.result
unsigned c = bytes-positive _ _ c.ranges.number (c.from-n.ensures ∙ c.unsigned_abs.ensures.value) c.if-number-lt0.false

pub bounds-text-0 : goal.bounds-text-0
bounds-text-0 c = omega (arith, (room c).room)

pub slice_bounds-put_digits-count : goal.slice_bounds-put_digits-count
slice_bounds-put_digits-count c = simp length-set (omega (arith, (room c).room))

pub slice_bounds-put_digits-start : goal.slice_bounds-put_digits-start
slice_bounds-put_digits-start c = simp length-set (omega (arith, (room c).room))

pub put_digits-requires : goal.put_digits-requires
put_digits-requires c = led-room (room (goal.at.put_digits-requires c).Then-number-lt0)

pub overflow_add-result : goal.overflow_add-result
overflow_add-result c = omega (arith, c.put_digits.ensures.size, (room (goal.at.overflow_add-result c).Then-number-lt0).room)

pub shape_of-text-then-number-lt0 : goal.shape_of-text-then-number-lt0
shape_of-text-then-number-lt0 c = led-back (room (goal.at.shape_of-text-then-number-lt0 c).Then-number-lt0) c.put_digits.new.text c.put_digits.auto.text

pub returns-then-number-lt0 : goal.returns-then-number-lt0
returns-then-number-lt0 c = put_as (sym (signed (goal.at.returns-then-number-lt0 c).Then-number-lt0)) (led-put (room (goal.at.returns-then-number-lt0 c).Then-number-lt0) _ _ c.put_digits.ensures)

pub put_digits-requires-2 : goal.put_digits-requires-2
put_digits-requires-2 c = rw (unsigned (goal.at.put_digits-requires-2 c).Else-number-lt0) at c.requires

pub returns : goal.returns
returns c = put_as (sym (unsigned (goal.at.returns c).Else-number-lt0)) c.put_digits-2.ensures
