-- `put_count`: a blank, and behind it what `put_digits` puts.
use native.Mathlib.Omega.{arith}
use Prim.Native.Nat.{◌≤◌}
use lib.ListN.{length, length-set}
use Rattle.text_report.specs.Lines.{blank}
use Rattle.text_numbers.specs.Number.{digits}
use Rattle.text_numbers.specs.PutLaws.{digits-within, LedRoom, led-room, led-back, led-put}
use Rattle.text_report.proofs.field.put_count.Goals as goal
use Rattle.text_report.proofs.field.put_count.Goals.{Start}

-- the bytes, and their room
few : (c : Start) → length (digits c.args.number) ≤ 20
few c = digits-within 19 _ (omega (arith, c.ranges.number))

room : (c : Start) → LedRoom blank (digits c.args.number) c.args.text.now
room c = record { room = omega (arith, few c, c.requires) }

pub slice_bounds-put_digits-count : goal.slice_bounds-put_digits-count
slice_bounds-put_digits-count c = simp length-set (omega (arith, c.requires))

pub slice_bounds-put_digits-start : goal.slice_bounds-put_digits-start
slice_bounds-put_digits-start c = simp length-set (omega (arith, c.requires))

pub put_digits-requires : goal.put_digits-requires
put_digits-requires c = led-room (room (goal.at.put_digits-requires c).Start)

pub overflow_add-result : goal.overflow_add-result
overflow_add-result c = omega (arith, c.put_digits.ensures.size, few (goal.at.overflow_add-result c).Start)

pub shape_of-text : goal.shape_of-text
shape_of-text c = led-back (room (goal.at.shape_of-text c).Start) c.put_digits.new.text c.put_digits.auto.text

pub returns : goal.returns
returns c = led-put (room (goal.at.returns c).Start) _ _ c.put_digits.ensures
