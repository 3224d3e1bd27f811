-- `put_word`: a blank, and behind it what `put_number` puts.
use native.Mathlib.Omega.{arith}
use Prim.Native.Nat.{◌≤◌}
use lib.ListN.{length, length-set}
use Rattle.text_report.specs.Lines.{blank}
use Rattle.text_numbers.specs.Number.{number_bytes}
use Rattle.text_numbers.specs.PutLaws.{number-eleven, put_as, LedRoom, led-room, led-back, led-put}
use mathlib.Core.Path.{◌≡◌, ap}
use mathlib.Core.List.{◌∷◌}
use lib.IntN.{ℤ}
use mir.Syntax.{w32}
use mir.Val.{to_z, of_z}
use Rattle.words.specs.Laws.{back}
use Rattle.text_report.proofs.field.put_word.Goals as goal
use Rattle.text_report.proofs.field.put_word.Goals.{Start}

-- what a local of type i32 gives back
abbrev again : ℤ → ℤ
again z = to_z w32 (of_z w32 z)

same : (c : Start) → again c.args.word ≡ c.args.word
same c = back _ c.ranges.word.sfits

-- the bytes, and their room
few : (c : Start) → length (number_bytes (again c.args.word)) ≤ 11
few c = rw (same c) (number-eleven _ c.ranges.word.sfits)

room : (c : Start) → LedRoom blank (number_bytes (again c.args.word)) c.args.text.now
room c = record { room = omega (arith, few c, c.requires) }

pub slice_bounds-put_number-count : goal.slice_bounds-put_number-count
slice_bounds-put_number-count c = simp length-set (omega (arith, c.requires))

pub slice_bounds-put_number-start : goal.slice_bounds-put_number-start
slice_bounds-put_number-start c = simp length-set (omega (arith, c.requires))

pub put_number-requires : goal.put_number-requires
put_number-requires c = led-room (room (goal.at.put_number-requires c).Start)

pub overflow_add-result : goal.overflow_add-result
overflow_add-result c = omega (arith, c.put_number.ensures.size, few (goal.at.overflow_add-result c).Start)

pub shape_of-text : goal.shape_of-text
shape_of-text c = led-back (room (goal.at.shape_of-text c).Start) c.put_number.new.text c.put_number.auto.text

pub returns : goal.returns
returns c = put_as (ap (λ (z : ℤ). blank ∷ number_bytes z) (same (goal.at.returns c).Start)) (led-put (room (goal.at.returns c).Start) _ _ c.put_number.ensures)
