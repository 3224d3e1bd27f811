-- `put_ending`: a blank, and behind it what `put_ending_name` puts.
use native.Mathlib.Omega.{arith}
use mathlib.Core.List.{List}
use Prim.Native.Nat.{ℕ, ◌≤◌}
use lib.ListN.{length, set, length-set, length-drop}
use Rattle.text_report.specs.Lines.{blank}
use Rattle.words.specs.Answers.{ending_name}
use Rattle.words.specs.OverLaws.{part, part-is}
use Rattle.text_numbers.specs.PutLaws.{LedRoom, led-back, led-put}
use Rattle.text_report.proofs.Spacing.{ending-few}
use Rattle.text_report.proofs.field.put_ending.Goals as goal
use Rattle.text_report.proofs.field.put_ending.Goals.{Start}

-- the bytes, and their room
few : (c : Start) → length (ending_name c.args.ending) ≤ 8
few c = omega (arith, ending-few c.args.ending)

room : (c : Start) → LedRoom blank (ending_name c.args.ending) c.args.text.now
room c = record { room = omega (arith, few c, c.requires) }

behind-blank : (text : List ℕ) → 9 ≤ length text → 8 ≤ length (part 1 (set text 0 blank))
behind-blank text h = rw (part-is 1 (set text 0 blank), length-drop, length-set) (omega arith)

pub slice_bounds-put_ending_name-count : goal.slice_bounds-put_ending_name-count
slice_bounds-put_ending_name-count c = simp length-set (omega (arith, c.requires))

pub slice_bounds-put_ending_name-start : goal.slice_bounds-put_ending_name-start
slice_bounds-put_ending_name-start c = simp length-set (omega (arith, c.requires))

pub put_ending_name-requires : goal.put_ending_name-requires
put_ending_name-requires c = behind-blank c.args.text.now c.requires

pub overflow_add-result : goal.overflow_add-result
overflow_add-result c = omega (arith, c.put_ending_name.ensures.size, few (goal.at.overflow_add-result c).Start)

pub shape_of-text : goal.shape_of-text
shape_of-text c = led-back (room (goal.at.shape_of-text c).Start) c.put_ending_name.new.text c.put_ending_name.auto.text

pub returns : goal.returns
returns c = led-put (room (goal.at.returns c).Start) _ _ c.put_ending_name.ensures
