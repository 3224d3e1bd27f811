-- `put_values` walks the values; the invariant is `Made`.
use Prim.Native.Nat.{◌-◌}
use native.Mathlib.Omega.{arith}
use mir.Syntax.{w32}
use mir.Val.{to_z}
use Rattle.text_numbers.specs.PutLaws.{put_as}
use Rattle.text_lines.specs.Line.{lines_of}
use Rattle.day_values.proofs.Walk.{made-space, made_inside, made-length, value-word, value_is, setting-lines, Made, made-start, made-end, made-next}
use Rattle.day_run.specs.Days.{pairs_of}
use Rattle.day_values.specs.Values.{day_line}
use borrow.Author.Rules.{rules}
use Rattle.day_values.proofs.values.put_values.Goals as goal

pub loop-done-init : goal.loop-done-init
loop-done-init c =
    made-start _ _ _ _

pub overflow_cast-value : goal.overflow_cast-value
overflow_cast-value c =
    record { sfits = omega (arith, c.loop-done-test.true, c.requires.sets.few) }

pub overflow_add-value : goal.overflow_add-value
overflow_add-value c =
    record { sfits = value-word c.requires.sets c.loop-done-test.true }

pub slice_bounds-put_day-count : goal.slice_bounds-put_day-count
slice_bounds-put_day-count c =
    made_inside _ c.loop-done.invariant c.requires.sets.few c.requires.day_room_in_bounds

pub slice_bounds-put_day-start : goal.slice_bounds-put_day-start
slice_bounds-put_day-start c =
    omega (arith, made_inside _ c.loop-done.invariant c.requires.sets.few c.requires.day_room_in_bounds)

pub put_day-end-requires : goal.put_day-end-requires
put_day-end-requires c =
    record { fits = c.requires.fits; line_room_in_bounds = made-space _ c.loop-done.invariant c.requires.sets.few c.requires.day_room_in_bounds c.loop-done-test.true }

pub overflow_add-end : goal.overflow_add-end
overflow_add-end c =
    omega (arith, c.loop-done.invariant.short, c.loop-done-test.true, c.requires.sets.few, c.put_day-end.ensures.upper_bound)

pub loop-done-preserved : goal.loop-done-preserved
loop-done-preserved c =
    made-next _ c.loop-done.invariant c.loop-done-test.true _ (value_is c.requires.sets c.loop-done-test.true) _ _ c.put_day-end.ensures.put c.put_day-end.ensures.upper_bound

pub shape_of-output : goal.shape_of-output
shape_of-output c =
    made-length _ c.loop-done.invariant c.requires.sets.few c.requires.day_room_in_bounds

pub returns : goal.returns
returns c =
    put_as (setting-lines c.requires.sets _ _ _) (made-end _ c.loop-done.invariant c.loop-done-test.false)
