-- `put_rows` puts one line after the other; the invariant is `Rowed`.
use native.Mathlib.Omega.{arith}
use Rattle.text_form.proofs.Writing.{rowed-start, rowed-length, rowed-inside, rowed-end, row_inside, row-filled, row_room, rowed-next}
use Rattle.text_form.proofs.writer.put_rows.Goals as goal

pub loop-row-init : goal.loop-row-init
loop-row-init c = rowed-start _ _ _ _ c.requires.width_nonzero c.requires.rows_len c.requires.rows_in_bounds

pub overflow_mul-start : goal.overflow_mul-start
overflow_mul-start c = omega (arith, row_inside c.loop-row.invariant c.loop-row-test.true, c.well_formed)

pub overflow_add-end : goal.overflow_add-end
overflow_add-end c = omega (arith, row_inside c.loop-row.invariant c.loop-row-test.true, c.well_formed)

pub offset_bounds-rows-start : goal.offset_bounds-rows-start
offset_bounds-rows-start c = omega (arith, row_inside c.loop-row.invariant c.loop-row-test.true, c.well_formed)

pub slice_bounds-put_line-end : goal.slice_bounds-put_line-end
slice_bounds-put_line-end c = omega (arith, row_inside c.loop-row.invariant c.loop-row-test.true)

pub slice_bounds-put_line-count-in-loop-row : goal.slice_bounds-put_line-count-in-loop-row
slice_bounds-put_line-count-in-loop-row c = rowed-inside c.loop-row.invariant

pub slice_bounds-put_line-start-in-loop-row : goal.slice_bounds-put_line-start-in-loop-row
slice_bounds-put_line-start-in-loop-row c = omega (arith, rowed-inside c.loop-row.invariant)

pub put_line-at-requires : goal.put_line-at-requires
put_line-at-requires c = record { words_nonzero = row-filled c.loop-row.invariant c.loop-row-test.true; words_in_bounds = row_room c.loop-row.invariant c.loop-row-test.true }

pub overflow_add-at : goal.overflow_add-at
overflow_add-at c = let next = rowed-next c.loop-row.invariant c.loop-row-test.true _ _ c.put_line-at.ensures in omega (arith, rowed-inside next, rowed-length next, c.well_formed)

pub loop-row-preserved : goal.loop-row-preserved
loop-row-preserved c = rowed-next c.loop-row.invariant c.loop-row-test.true _ _ c.put_line-at.ensures

pub shape_of-text : goal.shape_of-text
shape_of-text c = rowed-length c.loop-row.invariant

pub returns : goal.returns
returns c = rowed-end c.loop-row.invariant c.loop-row-test.false
