-- `store_rows` passes the lines one by one; the invariant is `Filled`.
use native.Mathlib.Omega.{arith}
use Rattle.text_lines.proofs.Pieces.{Piece, piece_of}
use Rattle.text_form.proofs.Filling.{filled-start, filled-length, filled-end, NextRow, filled_row, row-holds, filled_next}
use Rattle.text_form.proofs.reader.store_rows.Goals as goal
use Rattle.text_form.proofs.reader.store_rows.Goals.{After-piece_end-end}

pub loop-at-init : goal.loop-at-init
loop-at-init c = filled-start _ _ _ c.requires

pub piece_end-end-requires : goal.piece_end-end-requires
piece_end-end-requires c = omega (arith, c.loop-at-test.true)

-- where a line was found to end, and that it is a row
line-ends : (c : After-piece_end-end) → Piece 10 c.args.text.now c.loop-at.at c.piece_end-end.result
line-ends c = piece_of 10 _ _ _ (omega (arith, c.loop-at-test.true)) c.piece_end-end.ensures

is_row : (c : After-piece_end-end) → NextRow c.args.width c.args.text.now c.loop-at.at c.piece_end-end.result
is_row c = filled_row c.loop-at.invariant (line-ends c) c.loop-at-test.true

pub overflow_mul-start : goal.overflow_mul-start
overflow_mul-start c = omega (arith, c.loop-at.invariant.few, c.well_formed)

pub slice_bounds-store_numbers-count : goal.slice_bounds-store_numbers-count
slice_bounds-store_numbers-count c = (line-ends c).from

pub slice_bounds-store_numbers-start : goal.slice_bounds-store_numbers-start
slice_bounds-store_numbers-start c = omega (arith, (line-ends c).from, (line-ends c).inside)

pub slice_bounds-store_numbers-end : goal.slice_bounds-store_numbers-end
slice_bounds-store_numbers-end c = omega (arith, (line-ends c).inside)

pub offset_bounds-table-start : goal.offset_bounds-table-start
offset_bounds-table-start c = omega (arith, c.loop-at.invariant.few, c.well_formed)

pub slice_bounds-store_numbers-count-in-loop-at : goal.slice_bounds-store_numbers-count-in-loop-at
slice_bounds-store_numbers-count-in-loop-at c = omega (arith, c.loop-at.invariant.few, filled-length c.loop-at.invariant)

pub slice_bounds-store_numbers-start-in-loop-at : goal.slice_bounds-store_numbers-start-in-loop-at
slice_bounds-store_numbers-start-in-loop-at c = omega (arith, c.loop-at.invariant.few, filled-length c.loop-at.invariant)

pub store_numbers-requires : goal.store_numbers-requires
store_numbers-requires c = row-holds c.loop-at.invariant (line-ends (goal.at.store_numbers-requires c).After-piece_end-end) c.loop-at-test.true (is_row (goal.at.store_numbers-requires c).After-piece_end-end)

pub overflow_add-count : goal.overflow_add-count
overflow_add-count c = omega (arith, c.loop-at.invariant.walked.many, c.loop-at-test.true, c.well_formed)

pub overflow_add-at : goal.overflow_add-at
overflow_add-at c = omega (arith, (is_row (goal.at.overflow_add-at c).After-piece_end-end).inside)

pub loop-at-smaller : goal.loop-at-smaller
loop-at-smaller c = omega (arith, c.loop-at-test.true, (line-ends (goal.at.loop-at-smaller c).After-piece_end-end).from)

pub loop-at-preserved : goal.loop-at-preserved
loop-at-preserved c = filled_next c.loop-at.invariant (line-ends (goal.at.loop-at-preserved c).After-piece_end-end) c.loop-at-test.true (is_row (goal.at.loop-at-preserved c).After-piece_end-end) _ c.store_numbers.ensures

pub shape_of-table : goal.shape_of-table
shape_of-table c = filled-length c.loop-at.invariant

pub returns : goal.returns
returns c = filled-end c.loop-at.invariant c.loop-at-test.false
