-- `put_text`: the header, and the rows behind it.
use native.Mathlib.Omega.{arith}
use Rattle.text_form.proofs.Writing.{text-size, Headed, headed-inside, headed-room, headed-back, headed-rows}
use Rattle.text_form.proofs.writer.put_text.Goals as goal
use Rattle.text_form.proofs.writer.put_text.Goals.{After-slice_known-2-1}

pub put_line-end-requires : goal.put_line-end-requires
put_line-end-requires c = record { words_nonzero = c.requires.filled; words_in_bounds = omega (arith, c.requires.room, text-size c.args.width c.args.count c.args.header.now c.args.rows.now) }

-- the header was put
top : (c : After-slice_known-2-1) → Headed c.args.width c.args.count c.args.header.now c.args.rows.now c.args.text.now c.put_line-end.result c.put_line-end.new.text
top c = record { fills = c.requires; put = c.put_line-end.ensures }

pub slice_bounds-put_rows-count : goal.slice_bounds-put_rows-count
slice_bounds-put_rows-count c = headed-inside (top c)

pub slice_bounds-put_rows-start : goal.slice_bounds-put_rows-start
slice_bounds-put_rows-start c = omega (arith, headed-inside (top c))

pub put_rows-requires : goal.put_rows-requires
put_rows-requires c = record { width_nonzero = c.requires.wide; rows_len = c.requires.whole; rows_in_bounds = headed-room (top (goal.at.put_rows-requires c).After-slice_known-2-1) }

pub overflow_add-result : goal.overflow_add-result
overflow_add-result c = omega (arith, (headed-rows (top (goal.at.overflow_add-result c).After-slice_known-2-1) _ _ c.put_rows.ensures).size, c.requires.room)

pub shape_of-text : goal.shape_of-text
shape_of-text c = headed-back (top (goal.at.shape_of-text c).After-slice_known-2-1) c.put_rows.new.text c.put_rows.auto.text

pub returns : goal.returns
returns c = headed-rows (top (goal.at.returns c).After-slice_known-2-1) _ _ c.put_rows.ensures
