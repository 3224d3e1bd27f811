-- `count_rows` passes the lines one by one; the invariant is `Walked`.
use mathlib.Core.Path.{sym, ap, ◌∙◌}
use native.Mathlib.Omega.{arith}
use Rattle.text_form.specs.Reader.{words_of}
use Rattle.text_lines.proofs.Pieces.{Piece, piece_of}
use Rattle.text_form.proofs.Rows.{found-row, found_none, walked_start, walked-says, walked-unended, walked-bad, walked_next}
use Rattle.text_form.proofs.reader.count_rows.Goals as goal
use Rattle.text_form.proofs.reader.count_rows.Goals.{After-piece_end-end}

pub loop-at-init : goal.loop-at-init
loop-at-init c = walked_start _ _

pub piece_end-end-requires : goal.piece_end-end-requires
piece_end-end-requires c = omega (arith, c.loop-at-test.true)

-- where a line was found to end
line-ends : (c : After-piece_end-end) → Piece 10 c.args.text.now c.loop-at.at c.piece_end-end.result
line-ends c = piece_of 10 _ _ _ (omega (arith, c.loop-at-test.true)) c.piece_end-end.ensures

pub overflow_add-result : goal.overflow_add-result
overflow_add-result c = omega (arith, c.loop-at.invariant.many, c.loop-at-test.true)

pub returns-then-end-text : goal.returns-then-end-text
returns-then-end-text c = sym (ap words_of (walked-unended c.loop-at.invariant (line-ends (goal.at.returns-then-end-text c).After-piece_end-end) c.loop-at-test.true (omega (arith, c.if-end-text.true))))

pub slice_bounds-is_row-count : goal.slice_bounds-is_row-count
slice_bounds-is_row-count c = (line-ends (goal.at.slice_bounds-is_row-count c).After-piece_end-end).from

pub slice_bounds-is_row-start : goal.slice_bounds-is_row-start
slice_bounds-is_row-start c = omega (arith, (line-ends (goal.at.slice_bounds-is_row-start c).After-piece_end-end).from, (line-ends (goal.at.slice_bounds-is_row-start c).After-piece_end-end).inside)

pub slice_bounds-is_row-end : goal.slice_bounds-is_row-end
slice_bounds-is_row-end c = omega (arith, (line-ends (goal.at.slice_bounds-is_row-end c).After-piece_end-end).inside)

pub overflow_add-result-then-not-is_row : goal.overflow_add-result-then-not-is_row
overflow_add-result-then-not-is_row c = omega (arith, c.loop-at.invariant.many, c.loop-at-test.true)

pub returns-then-not-is_row : goal.returns-then-not-is_row
returns-then-not-is_row c = sym (ap words_of (walked-bad c.loop-at.invariant (line-ends (goal.at.returns-then-not-is_row c).After-piece_end-end) c.loop-at-test.true (let other = c.if-end-text.false in omega (arith, (line-ends (goal.at.returns-then-not-is_row c).After-piece_end-end).inside)) (found_none _ (sym c.is_row.ensures ∙ c.if-not-is_row.true))))

pub overflow_add-count : goal.overflow_add-count
overflow_add-count c = omega (arith, c.loop-at.invariant.many, c.loop-at-test.true)

pub overflow_add-at : goal.overflow_add-at
overflow_add-at c = let other = c.if-end-text.false in omega (arith, (line-ends (goal.at.overflow_add-at c).After-piece_end-end).inside)

pub loop-at-smaller : goal.loop-at-smaller
loop-at-smaller c = omega (arith, c.loop-at-test.true, (line-ends (goal.at.loop-at-smaller c).After-piece_end-end).from)

pub loop-at-preserved : goal.loop-at-preserved
loop-at-preserved c = let r = found-row _ (sym c.is_row.ensures ∙ c.if-not-is_row.false) in walked_next c.loop-at.invariant (line-ends (goal.at.loop-at-preserved c).After-piece_end-end) c.loop-at-test.true (let other = c.if-end-text.false in omega (arith, (line-ends (goal.at.loop-at-preserved c).After-piece_end-end).inside)) r.row r.is

pub overflow_mul-result : goal.overflow_mul-result
overflow_mul-result c = omega (arith, c.loop-at.invariant.fewer, c.loop-at.invariant.inside, c.well_formed)

pub returns : goal.returns
returns c = walked-says c.loop-at.invariant c.loop-at-test.false
