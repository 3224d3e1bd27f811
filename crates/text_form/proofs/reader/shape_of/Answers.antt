-- `shape_of`: the first line, then the rows.
use mathlib.Core.Path.{sym, ap, ◌∙◌}
use native.Mathlib.Omega.{arith}
use Rattle.text_lines.specs.Line.{ended}
use Rattle.text_form.specs.Text.{header_line}
use Rattle.text_form.specs.Reader.{rows_say}
use lib.ListN.{length, take}
use Prim.Native.Nat.{◌+◌, ◌-◌, ◌<◌}
use Rattle.text_lines.proofs.Pieces.{Piece, piece_of}
use Rattle.text_lines.specs.CountLaws.{Sized, size_none, size-some}
use Rattle.text_form.proofs.ReaderLaws.{err-is, ok_or-err}
use Rattle.text_form.proofs.Shapes.{words-malformed, words-parsed, shape-unended, shape-bad, shape-rows, shape-lines, rows_behind}
use Rattle.std.specs.Result.{result_ok}
use Rattle.text_form.proofs.reader.shape_of.Goals as goal
use Rattle.text_form.proofs.reader.shape_of.Goals.{After-piece_end-end, Else-end-text, In_ok-numbers}

-- where the first line was found to end
line-ends : (c : After-piece_end-end) → Piece 10 c.args.text.now 0 c.piece_end-end.result
line-ends c = piece_of 10 _ _ _ (omega arith) c.piece_end-end.ensures

has-newline : (c : Else-end-text) → c.piece_end-end.result < length c.args.text.now
has-newline c = let other = c.if-end-text.false in omega (arith, (line-ends (goal.at.Else-end-text c).After-piece_end-end).inside)

-- how many numbers the first line has
header : (c : In_ok-numbers) → Sized (header_line c.args.form (ended (take (c.piece_end-end.result - 0) c.args.text.now))) c.in_ok-numbers.numbers
header c = size-some _ _ (sym (c.ok_or.ensures.ok_part ∙ ap result_ok c.in_ok-numbers.was) ∙ c.header_numbers.ensures)

pub returns-then-end-text : goal.returns-then-end-text
returns-then-end-text c = shape-unended _ _ (line-ends (goal.at.returns-then-end-text c).After-piece_end-end) (omega (arith, c.if-end-text.true))

pub slice_bounds-header_numbers-end : goal.slice_bounds-header_numbers-end
slice_bounds-header_numbers-end c = omega (arith, (line-ends (goal.at.slice_bounds-header_numbers-end c).After-piece_end-end).inside)

pub returns-in_err-numbers : goal.returns-in_err-numbers
returns-in_err-numbers c =
    let none = ok_or-err _ _ _ _ c.ok_or.ensures.value c.in_err-numbers.was in
    rw (err-is _ _ c.from_residual.ensures.1, none.1) (shape-bad _ _ (line-ends (goal.at.returns-in_err-numbers c).After-piece_end-end) (has-newline (goal.at.returns-in_err-numbers c).Else-end-text) (size_none _ (sym none.0 ∙ c.header_numbers.ensures)))

pub overflow_add-next : goal.overflow_add-next
overflow_add-next c = omega (arith, has-newline (goal.at.overflow_add-next c).Else-end-text)

pub slice_bounds-count_rows-count : goal.slice_bounds-count_rows-count
slice_bounds-count_rows-count c = omega (arith, has-newline (goal.at.slice_bounds-count_rows-count c).Else-end-text)

pub slice_bounds-count_rows-start : goal.slice_bounds-count_rows-start
slice_bounds-count_rows-start c = omega (arith, has-newline (goal.at.slice_bounds-count_rows-start c).Else-end-text)

pub returns-in_err-words : goal.returns-in_err-words
returns-in_err-words c =
    rw (err-is _ _ c.from_residual-in_err-words.ensures.1) (shape-rows _ _ (line-ends (goal.at.returns-in_err-words c).After-piece_end-end) (has-newline (goal.at.returns-in_err-words c).Else-end-text) (header (goal.at.returns-in_err-words c).In_ok-numbers) _ (words-malformed _ _ (ap rows_say (sym c.in_err-words.was) ∙ rows_behind _ c.args.text.now (c.piece_end-end.result + 1) _ c.count_rows.ensures)))

pub returns : goal.returns
returns c = shape-lines _ _ (line-ends (goal.at.returns c).After-piece_end-end) (has-newline (goal.at.returns c).Else-end-text) (header (goal.at.returns c).In_ok-numbers) (words-parsed _ _ (ap rows_say (sym c.in_ok-words.was) ∙ rows_behind _ c.args.text.now (c.piece_end-end.result + 1) _ c.count_rows.ensures))
