-- `header_numbers`: V (kernel: V, D and T), and up to 32 lengths.
use mathlib.Core.Path.{sym, ◌∙◌}
use native.Mathlib.Omega.{arith}
use Rattle.words.specs.Laws.{leading-limits}
use Rattle.text_lines.specs.Line.{fields_of, numbers_of}
use Rattle.text_lines.specs.CountLaws.{Sized, size_none, size-some}
use Rattle.text_form.proofs.Rows.{header-none, header_few, header-many, header-sized}
use Rattle.text_form.proofs.reader.header_numbers.Goals as goal
use Rattle.text_form.proofs.reader.header_numbers.Goals.{In_ok-count}

pub returns-in_err-count : goal.returns-in_err-count
returns-in_err-count c = c.from_residual.ensures ∙ header-none _ _ (size_none _ (sym c.in_err-count.was ∙ c.count_numbers.ensures))

-- how many numbers the line has
counted : (c : In_ok-count) → Sized (numbers_of (fields_of c.args.line.now)) c.in_ok-count.count
counted c = size-some _ _ (sym c.in_ok-count.was ∙ c.count_numbers.ensures)

pub returns-then-count-first : goal.returns-then-count-first
returns-then-count-first c = header_few _ _ (counted (goal.at.returns-then-count-first c).In_ok-count) (omega (arith, c.if-count-first.true, c.leading-first.ensures))

pub overflow_add-first : goal.overflow_add-first
overflow_add-first c = omega (arith, c.leading-first.ensures, leading-limits c.args.form)

pub returns-then-count-first-2 : goal.returns-then-count-first-2
returns-then-count-first-2 c = header-many _ _ (counted (goal.at.returns-then-count-first-2 c).In_ok-count) (omega (arith, c.if-count-first.false, c.leading-first.ensures)) (omega (arith, c.if-count-first-2.true, c.leading-first.ensures))

pub returns : goal.returns
returns c = header-sized _ _ (counted (goal.at.returns c).In_ok-count) (omega (arith, c.if-count-first.false, c.leading-first.ensures)) (omega (arith, c.if-count-first-2.false, c.leading-first.ensures))
