-- `store_text`: the cause before 10, then 10, then the words are stored.
use mathlib.Core.Path.{ap}
use native.Mathlib.Omega.{arith}
use Rattle.text_form.specs.Reader.{cause_says}
use Rattle.text_form.proofs.ReaderLaws.{line-holds, line-written, rows-hold, rows_written}
use Rattle.text_form.proofs.Shapes.{reads-cause, reads-short-header, reads-short-rows, reads_all}
use Rattle.text_form.proofs.reader.store_text.Goals as goal

pub returns-in-Some : goal.returns-in-Some
returns-in-Some c = reads-cause c.requires _ _ _ _ (ap cause_says c.in-Some.is)

pub returns-then-header-numbers : goal.returns-then-header-numbers
returns-then-header-numbers c = reads-short-header c.requires _ _ (ap cause_says c.in_default.is) c.if-header-numbers.true

pub returns-then-rows-words : goal.returns-then-rows-words
returns-then-rows-words c = reads-short-rows c.requires _ _ (ap cause_says c.in_default.is) c.if-header-numbers.false c.if-rows-words.true

pub slice_bounds-store_numbers-end : goal.slice_bounds-store_numbers-end
slice_bounds-store_numbers-end c = omega (arith, c.requires.inside)

pub store_numbers-requires : goal.store_numbers-requires
store_numbers-requires c = line-holds c.requires _ c.if-header-numbers.false

pub overflow_add-next : goal.overflow_add-next
overflow_add-next c = omega (arith, c.requires.inside)

pub slice_bounds-store_rows-count : goal.slice_bounds-store_rows-count
slice_bounds-store_rows-count c = omega (arith, c.requires.inside)

pub slice_bounds-store_rows-start : goal.slice_bounds-store_rows-start
slice_bounds-store_rows-start c = omega (arith, c.requires.inside)

pub store_rows-requires : goal.store_rows-requires
store_rows-requires c = rows-hold c.requires _ c.if-rows-words.false

pub returns : goal.returns
returns c = reads_all c.requires _ _ (ap cause_says c.in_default.is) c.if-header-numbers.false c.if-rows-words.false _ _ (line-written c.requires _ _ c.store_numbers.ensures) (rows_written c.requires _ _ c.store_rows.ensures)
