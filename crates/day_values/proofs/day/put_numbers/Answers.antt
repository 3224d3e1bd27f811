-- `put_numbers`: a table of 259 words, then `put_in_table`.
use Rattle.words.specs.Laws.{back}
use borrow.Author.Rules.{rules}
use Rattle.day_values.proofs.day.put_numbers.Goals as goal

pub returns : goal.returns
returns c =
    rw (back _ c.ranges.value.sfits) at c.put_in_table.ensures
