-- `put_last_parameter`: a row, then the row of a block.
use mathlib.Core.Path.{refl}
use Rattle.writers_rows.specs.Chain.{put_next}
use Rattle.page_rows.proofs.Steps.{row_written}
use borrow.Author.Rules.{rules}
use Rattle.page_rows.proofs.functions.put_last_parameter.Goals as goal

pub returns : goal.returns
returns c =
    (put_next (row_written _ _ _ c.put_row.ensures refl) (row_written _ _ _ c.put_block_row.ensures refl)).table
