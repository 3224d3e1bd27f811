-- `put_call`: four rows, one behind the other.
use mathlib.Core.Path.{refl}
use Rattle.writers_rows.specs.Chain.{put_next}
use Rattle.page_rows.proofs.Steps.{row_written}
use borrow.Author.Rules.{rules}
use Rattle.page_rows.proofs.functions.put_call.Goals as goal

pub returns : goal.returns
returns c =
    (put_next (put_next (put_next (row_written _ _ _ c.put_row.ensures refl) (row_written _ _ _ c.put_row-2.ensures refl)) (row_written _ _ _ c.put_row-3.ensures refl)) (row_written _ _ _ c.put_row-4.ensures refl)).table
