-- `put_called`: the rows that head an assignment, and the row of a call.
use mathlib.Core.Path.{refl}
use Rattle.writers_rows.specs.Chain.{put_next, reworded}
use Rattle.page_rows.proofs.Steps.{rows_written, row_written, called-words}
use borrow.Author.Rules.{rules}
use Rattle.page_rows.proofs.assignments.put_called.Goals as goal

pub returns : goal.returns
returns c =
    reworded _ (put_next (rows_written _ _ 3 _ c.put_target.ensures refl) (row_written _ _ _ c.put_row.ensures refl)) (called-words c.args.base c.args.follows c.args.number c.args.function)
