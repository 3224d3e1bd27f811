-- The kernel rows of a statement: the table's word, which is within the limit and so was not cut off.
use Rattle.writers.proofs.Tables.{statement-rows}
use Rattle.writers.proofs.lists.statement_size.Goals as goal

pub returns : goal.returns
returns c = statement-rows _ _ c.requires.0 _ c.requires.1 c.requires.2
