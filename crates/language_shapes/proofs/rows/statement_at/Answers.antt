-- What a row of a source is as a statement.
use Rattle.language_shapes.proofs.Reading.{statement-read}
use borrow.Author.Rules.{rules}
use Rattle.language_shapes.proofs.rows.shape_at.Reads as shape-at-reads
use Rattle.language_shapes.proofs.rows.statement_of.Reads as statement-of-reads
use Rattle.language_shapes.proofs.rows.statement_at.Goals as goal

pub returns : goal.returns
returns c = statement-read c.requires.0 c.requires.1 c.shape_at.ensures c.statement_of.ensures
