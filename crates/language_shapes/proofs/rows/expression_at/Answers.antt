-- What a row of a source is as an expression.
use Rattle.language_shapes.proofs.Reading.{expression-read}
use borrow.Author.Rules.{rules}
use Rattle.language_shapes.proofs.rows.expression_of.Reads as expression-of-reads
use Rattle.language_shapes.proofs.rows.shape_at.Reads as shape-at-reads
use Rattle.language_shapes.proofs.rows.expression_at.Goals as goal

pub returns : goal.returns
returns c = expression-read c.requires.0 c.requires.1 c.shape_at.ensures c.expression_of.ensures
