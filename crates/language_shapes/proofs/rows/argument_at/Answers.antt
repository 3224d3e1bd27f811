-- What a row of a source is among arguments.
use Rattle.language_shapes.proofs.Reading.{argument-read}
use borrow.Author.Rules.{rules}
use Rattle.language_shapes.proofs.rows.argument_of.Reads as argument-of-reads
use Rattle.language_shapes.proofs.rows.shape_at.Reads as shape-at-reads
use Rattle.language_shapes.proofs.rows.argument_at.Goals as goal

pub returns : goal.returns
returns c = argument-read c.requires.0 c.requires.1 c.shape_at.ensures c.argument_of.ensures
