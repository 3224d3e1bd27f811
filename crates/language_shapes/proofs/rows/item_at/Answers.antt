-- What a row of a source is as an item.
use Rattle.language_shapes.proofs.Reading.{item-read}
use borrow.Author.Rules.{rules}
use Rattle.language_shapes.proofs.rows.item_of.Reads as item-of-reads
use Rattle.language_shapes.proofs.rows.shape_at.Reads as shape-at-reads
use Rattle.language_shapes.proofs.rows.item_at.Goals as goal

pub returns : goal.returns
returns c = item-read c.requires.0 c.requires.1 c.shape_at.ensures c.item_of.ensures
