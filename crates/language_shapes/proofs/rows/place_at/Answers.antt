-- What a row of a source is as a place.
use Rattle.language_shapes.proofs.Reading.{place_read}
use borrow.Author.Rules.{rules}
use Rattle.language_shapes.proofs.rows.expression_at.Reads as expression-at-reads
use Rattle.language_shapes.proofs.rows.place_of.Reads as place-of-reads
use Rattle.language_shapes.proofs.rows.place_at.Goals as goal

pub returns : goal.returns
returns c = place_read c.expression_at.ensures c.place_of.ensures
