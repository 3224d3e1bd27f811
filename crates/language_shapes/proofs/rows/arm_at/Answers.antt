-- What a row of a source is among arms.
use Rattle.language_shapes.proofs.Reading.{arm_read}
use borrow.Author.Rules.{rules}
use Rattle.language_shapes.proofs.rows.arm_of.Reads as arm-of-reads
use Rattle.language_shapes.proofs.rows.shape_at.Reads as shape-at-reads
use Rattle.language_shapes.proofs.rows.arm_at.Goals as goal

pub returns : goal.returns
returns c = arm_read c.requires.0 c.requires.1 c.shape_at.ensures c.arm_of.ensures
