-- Whether an expression copies the value of its first operand, by its shape.
use mathlib.Core.Path.{refl}
use Rattle.language_shapes.specs.ShapeLaws.{expressed}
use Rattle.write_sets_rows.proofs.WriteLaws.{copied_none, copied-choice}
use Rattle.measures_expressions.proofs.copies.copied_at.Goals as goal

pub copied_operation-requires : goal.copied_operation-requires
copied_operation-requires c = (c.requires.0, c.requires.1, expressed c.expression_at-shape.ensures c.in-Operation.is)

pub returns-in-Number : goal.returns-in-Number
returns-in-Number c = copied_none (expressed c.expression_at-shape.ensures c.in-Number.is) refl

pub returns-in-Read : goal.returns-in-Read
returns-in-Read c = copied_none (expressed c.expression_at-shape.ensures c.in-Read.is) refl

pub returns-in-Choice : goal.returns-in-Choice
returns-in-Choice c = copied-choice (expressed c.expression_at-shape.ensures c.in-Choice.is)

pub returns-in-Call : goal.returns-in-Call
returns-in-Call c = copied_none (expressed c.expression_at-shape.ensures c.in-Call.is) refl
