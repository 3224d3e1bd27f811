-- What a row is as an expression.
use mathlib.Core.Path.{ap, ◌∙◌}
use Rattle.language_shapes.specs.Shapes.{expression_in}
use Rattle.page_line.specs.Reads.{expression_shape_at}
use Rattle.page_line.specs.ReadsLaws.{expression-read}
use Rattle.page_line.proofs.shapes_at.expression_at.Goals as goal

pub returns : goal.returns
unfolding expression_shape_at
returns c =
    (expression-read c.requires.0 c.requires.1 c.shape_at.ensures c.expression_of.ensures, c.expression_of.ensures ∙ ap expression_in c.shape_at.ensures)
