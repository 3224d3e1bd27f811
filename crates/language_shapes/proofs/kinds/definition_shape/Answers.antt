-- The shape of a definition.
use Rattle.language_shapes.specs.Shapes.{definition_as}
use borrow.Author.Rules.{rules}
use Rattle.language_shapes.proofs.kinds.definition_shape.Goals as goal

pub returns : goal.returns
unfolding definition_as
returns c = search rules
