-- The row of the argument behind, by the shape of the row.
use Rattle.language_shapes.specs.ShapeLaws.{argued}
use Rattle.write_sets_rows.proofs.ArgumentLaws.{argument-behind, no-argument-behind}
use Rattle.write_sets_rows.proofs.arguments.next_argument.Goals as goal

pub returns-in-Some : goal.returns-in-Some
returns-in-Some c = argument-behind c.number_at-next.ensures (argued c.argument_at-shape.ensures c.in-Some.is)

pub returns-in-None : goal.returns-in-None
returns-in-None c = no-argument-behind (argued c.argument_at-shape.ensures c.in-None.is)
