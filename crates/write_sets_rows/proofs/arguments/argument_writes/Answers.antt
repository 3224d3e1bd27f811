-- What the argument at a row writes, by its shape.
use Rattle.language_shapes.specs.ShapeLaws.{argued}
use Rattle.write_sets_rows.proofs.WriteLaws.{link-held}
use Rattle.write_sets_rows.proofs.ArgumentLaws.{argument-set, no-argument-set}
use Rattle.write_sets_rows.proofs.arguments.argument_writes.Goals as goal

pub set_at-requires : goal.set_at-requires
set_at-requires c = link-held c.requires.0 (λ h. (argued c.argument_at-shape.ensures c.in-Some.is).onward)

pub returns-in-Some : goal.returns-in-Some
returns-in-Some c = argument-set c.requires.0 (argued c.argument_at-shape.ensures c.in-Some.is) c.set_at.ensures

pub returns-in-None : goal.returns-in-None
returns-in-None c = no-argument-set (argued c.argument_at-shape.ensures c.in-None.is) c.nothing.ensures
