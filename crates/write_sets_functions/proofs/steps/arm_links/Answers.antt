-- The links of an arm, by what the row is.
use Rattle.language_shapes.specs.ShapeLaws.{armed}
use Rattle.write_sets_functions.proofs.StepLaws.{some-arm, no-arm}
use Rattle.write_sets_functions.proofs.steps.arm_links.Goals as goal

pub returns-in-Some : goal.returns-in-Some
returns-in-Some c = some-arm (armed c.arm_at-shape.ensures c.in-Some.is) c.number_at-next.ensures

pub returns-in-None : goal.returns-in-None
returns-in-None c = no-arm (armed c.arm_at-shape.ensures c.in-None.is)
