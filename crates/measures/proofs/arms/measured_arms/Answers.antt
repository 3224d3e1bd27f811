-- The arms from a row on, by what the row is among arms.
use mathlib.Core.Path.{refl}
use Rattle.language_shapes.specs.ShapeLaws.{armed, optional}
use Rattle.measures_table.specs.MeasureLaws.{slot-asks}
use Rattle.measures.proofs.StatementLaws.{at-behind, arm-measured, no-arm-measured}
use Rattle.measures.proofs.arms.measured_arms.Goals as goal

pub arm_measures-requires : goal.arm_measures-requires
arm_measures-requires c =
    let m = c.requires.0 in
    let f = armed (at-behind c.number_at-next.ensures c.arm_at-shape.ensures) c.in-Some.is in
    (slot-asks m (optional f.onward.0), slot-asks m (optional f.onward.1), slot-asks m f.behind)

pub returns-in-Some : goal.returns-in-Some
returns-in-Some c = arm-measured c.requires.0 (armed (at-behind c.number_at-next.ensures c.arm_at-shape.ensures) c.in-Some.is) c.arm_measures.ensures

pub returns-in-None : goal.returns-in-None
returns-in-None c = no-arm-measured c.requires.0 (armed c.arm_at-shape.ensures c.in-None.is) refl
