-- The rows of an expression, from the table.
use mathlib.Core.Path.{ap, ◌∙◌}
use native.Mathlib.Omega.{arith}
use Rattle.measures_table.specs.Measures.{slot_at}
use Rattle.measures_table.specs.MeasureLaws.{limited-small, whole-slot, whole_part}
use Rattle.writers_steps.proofs.atoms.operand_size.Goals as goal

pub measure_at-requires : goal.measure_at-requires
measure_at-requires c = whole-slot c.requires.0 _ c.requires.1 _ c.rows_for.ensures.inside

pub returns : goal.returns
returns c =
    c.measure_at.ensures.is ∙ ap (slot_at _ c.args.row) c.rows_for.ensures.is ∙ whole_part c.requires.0 c.args.usage _ c.requires.1 ∙ limited-small _ (omega (arith, c.requires.2))
