-- What a comma's row brings.
use mathlib.Core.Path.{ap}
use native.Mathlib.Omega.{arith}
use Rattle.measures_table.specs.Parts.{comma_own}
use Rattle.measures_table.specs.Measures.{value_slot}
use Rattle.measures_expressions.proofs.parts.own_comma.Goals as goal

pub measure_at-requires : goal.measure_at-requires
measure_at-requires c =
    c.requires value_slot (omega arith)

pub returns : goal.returns
returns c =
    ap (comma_own c.args.left c.args.right) c.measure_at.ensures.is
