-- The measures of a definition: its parameters, and its block.
use native.Mathlib.Omega.{arith}
use Rattle.write_sets_functions.proofs.DefinitionLaws.{defined-kind, parameters_inside}
use Rattle.measures.proofs.ProgramLaws.{read_count, body-measured, definition-measured}
use Rattle.measures.proofs.program.definition_measures.Goals as goal

pub number_at-requires : goal.number_at-requires
number_at-requires c = omega (arith, c.requires.0.source.sound.whole, c.requires.1)

pub parameter_count-parameters-requires : goal.parameter_count-parameters-requires
parameter_count-parameters-requires c = let p = c.requires in (p.0.source, parameters_inside p.0.source p.1 (defined-kind c.args.rows.now c.args.row p.2) c.number_at.ensures)

pub number_at-body-requires : goal.number_at-body-requires
number_at-body-requires c = omega (arith, c.requires.0.source.sound.whole, c.requires.1)

pub overflow_add-parameters : goal.overflow_add-parameters
overflow_add-parameters c = omega (arith, c.parameter_count-parameters.ensures.few)

pub measure_at-requires : goal.measure_at-requires
measure_at-requires c = body-measured c.requires.0 c.requires.1 c.requires.2 c.number_at-body.ensures 3 (omega arith)

pub overflow_add-parameters-2 : goal.overflow_add-parameters-2
overflow_add-parameters-2 c = omega (arith, c.parameter_count-parameters.ensures.few, c.measure_at.ensures.small)

pub measure_at-requires-2 : goal.measure_at-requires-2
measure_at-requires-2 c = body-measured c.requires.0 c.requires.1 c.requires.2 c.number_at-body.ensures 4 (omega arith)

pub measure_at-requires-3 : goal.measure_at-requires-3
measure_at-requires-3 c = body-measured c.requires.0 c.requires.1 c.requires.2 c.number_at-body.ensures 5 (omega arith)

pub returns : goal.returns
returns c = definition-measured c.requires.0 c.requires.1 c.requires.2 c.number_at-body.ensures (read_count c.args.rows.now c.number_at.ensures c.parameter_count-parameters.ensures) c.measure_at.ensures.is c.measure_at-2.ensures.is c.measure_at-3.ensures.is c.limited.ensures
