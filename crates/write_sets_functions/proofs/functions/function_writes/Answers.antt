-- What a function can write: its parameters, and what its block can.
use native.Mathlib.Omega.{arith}
use Rattle.write_sets_functions.proofs.DefinitionLaws.{parameters_inside, body-block, items-inside, function-written}
use Rattle.write_sets_functions.proofs.functions.function_writes.Goals as goal

pub parameter_words-parameters-requires : goal.parameter_words-parameters-requires
parameter_words-parameters-requires c = let p = c.requires in (p.0.source, p.0.names, parameters_inside p.0.source p.1.inside p.1.definition c.number_at.ensures)

pub number_at-list-requires : goal.number_at-list-requires
number_at-list-requires c = let p = c.requires in omega (arith, p.0.source.sound.whole, (body-block p.0.source p.1.inside p.1.definition c.number_at-body.ensures).within)

pub walk_list-requires : goal.walk_list-requires
walk_list-requires c = let p = c.requires in (p.0, items-inside p.0.source p.1.inside p.1.definition c.number_at-body.ensures c.number_at-list.ensures)

pub returns : goal.returns
returns c = let p = c.requires in function-written p.0.source p.1 c.number_at.ensures c.number_at-body.ensures c.number_at-list.ensures c.parameter_words-parameters.ensures c.walk_list.ensures c.join.ensures
