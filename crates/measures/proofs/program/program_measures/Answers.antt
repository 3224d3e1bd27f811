-- The definitions so far.
use mathlib.Core.Path.{sym, ◌∙◌}
use native.Mathlib.Omega.{arith}
use Rattle.measures_table.specs.MeasureLaws.{whole-slot}
use Rattle.write_sets_functions.proofs.DefinitionLaws.{there, next-falls}
use Rattle.measures.proofs.ProgramLaws.{summing-none, summing-small, summing-next, list-small, summing-all}
use Rattle.measures.proofs.program.program_measures.Goals as goal

pub loop-found-init : goal.loop-found-init
loop-found-init c = summing-none c.requires.1

pub is_definition-requires : goal.is_definition-requires
is_definition-requires c = (c.requires.0.source, c.loop-found.invariant.inside)

pub definition_measures-requires : goal.definition_measures-requires
definition_measures-requires c = (c.requires.0, c.loop-found.invariant.inside, (sym c.is_definition.ensures ∙ c.loop-found-test.true))

pub added-found-requires : goal.added-found-requires
added-found-requires c = (c.loop-found.invariant.small, summing-small c.definition_measures.ensures)

pub number_at-row-requires : goal.number_at-row-requires
number_at-row-requires c = omega (arith, c.requires.0.source.sound.whole, c.loop-found.invariant.inside)

pub loop-found-smaller : goal.loop-found-smaller
loop-found-smaller c = next-falls c.requires.0.source c.loop-found.invariant.inside (there c.args.rows.now c.loop-found.row (sym c.is_definition.ensures ∙ c.loop-found-test.true)) c.number_at-row.ensures

pub loop-found-preserved : goal.loop-found-preserved
loop-found-preserved c = summing-next c.requires.0 c.loop-found.invariant (sym c.is_definition.ensures ∙ c.loop-found-test.true) c.definition_measures.ensures c.added-found.ensures c.number_at-row.ensures

pub list_measures-requires : goal.list_measures-requires
list_measures-requires c = whole-slot c.requires.0 _ c.loop-found.invariant.inside

pub added-requires : goal.added-requires
added-requires c = (c.loop-found.invariant.small, list-small c.requires.0 _ c.loop-found.invariant.inside c.list_measures.ensures)

pub returns : goal.returns
returns c = summing-all c.requires.0 c.loop-found.invariant (sym c.is_definition.ensures ∙ c.loop-found-test.false) c.list_measures.ensures c.added.ensures
