-- The parameters so far.
use mathlib.Core.Path.{sym, ◌∙◌}
use native.Mathlib.Omega.{arith}
use Rattle.write_sets_functions.proofs.DefinitionLaws.{next-falls, parameter-first}
use Rattle.measures.proofs.ProgramLaws.{counting-none, counting-low, counting-next, counting-all}
use Rattle.measures.proofs.program.parameter_count.Goals as goal

pub loop-count-init : goal.loop-count-init
loop-count-init c = counting-none c.requires.1

pub is_parameter-requires : goal.is_parameter-requires
is_parameter-requires c = (c.requires.0, c.loop-count.invariant.inside)

pub overflow_add-count : goal.overflow_add-count
overflow_add-count c = let l = counting-low c.requires.0 c.loop-count.invariant (sym c.is_parameter.ensures ∙ c.loop-count-test.true) in omega (arith, l)

pub number_at-row-requires : goal.number_at-row-requires
number_at-row-requires c = omega (arith, c.requires.0.sound.whole, c.loop-count.invariant.inside)

pub loop-count-smaller : goal.loop-count-smaller
loop-count-smaller c = next-falls c.requires.0 c.loop-count.invariant.inside (parameter-first c.args.rows.now c.loop-count.row (sym c.is_parameter.ensures ∙ c.loop-count-test.true)) c.number_at-row.ensures

pub loop-count-preserved : goal.loop-count-preserved
loop-count-preserved c = counting-next c.requires.0 c.loop-count.invariant (sym c.is_parameter.ensures ∙ c.loop-count-test.true) c.number_at-row.ensures

pub returns : goal.returns
returns c = counting-all c.requires.0 c.loop-count.invariant (sym c.is_parameter.ensures ∙ c.loop-count-test.false)
