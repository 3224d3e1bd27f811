-- The words of the parameters so far.
use mathlib.Core.Path.{sym, ◌∙◌}
use native.Mathlib.Omega.{arith}
use Rattle.write_sets_functions.proofs.WalkLaws.{joined-none}
use Rattle.write_sets_functions.proofs.DefinitionLaws.{words-joined, words-all, next_inside, next-falls, parameter-first}
use borrow.Author.Rules.{rules}
use Rattle.write_sets_functions.proofs.functions.parameter_words.Goals as goal

pub loop-any-init : goal.loop-any-init
loop-any-init c = (joined-none _ c.nothing-any.ensures, c.requires.2)

pub is_parameter-requires : goal.is_parameter-requires
is_parameter-requires c = (c.requires.0, c.loop-any.invariant.1)

pub number_at-requires : goal.number_at-requires
number_at-requires c = omega (arith, c.requires.0.sound.whole, c.loop-any.invariant.1)

pub number_at-row-requires : goal.number_at-row-requires
number_at-row-requires c = omega (arith, c.requires.0.sound.whole, c.loop-any.invariant.1)

pub loop-any-smaller : goal.loop-any-smaller
loop-any-smaller c = next-falls c.requires.0 c.loop-any.invariant.1 (parameter-first c.args.rows.now c.loop-any.row (sym c.is_parameter.ensures ∙ c.loop-any-test.true)) c.number_at-row.ensures

pub loop-any-preserved : goal.loop-any-preserved
loop-any-preserved c =
    let is_one = sym c.is_parameter.ensures ∙ c.loop-any-test.true in (
      words-joined c.requires.0 c.requires.1 c.loop-any.invariant.1 is_one c.loop-any.invariant.0 (search rules) c.number_at-row.ensures,
      next_inside c.requires.0 c.loop-any.invariant.1 _ c.number_at-row.ensures,
    )

pub returns : goal.returns
returns c = words-all c.args.rows.now c.loop-any.row c.requires.0 c.loop-any.invariant.0 (sym c.is_parameter.ensures ∙ c.loop-any-test.false)
