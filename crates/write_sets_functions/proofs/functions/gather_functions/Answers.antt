-- The functions before the loop's definition have their sets.
use mathlib.Core.Path.{refl, sym, ◌∙◌}
use native.Mathlib.Omega.{arith}
use lib.ListN.{length-set}
use Rattle.write_sets_rows.proofs.WriteLaws.{one-function-more}
use Rattle.write_sets_functions.proofs.DefinitionLaws.{there, filling-none, function-here, filling-next, filling-walks, filling-all, next-falls}
use Rattle.write_sets_functions.proofs.functions.gather_functions.Goals as goal

pub number_at-row-requires : goal.number_at-row-requires
number_at-row-requires c = omega (arith, c.requires.0.sound.whole, c.requires.0.sound.some_rows)

pub loop-sets-init : goal.loop-sets-init
loop-sets-init c = (filling-none c.requires.0 c.number_at-row.ensures, refl)

pub is_definition-requires : goal.is_definition-requires
is_definition-requires c = (c.requires.0, c.loop-sets.invariant.0.inside)

pub function_writes-requires : goal.function_writes-requires
function_writes-requires c = (filling-walks c.requires.0 c.loop-sets.invariant.0 (sym c.is_definition.ensures ∙ c.loop-sets-test.true) c.requires.1 (omega (arith, c.requires.2, c.loop-sets.invariant.1)), function-here c.requires.0 c.loop-sets.invariant.0 (sym c.is_definition.ensures ∙ c.loop-sets-test.true))

pub bounds-sets-known : goal.bounds-sets-known
bounds-sets-known c = let k = c.loop-sets.invariant.0.low (there c.args.rows.now c.loop-sets.row (sym c.is_definition.ensures ∙ c.loop-sets-test.true)) in omega (arith, k, c.loop-sets.invariant.0.inside, c.requires.2, c.loop-sets.invariant.1)

pub overflow_add-known : goal.overflow_add-known
overflow_add-known c = let k = c.loop-sets.invariant.0.low (there c.args.rows.now c.loop-sets.row (sym c.is_definition.ensures ∙ c.loop-sets-test.true)) in omega (arith, k, c.loop-sets.invariant.0.inside, c.requires.0.few_rows)

pub number_at-row-requires-in-loop-sets : goal.number_at-row-requires-in-loop-sets
number_at-row-requires-in-loop-sets c = omega (arith, c.requires.0.sound.whole, c.loop-sets.invariant.0.inside)

pub loop-sets-smaller : goal.loop-sets-smaller
loop-sets-smaller c = next-falls c.requires.0 c.loop-sets.invariant.0.inside (there c.args.rows.now c.loop-sets.row (sym c.is_definition.ensures ∙ c.loop-sets-test.true)) c.number_at-row-in-loop-sets.ensures

pub loop-sets-preserved : goal.loop-sets-preserved
loop-sets-preserved c =
    let s = c.requires.0 in
    let m = c.loop-sets.invariant.0 in
    let k = c.loop-sets.invariant.0.low (there c.args.rows.now c.loop-sets.row (sym c.is_definition.ensures ∙ c.loop-sets-test.true)) in
    (filling-next s m (sym c.is_definition.ensures ∙ c.loop-sets-test.true) c.number_at-row-in-loop-sets.ensures (one-function-more _ _ _ _ _ (omega (arith, k, m.inside, c.requires.2, c.loop-sets.invariant.1)) refl c.function_writes.ensures m.functions), simp length-set c.loop-sets.invariant.1)

pub shape_of-sets : goal.shape_of-sets
shape_of-sets c = c.loop-sets.invariant.1

pub returns : goal.returns
returns c = filling-all c.requires.0 c.loop-sets.invariant.0 (sym c.is_definition.ensures ∙ c.loop-sets-test.false)
