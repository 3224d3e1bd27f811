-- `front_of`: the invariant is that the walk has come so far along the front (`Going`).
use mathlib.Core.Path.{sym, ◌∙◌}
use native.Mathlib.Omega.{arith}
use Rattle.join_rows.specs.StandingLaws.{going-begun, going-number, going_on, going-ended}
use Rattle.join_rows.proofs.parts.front_of.Goals as goal

pub link-item-requires : goal.link-item-requires
link-item-requires c =
    let whole = c.requires.0.whole in let some = c.requires.0.some_rows in (omega arith, omega arith)

pub loop-functions-init : goal.loop-functions-init
loop-functions-init c =
    going-begun c.requires.0 c.requires.1 _ c.link-item.ensures

pub is_definition-requires : goal.is_definition-requires
is_definition-requires c =
    let n = c.loop-functions.invariant.inside in let whole = c.requires.0.whole in omega arith

pub overflow_add-functions : goal.overflow_add-functions
overflow_add-functions c =
    let n = going-number c.requires.0 c.requires.1 c.loop-functions.invariant (sym c.is_definition.ensures ∙ c.loop-functions-test.true) in let few = c.requires.0.few in omega arith

pub link-item-requires-in-loop-functions : goal.link-item-requires-in-loop-functions
link-item-requires-in-loop-functions c =
    let n = c.loop-functions.invariant.inside in let whole = c.requires.0.whole in (omega arith, omega arith)

pub loop-functions-smaller : goal.loop-functions-smaller
loop-functions-smaller c =
    let n = going-number c.requires.0 c.requires.1 c.loop-functions.invariant (sym c.is_definition.ensures ∙ c.loop-functions-test.true) in omega arith

pub loop-functions-preserved : goal.loop-functions-preserved
loop-functions-preserved c =
    going_on c.requires.0 c.requires.1 _ c.loop-functions.invariant (sym c.is_definition.ensures ∙ c.loop-functions-test.true) c.link-item-in-loop-functions.ensures

pub returns : goal.returns
returns c =
    let e = going-ended c.requires.0 c.requires.1 c.loop-functions.invariant (sym c.is_definition.ensures ∙ c.loop-functions-test.false) in (e.0, e.1, c.loop-functions.invariant.inside, c.loop-functions.invariant.most)
