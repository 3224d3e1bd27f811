-- `write_functions` walks along the run. The invariant: the definitions of the numbers passed are written, and the row at the next place is known.
use mathlib.Core.Path.{sym, ◌∙◌}
use Prim.Native.Nat.{◌-◌}
use native.Mathlib.Omega.{arith}
use Rattle.words.specs.Table.{row_count}
use Rattle.check_functions.specs.WalkLaws.{Walking, walking-begun, walking-number, walking_on, walking-ended}
use Rattle.check_functions.proofs.front.write_functions.Goals as goal

pub link-row-requires : goal.link-row-requires
link-row-requires c =
    let whole = c.requires.0.whole in let some = c.requires.0.some_rows in (omega arith, omega arith)

pub loop-functions-init : goal.loop-functions-init
loop-functions-init c =
    walking-begun c.requires.0 c.requires.1 _ c.requires.2 c.link-row.ensures

pub is_definition-requires : goal.is_definition-requires
is_definition-requires c =
    let n = c.loop-functions.invariant.inside in let whole = c.requires.0.whole in omega arith

pub narrow-requires : goal.narrow-requires
narrow-requires c =
    let n = c.loop-functions.invariant.inside in let few = c.requires.0.few in omega arith

pub offset_bounds-functions-number : goal.offset_bounds-functions-number
offset_bounds-functions-number c =
    let n = walking-number c.requires.0 c.requires.1 c.loop-functions.invariant (sym c.is_definition.ensures ∙ c.loop-functions-test.true) in let few = c.requires.0.few in omega arith

pub bounds-functions-number : goal.bounds-functions-number
bounds-functions-number c =
    let n = walking-number c.requires.0 c.requires.1 c.loop-functions.invariant (sym c.is_definition.ensures ∙ c.loop-functions-test.true) in let room = c.loop-functions.invariant.room in omega arith

pub overflow_add-number : goal.overflow_add-number
overflow_add-number c =
    let n = walking-number c.requires.0 c.requires.1 c.loop-functions.invariant (sym c.is_definition.ensures ∙ c.loop-functions-test.true) in let few = c.requires.0.few in omega arith

pub link-row-requires-in-loop-functions : goal.link-row-requires-in-loop-functions
link-row-requires-in-loop-functions c =
    let n = c.loop-functions.invariant.inside in let whole = c.requires.0.whole in (omega arith, omega arith)

pub loop-functions-smaller : goal.loop-functions-smaller
loop-functions-smaller c =
    let n = walking-number c.requires.0 c.requires.1 c.loop-functions.invariant (sym c.is_definition.ensures ∙ c.loop-functions-test.true) in omega arith

pub loop-functions-preserved : goal.loop-functions-preserved
loop-functions-preserved c =
    walking_on c.requires.0 c.requires.1 _ _ c.loop-functions.invariant (sym c.is_definition.ensures ∙ c.loop-functions-test.true) c.narrow.ensures c.link-row-in-loop-functions.ensures

pub shape_of-functions : goal.shape_of-functions
shape_of-functions c =
    c.loop-functions.invariant.same

pub returns : goal.returns
returns c =
    walking-ended c.requires.0 c.requires.1 c.loop-functions.invariant (sym c.is_definition.ensures ∙ c.loop-functions-test.false)
