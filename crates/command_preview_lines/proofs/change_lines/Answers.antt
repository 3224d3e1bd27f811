-- `change_lines` passes one place after the other; the invariant is `Passed`.
use Prim.Native.Nat.{◌+◌}
use native.Mathlib.Omega.{arith}
use Rattle.words.specs.OverLaws.{back_in}
use Rattle.command_preview_lines.proofs.Changed.{Passed, passed_start, passed_length, passed-inside, passed-end, passed-space, passed-next}
use Rattle.command_preview_lines.proofs.change_lines.Goals as goal
use Rattle.command_preview_lines.proofs.change_lines.Goals.{After-slice_known-in-loop-i-1}

pub loop-i-init : goal.loop-i-init
loop-i-init c = passed_start _ _ _ _ c.requires.size_in_bounds_2

pub slice_bounds-change_at-count : goal.slice_bounds-change_at-count
slice_bounds-change_at-count c = passed-inside c.loop-i.invariant

pub slice_bounds-change_at-start : goal.slice_bounds-change_at-start
slice_bounds-change_at-start c = omega (arith, passed-inside c.loop-i.invariant)

pub change_at-at-requires : goal.change_at-at-requires
change_at-at-requires c = passed-space c.loop-i.invariant c.loop-i-test.true

-- one place more was passed
next : (c : After-slice_known-in-loop-i-1) → Passed c.args.size c.args.store.now c.args.left.now (c.loop-i.i + 1) (c.loop-i.at + c.change_at-at.result) c.args.text.now (back_in c.loop-i.at c.loop-i.text c.change_at-at.new.text)
next c = passed-next c.loop-i.invariant c.loop-i-test.true c.change_at-arg-1.given c.change_at-arg-in-loop-i-1.given _ _ c.change_at-at.ensures.put c.change_at-at.ensures.upper_bound

pub overflow_add-at : goal.overflow_add-at
overflow_add-at c = omega (arith, passed-inside (next c), passed_length (next c), c.well_formed)

pub loop-i-preserved : goal.loop-i-preserved
loop-i-preserved c = next c

pub shape_of-text : goal.shape_of-text
shape_of-text c = passed_length c.loop-i.invariant

pub returns : goal.returns
returns c = record { put = passed-end c.loop-i.invariant c.loop-i-test.false; upper_bound = omega (arith, c.loop-i.invariant.few, c.loop-i.invariant.inside) }
