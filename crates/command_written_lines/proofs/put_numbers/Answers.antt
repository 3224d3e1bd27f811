-- `put_numbers`: one number after the other; the invariant is `Listed`.
use native.Mathlib.Omega.{arith}
use Prim.Native.Nat.{◌+◌}
use Rattle.words.specs.OverLaws.{back_in}
use Rattle.command_written_lines.specs.Lines.{bits_of, is_in}
use Rattle.command_written_lines.proofs.NumberLaws.{Listed, listed_start, listed-length, listed-inside, listed-space, listed_next, listed-end}
use Rattle.command_written_lines.proofs.put_numbers.Goals as goal
use Rattle.command_written_lines.proofs.put_numbers.Goals.{After-slice_known-in-loop-i-1}

pub loop-i-init : goal.loop-i-init
loop-i-init c = listed_start (is_in c.args.set c.args.arrays c.args.sort) (bits_of c.args.sort) _ c.requires

pub is_in-requires : goal.is_in-requires
is_in-requires c = omega (arith, c.loop-i-test.true, c.bits_of-i-end.ensures)

pub slice_bounds-put_if-count : goal.slice_bounds-put_if-count
slice_bounds-put_if-count c = listed-inside c.loop-i.invariant

pub slice_bounds-put_if-start : goal.slice_bounds-put_if-start
slice_bounds-put_if-start c = omega (arith, listed-inside c.loop-i.invariant)

pub put_if-at-requires : goal.put_if-at-requires
put_if-at-requires c = listed-space c.loop-i.invariant (omega (arith, c.loop-i-test.true, c.bits_of-i-end.ensures))

-- one number more
next : (c : After-slice_known-in-loop-i-1) → Listed (is_in c.args.set c.args.arrays c.args.sort) (bits_of c.args.sort) (c.loop-i.i + 1) (c.loop-i.at + c.put_if-at.result) c.args.text.now (back_in c.loop-i.at c.loop-i.text c.put_if-at.new.text)
next c = listed_next c.loop-i.invariant (omega (arith, c.loop-i-test.true, c.bits_of-i-end.ensures)) c.is_in.ensures _ _ c.put_if-at.ensures.put c.put_if-at.ensures.upper_bound

pub overflow_add-at : goal.overflow_add-at
overflow_add-at c = omega (arith, listed-inside (next c), listed-length (next c), c.well_formed)

pub loop-i-preserved : goal.loop-i-preserved
loop-i-preserved c = next c

pub shape_of-text : goal.shape_of-text
shape_of-text c = listed-length c.loop-i.invariant

pub returns : goal.returns
returns c =
    let whole = listed-end c.loop-i.invariant (omega (arith, c.loop-i-test.false, c.bits_of-i-end.ensures)) in
    record { put = whole.0; upper_bound = whole.1 }
