-- `count_lines` walks the lines; the invariant is `Counted`.
use native.Mathlib.Omega.{arith}
use Prim.Native.Nat.{◌-◌}
use lib.ListN.{length}
use Rattle.text_lines.proofs.Pieces.{piece_of}
use Rattle.day_form.proofs.Bounds.{Counted, counted_start, counted-end, counted_next}
use Rattle.day_form.proofs.input.count_lines.Goals as goal

pub loop-at-init : goal.loop-at-init
loop-at-init c =
    counted_start _

pub piece_end-at-requires : goal.piece_end-at-requires
piece_end-at-requires c =
    omega (arith, c.loop-at-test.true)

pub overflow_add-at : goal.overflow_add-at
overflow_add-at c =
    let p = piece_of 10 _ _ _ (omega (arith, c.loop-at-test.true)) c.piece_end-at.ensures in omega (arith, p.inside, c.well_formed)

pub overflow_add-count : goal.overflow_add-count
overflow_add-count c =
    omega (arith, c.loop-at.invariant.fewer, c.loop-at-test.true)

pub loop-at-smaller : goal.loop-at-smaller
loop-at-smaller c =
    let p = piece_of 10 _ _ _ (omega (arith, c.loop-at-test.true)) c.piece_end-at.ensures in omega (arith, p.from, c.loop-at-test.true)

pub loop-at-preserved : goal.loop-at-preserved
loop-at-preserved c =
    counted_next c.loop-at.invariant (piece_of 10 _ _ _ (omega (arith, c.loop-at-test.true)) c.piece_end-at.ensures) c.loop-at-test.true

pub returns : goal.returns
returns c =
    counted-end c.loop-at.invariant c.loop-at-test.false
