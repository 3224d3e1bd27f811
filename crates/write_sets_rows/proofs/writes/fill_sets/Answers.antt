-- The rows from the loop's row on have their sets.
use Prim.Native.Nat.{◌+◌, ◌-◌}
use mathlib.Core.Path.{◌≡◌, refl}
use native.Mathlib.Omega.{arith}
use Rattle.write_sets_rows.proofs.WriteLaws.{sets-none, sets-less, functions-less, one-set-more, functions-kept}
use Rattle.write_sets_rows.proofs.writes.fill_sets.Goals as goal

pub loop-row-init : goal.loop-row-init
loop-row-init c = let p = c.requires in (sets-none p.0 p.1 p.2, p.3)

pub writes_at-requires : goal.writes_at-requires
writes_at-requires c = let i = c.loop-row.invariant in (sets-less _ i.0 (omega arith), functions-less _ i.1 (omega arith), omega arith)

pub loop-row-preserved : goal.loop-row-preserved
loop-row-preserved c =
    let i = c.loop-row.invariant in
    (one-set-more _ _ _ _ _ (omega (arith, i.0.room)) refl c.writes_at.ensures (sets-less _ i.0 (omega arith)), functions-kept _ _ _ _ _ (omega (arith, i.0.room)) refl (functions-less _ i.1 (omega arith)))

pub returns : goal.returns
returns c = sets-less 0 c.loop-row.invariant.0 (omega arith)
