-- The rows from the loop's row on have their words.
use native.Mathlib.Omega.{arith}
use Rattle.write_sets_programs.proofs.ArrayLaws.{from_less, from-none, one-row-more}
use Rattle.write_sets_programs.proofs.arrays.fill_arrays.Goals as goal

pub loop-row-init : goal.loop-row-init
loop-row-init c = from-none c.requires.0 c.requires.1

pub arrays_of-requires : goal.arrays_of-requires
arrays_of-requires c = (from_less _ c.loop-row.invariant (omega arith), omega arith)

pub loop-row-preserved : goal.loop-row-preserved
loop-row-preserved c = one-row-more (omega arith) c.arrays_of.ensures (from_less _ c.loop-row.invariant (omega arith))

pub returns : goal.returns
returns c = from_less 0 c.loop-row.invariant (omega arith)
