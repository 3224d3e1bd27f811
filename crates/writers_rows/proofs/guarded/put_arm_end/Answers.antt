-- The row of a goto, and that of a block.
use mathlib.Core.Path.{refl}
use Rattle.writers_rows.specs.Chain.{put_next}
use Rattle.writers_rows.proofs.Words.{rows-put}
use Rattle.writers_rows.proofs.guarded.put_arm_end.Goals as goal

pub returns : goal.returns
returns c = (put_next (rows-put 1 _ _ _ c.put_row.ensures refl) (rows-put 1 _ _ _ c.put_block.ensures refl)).table
