-- The row of a block, and that of a goto.
use mathlib.Core.Path.{refl}
use Rattle.writers_rows.specs.Chain.{put_next}
use Rattle.writers_rows.proofs.Words.{rows-put}
use Rattle.writers_rows.proofs.control.put_goto_block.Goals as goal

pub returns : goal.returns
returns c =
    (put_next (rows-put 1 _ _ _ c.put_block.ensures refl) (rows-put 1 _ _ _ c.put_row.ensures refl)).table
