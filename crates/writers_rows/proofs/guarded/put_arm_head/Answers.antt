-- The if with its atom, and the row of a block.
use mathlib.Core.Path.{refl}
use Rattle.writers_rows.specs.Chain.{put_next}
use Rattle.writers_rows.proofs.Words.{rows-put, if-put}
use Rattle.writers_rows.proofs.guarded.put_arm_head.Goals as goal

pub returns : goal.returns
returns c =
    (put_next (if-put _ _ _ _ _ c.args.guard c.put_if.ensures) (rows-put 1 _ _ _ c.put_block.ensures refl)).table
