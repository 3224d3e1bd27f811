-- The rows that head a loop: one row behind the other.
use mathlib.Core.Path.{refl}
use Rattle.writers_rows.specs.Chain.{put_next}
use Rattle.writers_rows.proofs.Words.{rows-put}
use Rattle.writers_rows.proofs.control.put_loop.Goals as goal

pub returns : goal.returns
returns c =
    let own_row = rows-put 1 _ _ _ c.put_row.ensures refl in
    let test = rows-put 1 _ _ _ c.put_row-2.ensures refl in
    let body = rows-put 1 _ _ _ c.put_block.ensures refl in
    (put_next (put_next own_row test) body).table
