-- The row of an if, and its atom.
use Prim.Native.Nat.{◌+◌}
use mathlib.Core.Path.{refl}
use Rattle.writers_rows.specs.Chain.{put_next, reworded}
use Rattle.writers_rows.proofs.Words.{rows-put, atom-put, atom-words}
use Rattle.writers_rows.proofs.control.put_if.Goals as goal

pub returns : goal.returns
returns c =
    let own_row = rows-put 1 _ _ _ c.put_row.ensures refl in
    let test = atom-put _ _ c.args.test c.put_atom.ensures in
    let words = atom-words c.args.test (c.args.base + 1) in
    reworded _ (put_next own_row test) (rw words)
