-- The row of a return, and its atom.
use Prim.Native.Nat.{◌+◌}
use mathlib.Core.Path.{refl}
use Rattle.writers_rows.specs.Chain.{put_next, reworded}
use Rattle.writers_rows.proofs.Words.{rows-put, atom-put, return-words, pick-most}
use borrow.Author.Rules.{rules}
use Rattle.writers_rows.proofs.control.put_return.Goals as goal

pub put_row-requires : goal.put_row-requires
put_row-requires c = let low = pick-most c.args.follows (c.args.base + 2) in search rules

pub returns : goal.returns
returns c =
    let own_row = rows-put 1 _ _ _ c.put_row.ensures refl in
    let value = atom-put _ _ c.args.value c.put_atom.ensures in
    reworded _ (put_next own_row value) (return-words c.args.base c.args.follows c.args.value c.behind.ensures)
