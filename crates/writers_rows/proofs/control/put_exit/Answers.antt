-- The test of a loop: an if, an empty block, and a block of a goto.
use Prim.Native.Nat.{◌+◌}
use mathlib.Core.Path.{refl}
use Rattle.writers_rows.specs.Chain.{put_next, reworded}
use Rattle.writers_rows.proofs.Words.{pick-most, rows-put, if-put, exit-words}
use borrow.Author.Rules.{rules}
use Rattle.writers_rows.proofs.control.put_exit.Goals as goal

pub put_if-requires : goal.put_if-requires
put_if-requires c = let low = pick-most c.args.follows (c.args.base + 5) in search rules

pub returns : goal.returns
returns c =
    let test = if-put _ _ _ _ _ c.args.test c.put_if.ensures in
    let on-true = rows-put 1 _ _ _ c.put_block.ensures refl in
    let on-false = rows-put 2 _ _ _ c.put_goto_block.ensures refl in
    reworded _ (put_next (put_next test on-true) on-false) (exit-words c.args.base c.args.follows c.args.number c.args.test c.behind.ensures)
