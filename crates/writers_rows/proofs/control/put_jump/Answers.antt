-- The end of a case's test: an if, a block of a goto, and an empty block.
use mathlib.Core.Path.{refl}
use Rattle.writers_rows.specs.declared.KernelAtom.TheVariants.{Variable}
use Rattle.writers_rows.specs.Chain.{put_next, reworded}
use Rattle.writers_rows.proofs.Words.{rows-put, if-put, jump-words}
use Rattle.writers_rows.proofs.control.put_jump.Goals as goal

pub returns : goal.returns
returns c =
    let test = if-put _ _ _ _ _ (Variable c.args.number) c.put_if.ensures in
    let on-true = rows-put 2 _ _ _ c.put_goto_block.ensures refl in
    let on-false = rows-put 1 _ _ _ c.put_block.ensures refl in
    reworded _ (put_next (put_next test on-true) on-false) (jump-words c.args.number c.args.target c.args.base)
