-- A variable's old value into another one, and the new one into the variable: two assignments in a row.
use native.Mathlib.Omega.{arith}
use lib.IntN.{pos}
use Rattle.language.specs.Trees.{◌⧺◌}
use Rattle.writers_rows.specs.Chain.{wrote-put, wrote-next, put-room, room-less}
use Rattle.writers_rows.specs.LeafLaws.{copy-wrote, binary-wrote}
use Rattle.writers_rows.specs.declared.KernelAtom.TheVariants.{Constant, Variable}
use Rattle.writers_steps.proofs.straight.put_kept_step.Goals as goal

pub put_copy-requires : goal.put_copy-requires
put_copy-requires c = (room-less 4 c.requires.0 (omega arith), c.requires.2, c.requires.1)

pub put_binary-requires : goal.put_binary-requires
put_binary-requires c =
    let copied = copy-wrote _ _ _ _ _ (Variable c.args.number) c.put_copy.ensures in
    (put-room 6 (wrote-put copied) c.requires.0 (omega arith), c.requires.1, c.requires.2, tt)

pub returns : goal.returns
unfolding ◌⧺◌
returns c =
    let copied = copy-wrote _ _ _ _ _ (Variable c.args.number) c.put_copy.ensures in
    let computed = binary-wrote _ _ _ _ _ c.args.operator (Variable c.args.old) (Constant (pos 1)) c.put_binary.ensures in
    (wrote-next copied computed).table
