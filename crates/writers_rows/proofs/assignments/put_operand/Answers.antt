-- The rows of an assignment up to its first operand: those that head it, a row, and an atom.
use mathlib.Core.Path.{refl}
use Rattle.writers_rows.specs.Chain.{put_next}
use Rattle.writers_rows.proofs.Words.{rows-put, atom-put}
use Rattle.writers_rows.proofs.assignments.put_operand.Goals as goal

pub returns : goal.returns
returns c =
    let head = rows-put 3 _ _ _ c.put_target.ensures refl in
    let own_row = rows-put 1 _ _ _ c.put_row.ensures refl in
    (put_next (put_next head own_row) (atom-put _ _ c.args.operand c.put_atom.ensures)).table
