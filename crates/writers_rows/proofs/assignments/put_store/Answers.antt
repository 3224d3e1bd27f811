-- array[atom] := atom: the rows that head it, and two atoms.
use mathlib.Core.Path.{refl}
use Rattle.writers_rows.specs.Chain.{put_next, reworded}
use Rattle.writers_rows.proofs.Words.{rows-put, atom-put, store-words}
use Rattle.writers_rows.proofs.assignments.put_store.Goals as goal

pub returns : goal.returns
returns c =
    let head = rows-put 3 _ _ _ c.put_target.ensures refl in
    let index = atom-put _ _ c.args.index c.put_atom.ensures in
    let value = atom-put _ _ c.args.value c.put_atom-2.ensures in
    reworded _ (put_next (put_next head index) value) (store-words c.args.base c.args.follows c.args.array c.args.index c.args.value)
