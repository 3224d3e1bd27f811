-- variable := atom: the rows that head it, and an atom.
use mathlib.Core.Path.{refl}
use Rattle.writers_rows.specs.Chain.{put_next, reworded}
use Rattle.writers_rows.proofs.Words.{rows-put, atom-put, copy-words}
use Rattle.writers_rows.proofs.assignments.put_copy.Goals as goal

pub returns : goal.returns
returns c =
    let head = rows-put 3 _ _ _ c.put_target.ensures refl in
    let source = atom-put _ _ c.args.source c.put_atom.ensures in
    reworded _ (put_next head source) (copy-words c.args.base c.args.follows c.args.number c.args.source)
