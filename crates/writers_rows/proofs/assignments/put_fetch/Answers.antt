-- variable := array[atom]: the rows up to its index are all.
use Rattle.writers_rows.proofs.Words.{worded, fetch-words}
use Rattle.writers_rows.proofs.assignments.put_fetch.Goals as goal

pub returns : goal.returns
returns c =
    worded _ _ _ _ c.put_operand.ensures (fetch-words c.args.base c.args.follows c.args.number c.args.array c.args.index)
