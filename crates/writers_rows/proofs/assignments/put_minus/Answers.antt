-- variable := - atom: the rows up to its operand are all.
use Rattle.writers_rows.proofs.Words.{worded, minus-words}
use Rattle.writers_rows.proofs.assignments.put_minus.Goals as goal

pub returns : goal.returns
returns c =
    worded _ _ _ _ c.put_operand.ensures (minus-words c.args.base c.args.follows c.args.number c.args.operand)
