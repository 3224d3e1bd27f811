-- An empty statement is an item of one row.
use Rattle.writers_rows.proofs.Words.{worded, empty-words}
use Rattle.writers_rows.proofs.control.put_empty.Goals as goal

pub returns : goal.returns
returns c =
    worded _ _ _ _ c.put_item.ensures (empty-words c.args.base c.args.follows)
