-- An abort is an item of one row.
use Rattle.writers_rows.proofs.Words.{worded, abort-words}
use Rattle.writers_rows.proofs.control.put_abort.Goals as goal

pub returns : goal.returns
returns c =
    worded _ _ _ _ c.put_item.ensures (abort-words c.args.base c.args.follows)
