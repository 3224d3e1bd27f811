-- A label is an item of one row.
use Rattle.writers_rows.proofs.Words.{worded, label-words}
use Rattle.writers_rows.proofs.control.put_label.Goals as goal

pub returns : goal.returns
returns c =
    worded _ _ _ _ c.put_item.ensures (label-words c.args.base c.args.follows c.args.number)
