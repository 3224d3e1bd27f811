-- A goto is an item of one row.
use Rattle.writers_rows.proofs.Words.{worded, goto-words}
use Rattle.writers_rows.proofs.control.put_goto.Goals as goal

pub returns : goal.returns
returns c =
    worded _ _ _ _ c.put_item.ensures (goto-words c.args.base c.args.follows c.args.number)
