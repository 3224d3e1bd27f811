-- `put_branch`: an if and its atom, then the row of a block.
use Rattle.writers_rows.specs.Chain.{put_next}
use Rattle.page_rows.proofs.Steps.{row_written, if-written}
use mathlib.Core.Path.{refl}
use Rattle.writers_rows.specs.Chain.{PutWords, put_next}
use Rattle.page_rows.proofs.Steps.{if-written}
use borrow.Author.Rules.{rules}
use Rattle.page_rows.proofs.lines.put_branch.Goals as goal

pub returns : goal.returns
returns c =
    (put_next (if-written _ _ c.args.test c.args.base c.args.second c.args.next c.put_if.ensures) (row_written _ _ _ c.put_block_row.ensures refl)).table
