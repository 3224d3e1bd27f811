-- `put_while`: a row, an atom, then the row of a block.
use Rattle.writers_rows.specs.Chain.{put_next}
use Rattle.page_rows.proofs.Steps.{row_written, atom-written}
use Prim.Native.Nat.{◌+◌}
use mathlib.Core.Path.{refl}
use Rattle.writers_rows.specs.Chain.{PutWords, put_next}
use Rattle.page_rows.proofs.Steps.{atom-written}
use borrow.Author.Rules.{rules}
use Rattle.page_rows.proofs.lines.put_while.Goals as goal

pub returns : goal.returns
returns c =
    (put_next (put_next (row_written _ _ _ c.put_row.ensures refl) (atom-written _ _ c.args.test (c.args.base + 1) c.put_atom.ensures)) (row_written _ _ _ c.put_block_row.ensures refl)).table
