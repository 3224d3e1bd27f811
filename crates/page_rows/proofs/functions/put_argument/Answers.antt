-- `put_argument`: a row, then an atom.
use Prim.Native.Nat.{◌+◌}
use mathlib.Core.Path.{refl}
use Rattle.writers_rows.specs.Chain.{put_next}
use Rattle.page_rows.proofs.Steps.{row_written, atom-written}
use borrow.Author.Rules.{rules}
use Rattle.page_rows.proofs.functions.put_argument.Goals as goal

pub returns : goal.returns
returns c =
    (put_next (row_written _ _ _ c.put_row.ensures refl) (atom-written _ _ c.args.value (c.args.base + 1) c.put_atom.ensures)).table
