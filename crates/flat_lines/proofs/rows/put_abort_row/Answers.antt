-- `put_abort_row`: one line.
use mathlib.Core.Path.{refl}
use native.Mathlib.Omega.{arith}
use Rattle.flat_lines.specs.Stored.{plain-as}
use Rattle.flat_lines.specs.Rows.{abort-room, abort-own}
use borrow.Author.Rules.{rules}
use Rattle.flat_lines.proofs.rows.put_abort_row.Reads as reads
use Rattle.flat_lines.proofs.rows.put_abort_row.Lts as lts
use Rattle.flat_lines.proofs.lines.put_line.Reads as put-line-reads
use Rattle.flat_lines.proofs.rows.put_abort_row.Goals as goal

pub put_line-requires : goal.put_line-requires
put_line-requires c =
    (abort-room c.requires.0 c.requires.1, omega arith, omega arith)

pub returns : goal.returns
returns c =
    abort-own c.requires.0 c.requires.1 _ (plain-as _ _ _ 57 _ _ c.put_line.ensures refl)
