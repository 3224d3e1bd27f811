-- `put_row`: the row stands at the line that the table has; other kinds than these have no line of their own.
use mathlib.Core.Path.{sym, ◌∙◌}
use native.Mathlib.Omega.{arith}
use Rattle.flat_lines.specs.Rows.{stands, own-none, own-few}
use borrow.Author.Rules.{rules}
use Rattle.flat_lines.proofs.rows.put_row.Reads as reads
use Rattle.flat_lines.proofs.rows.put_row.Lts as lts
use Rattle.flat_lines.proofs.rows.put_abort_row.Reads as put-abort-row-reads
use Rattle.flat_lines.proofs.rows.put_expression_row.Reads as put-expression-row-reads
use Rattle.flat_lines.proofs.rows.put_goto_row.Reads as put-goto-row-reads
use Rattle.flat_lines.proofs.rows.put_if_row.Reads as put-if-row-reads
use Rattle.flat_lines.proofs.rows.put_while_row.Reads as put-while-row-reads
use Rattle.check_structure.proofs.row_number.wide.Reads as wide-reads
use Rattle.words.proofs.table.number_at.Reads as number-at-reads
use Rattle.flat_lines.proofs.rows.put_row.Goals as goal

pub returns-then-kind-lt41 : goal.returns-then-kind-lt41
returns-then-kind-lt41 c =
    own-few _ _ c.args.out.now (omega (arith, c.number_at-kind.ensures, c.if-kind-lt41.true))

pub put_expression_row-requires : goal.put_expression_row-requires
put_expression_row-requires c =
    (stands c.requires.0 c.requires.1 c.requires.2 (omega (arith, c.number_at-kind.ensures, c.if-kind-lt41.false)) _ c.wide-line.ensures, sym c.number_at-kind.ensures ∙ c.if-kind-eq41.true)

pub put_if_row-requires : goal.put_if_row-requires
put_if_row-requires c =
    (stands c.requires.0 c.requires.1 c.requires.2 (omega (arith, c.number_at-kind.ensures, c.if-kind-lt41.false)) _ c.wide-line.ensures, sym c.number_at-kind.ensures ∙ c.if-kind-eq43.true, c.requires.0.sized)

pub put_while_row-requires : goal.put_while_row-requires
put_while_row-requires c =
    (stands c.requires.0 c.requires.1 c.requires.2 (omega (arith, c.number_at-kind.ensures, c.if-kind-lt41.false)) _ c.wide-line.ensures, sym c.number_at-kind.ensures ∙ c.if-kind-eq44.true, c.requires.0.sized)

pub put_goto_row-requires : goal.put_goto_row-requires
put_goto_row-requires c =
    (stands c.requires.0 c.requires.1 c.requires.2 (omega (arith, c.number_at-kind.ensures, c.if-kind-lt41.false)) _ c.wide-line.ensures, sym c.number_at-kind.ensures ∙ c.if-kind-eq52.true, c.requires.0.labelled)

pub put_abort_row-requires : goal.put_abort_row-requires
put_abort_row-requires c =
    (stands c.requires.0 c.requires.1 c.requires.2 (omega (arith, c.number_at-kind.ensures, c.if-kind-lt41.false)) _ c.wide-line.ensures, sym c.number_at-kind.ensures ∙ c.if-kind-eq57.true)

pub returns-else-kind-eq57 : goal.returns-else-kind-eq57
returns-else-kind-eq57 c =
    own-none _ _ c.args.out.now _ c.number_at-kind.ensures c.if-kind-eq41.false c.if-kind-eq43.false c.if-kind-eq44.false c.if-kind-eq52.false c.if-kind-eq57.false
