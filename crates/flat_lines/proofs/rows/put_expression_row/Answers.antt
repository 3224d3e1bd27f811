-- `put_expression_row`: the row's own line is the assignment's.
use Rattle.flat_lines.specs.Rows.{assignment-at, assign-own}
use borrow.Author.Rules.{rules}
use Rattle.flat_lines.proofs.rows.put_expression_row.Reads as reads
use Rattle.flat_lines.proofs.rows.put_expression_row.Lts as lts
use Rattle.flat_lines.proofs.operations.put_assignment.Reads as put-assignment-reads
use Rattle.words.proofs.table.number_at.Reads as number-at-reads
use Rattle.flat_lines.proofs.rows.put_expression_row.Goals as goal

pub put_assignment-requires : goal.put_assignment-requires
put_assignment-requires c =
    let a = assignment-at c.requires.0 c.requires.1 _ c.number_at.ensures in
    (c.requires.0.table, a.inside, a.assigns, a.room)

pub returns : goal.returns
returns c =
    assign-own c.requires.0 c.requires.1 _ _ c.number_at.ensures c.put_assignment.ensures
