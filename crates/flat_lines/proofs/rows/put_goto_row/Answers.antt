-- `put_goto_row`: the label stands in a row, so the table has its address.
use native.Mathlib.Omega.{arith}
use Rattle.flat_lines.specs.Rows.{label-few, label-room, line_small, goto-at, goto-own}
use borrow.Author.Rules.{rules}
use Rattle.flat_lines.proofs.rows.put_goto_row.Reads as reads
use Rattle.flat_lines.proofs.rows.put_goto_row.Lts as lts
use Rattle.flat_lines.proofs.lines.put_jump.Reads as put-jump-reads
use Rattle.check_structure.proofs.row_number.wide.Reads as wide-reads
use Rattle.words.proofs.table.number_at.Reads as number-at-reads
use Rattle.flat_lines.proofs.rows.put_goto_row.Goals as goal

pub offset_bounds-labels-label : goal.offset_bounds-labels-label
offset_bounds-labels-label c =
    omega (arith, label-few c.requires.0 c.requires.1 c.requires.2, c.number_at-label.ensures)

pub bounds-labels-label : goal.bounds-labels-label
bounds-labels-label c =
    omega (arith, label-room c.requires.0 c.requires.1 c.requires.2, c.number_at-label.ensures)

pub put_jump-requires : goal.put_jump-requires
put_jump-requires c =
    let g = goto-at c.requires.0 c.requires.1 c.requires.2 _ _ c.number_at-label.ensures c.wide.ensures in
    (g.room, omega (arith, line_small c.requires.0 (omega (arith, c.requires.1))), g.small)

pub returns : goal.returns
returns c =
    goto-own c.requires.0 c.requires.1 c.requires.2 _ _ _ c.number_at-label.ensures c.wide.ensures c.put_jump.ensures
