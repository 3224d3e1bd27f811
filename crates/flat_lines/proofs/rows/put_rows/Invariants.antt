-- `put_rows`: the invariant says that the own lines of the rows below are written; a row's lines leave others as they are, or equal.
use Rattle.flat_lines.specs.Lent.{Wrote}
use Rattle.flat_lines.proofs.rows.put_rows.Given as goal

abbrev pub invariant-loop-row : goal.invariant-loop-row
invariant-loop-row l =
    Wrote l.rows l.row l.out
