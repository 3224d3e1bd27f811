-- `put_rows` puts one line after the other; the invariant is `Rowed`.
use Rattle.text_form.proofs.Writing.{Rowed}
use Rattle.text_form.proofs.writer.put_rows.Given as goal

abbrev pub invariant-loop-row : goal.invariant-loop-row
invariant-loop-row l = Rowed l.width l.rows l.count l.row l.at l.initial.text l.text
