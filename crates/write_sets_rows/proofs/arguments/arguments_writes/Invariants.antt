-- The arguments so far; the invariant is `Gathered`.
use Rattle.words.specs.Table.{row_count}
use Rattle.write_sets_rows.proofs.ArgumentLaws.{Gathered, rows_left}
use Rattle.write_sets_rows.proofs.arguments.arguments_writes.Given as goal

abbrev pub invariant-loop-argument : goal.invariant-loop-argument
invariant-loop-argument l = Gathered l.store l.rows l.row l.first l.any l.argument

abbrev pub decreases-loop-argument : goal.decreases-loop-argument
decreases-loop-argument l = rows_left (row_count l.rows) l.argument
