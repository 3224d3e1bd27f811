-- The parameters so far.
use Rattle.words.specs.Table.{row_count}
use Rattle.write_sets_rows.proofs.ArgumentLaws.{rows_left}
use Rattle.measures.proofs.ProgramLaws.{Counting}
use Rattle.measures.proofs.program.parameter_count.Given as goal

abbrev pub invariant-loop-count : goal.invariant-loop-count
invariant-loop-count l = Counting l.rows l.first l.count l.row

abbrev pub decreases-loop-count : goal.decreases-loop-count
decreases-loop-count l = rows_left (row_count l.rows) l.row
