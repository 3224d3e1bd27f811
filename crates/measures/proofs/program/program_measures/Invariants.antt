-- The definitions so far.
use Rattle.words.specs.Table.{row_count}
use Rattle.write_sets_rows.proofs.ArgumentLaws.{rows_left}
use Rattle.measures.proofs.ProgramLaws.{Summing}
use Rattle.measures.proofs.program.program_measures.Given as goal

abbrev pub invariant-loop-found : goal.invariant-loop-found
invariant-loop-found l = Summing l.rows l.first l.found l.row

abbrev pub decreases-loop-found : goal.decreases-loop-found
decreases-loop-found l = rows_left (row_count l.rows) l.row
