-- The variables and declared words of the rows so far; the invariant is `Variables`.
use Rattle.write_sets_programs.proofs.UnionLaws.{Variables}
use Rattle.write_sets_programs.proofs.program.any_variables.Given as goal

abbrev pub invariant-loop-row : goal.invariant-loop-row
invariant-loop-row l = Variables l.store l.rows l.any l.row
