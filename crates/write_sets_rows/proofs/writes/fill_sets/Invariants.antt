-- The rows from the loop's row on have their sets.
use Rattle.write_sets_rows.specs.WriteSets.{FunctionSets, SetsFrom}
use Rattle.write_sets_rows.proofs.writes.fill_sets.Given as goal

abbrev pub invariant-loop-row : goal.invariant-loop-row
invariant-loop-row l = SetsFrom l.store l.rows l.sets l.row × FunctionSets l.store l.rows l.sets l.row
