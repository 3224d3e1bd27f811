-- The rows from the loop's row on have their words.
use Rattle.write_sets_programs.specs.Arrays.{ArraysFrom}
use Rattle.write_sets_programs.proofs.arrays.fill_arrays.Given as goal

abbrev pub invariant-loop-row : goal.invariant-loop-row
invariant-loop-row l = ArraysFrom l.rows l.arrays l.row
