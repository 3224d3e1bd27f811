-- The arrays of the rows so far; the invariant is `Arrays`.
use Rattle.write_sets_programs.proofs.UnionLaws.{Arrays}
use Rattle.write_sets_programs.proofs.program.any_arrays.Given as goal

abbrev pub invariant-loop-word : goal.invariant-loop-word
invariant-loop-word l = Arrays l.rows l.any l.word-index
