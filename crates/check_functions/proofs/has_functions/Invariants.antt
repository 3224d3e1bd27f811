-- `has_functions` looks at the rows in order. The invariant: none of the rows passed is of a function.
use Rattle.words.specs.Table.{row_count}
use Rattle.words.specs.SearchLaws.{Tried}
use Rattle.check_function_causes.specs.Functions.{is_of_functions}
use Rattle.check_functions.proofs.has_functions.Given as goal

abbrev pub invariant-loop-row : goal.invariant-loop-row
invariant-loop-row l = Tried (is_of_functions l.rows) (row_count l.rows) l.row
