-- `lowest_row` tries the rows in order. The invariant: the test was false of the rows passed.
use Rattle.std.proofs.Common.{ℕ, ◌<◌, false}
use Rattle.check_grammar.proofs.search.lowest_row.Given as goal

abbrev pub invariant-loop-row : goal.invariant-loop-row
invariant-loop-row g l = (row : ℕ) → row < l.row → goal.F-post g l.test row false
