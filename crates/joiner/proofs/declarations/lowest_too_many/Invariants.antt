-- `lowest_too_many` looks at the rows in order. The invariant: the count is that of the declarations passed, and none of them is the 65th.
use Rattle.std.proofs.Common.{◌≡◌}
use Rattle.words.specs.Table.{row_count}
use Rattle.words.specs.Declarations.{declarations_before}
use Rattle.words.specs.SearchLaws.{Looked}
use Rattle.check_declaration_causes.specs.Causes.{one_too_many}
use Rattle.joiner.proofs.declarations.lowest_too_many.Given as goal

abbrev pub invariant-loop-row : goal.invariant-loop-row
invariant-loop-row l = Looked (one_too_many l.rows) (row_count l.rows) l.row × (l.before ≡ declarations_before l.rows l.row)
