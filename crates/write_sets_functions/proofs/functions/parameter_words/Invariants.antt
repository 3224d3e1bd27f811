-- The words of the parameters so far.
use Prim.Native.Nat.{◌<◌}
use Rattle.words.specs.Table.{row_count}
use Rattle.write_sets_rows.proofs.ArgumentLaws.{rows_left}
use Rattle.write_sets_functions.proofs.WalkLaws.{Joined}
use Rattle.write_sets_functions.proofs.DefinitionLaws.{words_from}
use Rattle.write_sets_functions.proofs.functions.parameter_words.Given as goal

abbrev pub invariant-loop-any : goal.invariant-loop-any
invariant-loop-any l = Joined l.store l.any (words_from l.rows l.row) (words_from l.rows l.first) × (l.row < row_count l.rows)

abbrev pub decreases-loop-any : goal.decreases-loop-any
decreases-loop-any l = rows_left (row_count l.rows) l.row
