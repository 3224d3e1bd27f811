-- The functions before the loop's definition have their sets.
use mathlib.Core.Path.{◌≡◌}
use lib.ListN.{length}
use Rattle.words.specs.Table.{row_count}
use Rattle.write_sets_rows.proofs.ArgumentLaws.{rows_left}
use Rattle.write_sets_functions.proofs.DefinitionLaws.{Filling}
use Rattle.write_sets_functions.proofs.functions.gather_functions.Given as goal

abbrev pub invariant-loop-sets : goal.invariant-loop-sets
invariant-loop-sets l = Filling l.store l.rows l.sets l.known l.row × (length l.sets ≡ length l.initial.sets)

abbrev pub decreases-loop-sets : goal.decreases-loop-sets
decreases-loop-sets l = rows_left (row_count l.rows) l.row
