-- `listed` goes along the list. The invariant: the search from this row on gives what the search from the first gives.
use mathlib.Core.Path.{◌≡◌, refl, sym, ◌∙◌}
use Prim.Native.Nat.{◌<◌}
use native.Mathlib.Omega.{arith}
use borrow.Author.Tests.{eq-eqb, ne_eqb}
use Rattle.words.specs.Table.{row_count}
use Rattle.check_structure.specs.LinkLaws.{part-inside}
use Rattle.check_parameter_causes.specs.Parameters.{some_of_list}
use Rattle.check_parameter_causes.proofs.SearchLaws.{some-none, some-here, some-step}
use Rattle.check_declaration_causes.specs.Causes.{same_number}
use Rattle.check_declarations.specs.WalkLaws.{left, part_falls}
use Rattle.check_declarations.proofs.breaks.listed.Given as goal

abbrev pub invariant-loop-parameter : goal.invariant-loop-parameter
invariant-loop-parameter l =
    (l.parameter < row_count l.rows)
    × (some_of_list (row_count l.rows) (same_number l.rows l.row) l.rows l.first ≡ some_of_list (row_count l.rows) (same_number l.rows l.row) l.rows l.parameter)

abbrev pub decreases-loop-parameter : goal.decreases-loop-parameter
decreases-loop-parameter l = left l.rows l.parameter
