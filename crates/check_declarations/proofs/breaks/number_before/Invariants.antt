-- `number_before` goes back from item to item. The invariant: the search from this item on gives what the search from the row gives.
use mathlib.Core.Path.{◌≡◌, sym, ap, ◌∙◌}
use Prim.Native.Nat.{◌<◌}
use native.Mathlib.Omega.{arith}
use borrow.Author.Tests.{eq-eqb, ne_eqb}
use Rattle.words.specs.Table.{row_count}
use Rattle.check_structure.specs.NoteLaws.{above_zero}
use Rattle.words.specs.Declarations.{is_declaration}
use Rattle.check_items.specs.Items.{some_from, some_earlier}
use Rattle.check_items.proofs.EarlierLaws.{earlier-lower, earlier-inside, from-none, from-here, from_back}
use Rattle.check_declaration_causes.specs.Causes.{same_number}
use Rattle.check_declarations.proofs.breaks.number_before.Given as goal

abbrev pub invariant-loop-item : goal.invariant-loop-item
invariant-loop-item l =
    (l.item < row_count l.rows)
    × (some_earlier (is_declaration l.rows) (same_number l.rows l.row) l.rows l.row ≡ some_from l.item (is_declaration l.rows) (same_number l.rows l.row) l.rows l.item)

abbrev pub decreases-loop-item : goal.decreases-loop-item
decreases-loop-item l =
    l.item
