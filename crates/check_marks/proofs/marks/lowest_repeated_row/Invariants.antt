-- `lowest_repeated_row` takes the rows in, in order. The invariant: the marks passed are in their trees, and none is repeated.
use mathlib.Core.Path.{◌≡◌, refl, sym, ◌∙◌}
use mathlib.Core.Bool.{true, false}
use Prim.Native.Nat.{◌≤◌, ◌-◌}
use native.Mathlib.Omega.{arith}
use lib.ListN.{length}
use borrow.Author.Tests.{not-true, not-false}
use Rattle.words.specs.Table.{row_count}
use Rattle.words.specs.Search.{lowest_row}
use Rattle.words.specs.SearchLaws.{Looked, looked-start, looked-on, looked-hit, looked-end}
use Rattle.check_marks.specs.Marks.{repeated}
use Rattle.check_marks.specs.MarkTree.{HoldsMarks}
use Rattle.check_marks.proofs.marks.lowest_repeated_row.Given as goal

abbrev pub invariant-loop-row : goal.invariant-loop-row
invariant-loop-row l =
    (length l.children ≡ length l.initial.children) × HoldsMarks l.rows l.roots l.row l.children × Looked (repeated l.rows) (row_count l.rows) l.row
