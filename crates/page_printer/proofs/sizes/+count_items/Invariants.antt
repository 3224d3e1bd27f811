-- Lists and items are counted: by the laws of counts. The measure is twice the lines, and one more for a list.
use mathlib.Core.Path.{◌≡◌, refl, sym, ap, ◌∙◌}
use Prim.Native.Nat.{◌+◌, ◌*◌, ℕ, ◌<◌}
use native.Mathlib.Omega.{arith}
use borrow.Author.Rules.{rules}
use lib.ListN.{length}
use Rattle.words.specs.Table.{row_count}
use Rattle.language.specs.Decode.{list_at}
use Rattle.page.specs.Lines.{items_lines, statement_lines}
use Rattle.page_line.specs.ReadsLaws.{row-words}
use Rattle.page_printer.specs.declared.Outline.{Outline}
use Rattle.page_printer.specs.Outlines.{outline_at, outlined}
use Rattle.page_printer.specs.OutlineLaws.{next_inside, next-later}
use Rattle.page_printer.specs.CountLaws.{ahead, ahead-falls, told-inside, list_count, enclosed-count, split-count, called-count, defined-count, block-sized}
use Rattle.page_printer.proofs.sizes.+count_items.Given as goal

abbrev pub decreases-count_item : goal.decreases-count_item
decreases-count_item l =
    2 * length (outlined l.rows.now 0 (outline_at l.rows.now l.row))

abbrev pub decreases-count_list : goal.decreases-count_list
decreases-count_list l =
    2 * length (items_lines 0 (list_at l.rows.now l.first)) + 1

abbrev pub invariant-count_list-loop-row : goal.invariant-count_list-loop-row
invariant-count_list-loop-row l =
    (l.lines + length (items_lines 0 (list_at l.rows l.row)) ≡ length (items_lines 0 (list_at l.rows l.first))) × (l.row < row_count l.rows)

abbrev pub decreases-count_list-loop-row : goal.decreases-count_list-loop-row
decreases-count_list-loop-row l =
    ahead (row_count l.rows) l.row
