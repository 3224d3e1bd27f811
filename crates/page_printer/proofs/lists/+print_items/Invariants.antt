-- Lists and items are printed: what each prints is the lines of its definition, behind those that are done. The measure is three times the lines
-- that are left to print, and a little more for a function that calls before it prints. The loop's invariant is `Walked`.
use mathlib.Core.Path.{◌≡◌, refl, sym, ap, subst, ◌∙◌}
use mathlib.Core.List.{List, [], ◌∷◌, ◌++◌}
use Prim.Native.Nat.{◌+◌, ◌*◌, ℕ, ◌<◌}
use native.Mathlib.Omega.{arith}
use borrow.Author.Rules.{rules}
use lib.ListN.{length, length-append}
use Rattle.words.specs.Table.{row_count}
use Rattle.language.specs.Decode.{expression_at, argument_list_at, parameter_list_at, statement_at, list_at}
use Rattle.page.specs.Lines.{Indented, indented, closes, argument_lines, definition_lines, branch_lines, items_lines}
use Rattle.page_line.specs.declared.LineAt.TheVariants.{Turns, Closes}
use Rattle.page_line.specs.Contents.{line_tree}
use Rattle.page_line.specs.Printed.{Printed}
use Rattle.page_line.specs.PrintedLaws.{printed-none, printed-next}
use Rattle.page_line.specs.ReadsLaws.{row-words}
use Rattle.page_printer.specs.declared.Outline.{Outline}
use Rattle.page_printer.specs.Outlines.{outline_at, enclosed, outlined}
use Rattle.page_printer.specs.Ready.{Ready}
use Rattle.page_printer.specs.Levels.{definition-count}
use Rattle.page_printer.specs.ReadyLaws.{ready-first, ready-behind, ready-deeper, ready-inner, ready-line}
use Rattle.page_printer.specs.OutlineLaws.{block_inside, next-later}
use Rattle.page_printer.specs.CountLaws.{ahead, ahead-falls, told-inside}
use Rattle.page_printer.specs.Walks.{Walked, walked_start, walked-length, walked-ready, walked-few, walked_next, walked_end, printed-of, ready_of, printed-as, block-list-lines}
use Rattle.page_printer.proofs.lists.+print_items.Given as goal

abbrev pub decreases-print_enclosed : goal.decreases-print_enclosed
decreases-print_enclosed l =
    3 * length (branch_lines (l.level + 1) (statement_at l.rows.now l.block)) + 2

abbrev pub decreases-print_item : goal.decreases-print_item
decreases-print_item l =
    3 * length (outlined l.rows.now l.level (outline_at l.rows.now l.row))

abbrev pub decreases-print_list : goal.decreases-print_list
decreases-print_list l =
    3 * length (items_lines l.level (list_at l.rows.now l.first)) + 1

abbrev pub invariant-print_list-loop-row : goal.invariant-print_list-loop-row
invariant-print_list-loop-row l =
    Walked l.sizes l.rows (items_lines l.level (list_at l.rows l.first)) l.level l.done l.initial.page l.row l.lines l.page

abbrev pub decreases-print_list-loop-row : goal.decreases-print_list-loop-row
decreases-print_list-loop-row l =
    ahead (row_count l.rows) l.row
