-- `print_arguments`: one line after the other.
use mathlib.Core.Path.{◌≡◌, sym, subst, ◌∙◌}
use Prim.Native.Nat.{◌+◌, ◌<◌}
use native.Mathlib.Omega.{arith}
use lib.ListN.{length}
use Rattle.words.specs.Table.{row_count, number_at}
use Rattle.language.specs.Decode.{expression_at, argument_list_at}
use Rattle.language.specs.Calls.{argument_count}
use Rattle.page.specs.Lines.{argument_lines}
use Rattle.page_line.specs.LaidLaws.{laid-length}
use Rattle.page_line.specs.declared.LineAt.TheVariants.{Argument, LastArgument}
use Rattle.page_line.specs.ReadsLaws.{row-words, argument-as}
use Rattle.page_printer.specs.ReadyLaws.{ready-line}
use Rattle.page_printer.specs.FunctionLaws.{argument-more, argument-line, last-argument-line, Printing, printing-start, printing-length, printing-as, printing-first, printing-next, printing-end}
use borrow.Author.Rules.{rules}
use Rattle.page_printer.proofs.functions.print_arguments.Given as goal

abbrev pub invariant-loop-following : goal.invariant-loop-following
invariant-loop-following l =
    Printing l.sizes (argument_lines l.level (expression_at l.rows l.first) (argument_list_at l.rows l.link)) (argument_lines l.level (expression_at l.rows l.row) (argument_list_at l.rows l.along)) l.initial.page l.done l.lines l.page
    × (l.row < row_count l.rows) × (l.along < row_count l.rows)

abbrev pub decreases-loop-following : goal.decreases-loop-following
decreases-loop-following l =
    argument_count (argument_list_at l.rows l.along)
