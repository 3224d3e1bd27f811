-- `print_parameters`: one line after the other.
use mathlib.Core.Path.{◌≡◌, sym, subst, ◌∙◌}
use Prim.Native.Nat.{◌+◌, ◌<◌}
use native.Mathlib.Omega.{arith}
use lib.ListN.{length}
use Rattle.words.specs.Table.{row_count, number_at}
use borrow.Author.Tests.{not-true, not-false}
use Rattle.language.specs.Decode.{parameter_list_at}
use Rattle.page.specs.Lines.{parameter_lines}
use Rattle.page_line.specs.LaidLaws.{laid-length}
use Rattle.page_line.specs.declared.LineAt.TheVariants.{Parameter, LastParameter}
use Rattle.page_line.specs.ReadsLaws.{row-words}
use Rattle.page_printer.specs.ReadyLaws.{ready-line}
use Rattle.page_printer.specs.OutlineLaws.{next_inside}
use Rattle.page_printer.specs.FunctionLaws.{parameter-more, parameter-line, last-parameter-line, Printing, printing-start, printing-length, printing-as, printing-first, printing-next, printing-end}
use mathlib.Core.Path.{ap}
use borrow.Author.Rules.{rules}
use Rattle.page_printer.proofs.functions.print_parameters.Given as goal

abbrev pub invariant-loop-page : goal.invariant-loop-page
invariant-loop-page l =
    Printing l.sizes (parameter_lines l.level (number_at l.rows l.first 1) (parameter_list_at l.rows (number_at l.rows l.first 5))) (parameter_lines l.level (number_at l.rows l.row 1) (parameter_list_at l.rows (number_at l.rows l.row 5))) l.initial.page l.done l.lines l.page
    × (l.row < row_count l.rows)

abbrev pub decreases-loop-page : goal.decreases-loop-page
decreases-loop-page l =
    length (parameter_list_at l.rows (number_at l.rows l.row 5))
