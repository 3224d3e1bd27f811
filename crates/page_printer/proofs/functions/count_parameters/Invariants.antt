-- `count_parameters`: one after the other, along their links.
use mathlib.Core.Path.{◌≡◌, sym, subst, ◌∙◌}
use Prim.Native.Nat.{◌+◌, ◌<◌}
use native.Mathlib.Omega.{arith}
use lib.ListN.{length}
use Rattle.words.specs.Table.{row_count, number_at}
use mathlib.Core.Path.{ap}
use Rattle.language.specs.Decode.{parameter_list_at}
use Rattle.page_line.specs.ReadsLaws.{row-words}
use Rattle.page_printer.specs.OutlineLaws.{next_inside}
use Rattle.page_printer.specs.FunctionLaws.{parameter-more, parameter-none}
use borrow.Author.Rules.{rules}
use Rattle.page_printer.proofs.functions.count_parameters.Given as goal

abbrev pub invariant-loop-count : goal.invariant-loop-count
invariant-loop-count l =
    (l.count + length (parameter_list_at l.rows l.along) ≡ length (parameter_list_at l.rows l.link)) × (l.along < row_count l.rows)

abbrev pub decreases-loop-count : goal.decreases-loop-count
decreases-loop-count l =
    length (parameter_list_at l.rows l.along)
