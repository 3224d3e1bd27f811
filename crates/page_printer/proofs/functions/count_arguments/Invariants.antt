-- `count_arguments`: one after the other, along their links.
use mathlib.Core.Path.{◌≡◌, sym, subst, ◌∙◌}
use Prim.Native.Nat.{◌+◌, ◌<◌}
use native.Mathlib.Omega.{arith}
use lib.ListN.{length}
use Rattle.words.specs.Table.{row_count, number_at}
use Rattle.language.specs.Decode.{argument_list_at}
use Rattle.language.specs.Calls.{argument_count}
use Rattle.page_line.specs.ReadsLaws.{row-words, argument-as}
use Rattle.page_printer.specs.FunctionLaws.{argument-more, argument-end}
use borrow.Author.Rules.{rules}
use Rattle.page_printer.proofs.functions.count_arguments.Given as goal

abbrev pub invariant-loop-count : goal.invariant-loop-count
invariant-loop-count l =
    (l.count + argument_count (argument_list_at l.rows l.along) ≡ argument_count (argument_list_at l.rows l.link)) × (l.along < row_count l.rows)

abbrev pub decreases-loop-count : goal.decreases-loop-count
decreases-loop-count l =
    argument_count (argument_list_at l.rows l.along)
