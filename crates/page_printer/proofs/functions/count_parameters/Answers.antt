-- `count_parameters`: one after the other, along their links.
use mathlib.Core.Path.{◌≡◌, sym, subst, ◌∙◌}
use Prim.Native.Nat.{◌+◌, ◌<◌}
use native.Mathlib.Omega.{arith}
use lib.ListN.{length}
use Rattle.words.specs.Table.{row_count, number_at}
use mathlib.Core.Path.{ap}
use Rattle.language.specs.Decode.{parameter_list_at}
use Rattle.page_line.specs.ReadsLaws.{row-words}
use Rattle.page_printer.specs.OutlineLaws.{next_inside}
use Rattle.page_printer.specs.FunctionLaws.{parameter-more, parameter-none}
use borrow.Author.Rules.{rules}
use Rattle.page_printer.proofs.functions.count_parameters.Goals as goal

pub loop-count-init : goal.loop-count-init
loop-count-init c =
    (omega arith, c.requires.1)

pub is_parameter-requires : goal.is_parameter-requires
is_parameter-requires c =
    (c.requires.0, c.loop-count.invariant.1)

pub overflow_add-count : goal.overflow_add-count
overflow_add-count c =
    omega (arith, c.loop-count.invariant.0, ap length (parameter-more c.requires.0 _ c.loop-count.invariant.1 (sym c.is_parameter.ensures ∙ c.loop-count-test.true)), c.requires.2)

pub number_at-along-requires : goal.number_at-along-requires
number_at-along-requires c =
    row-words c.requires.0 c.loop-count.invariant.1

pub loop-count-smaller : goal.loop-count-smaller
loop-count-smaller c =
    rw c.number_at-along.ensures (omega (arith, ap length (parameter-more c.requires.0 _ c.loop-count.invariant.1 (sym c.is_parameter.ensures ∙ c.loop-count-test.true))))

pub loop-count-preserved : goal.loop-count-preserved
loop-count-preserved c =
    rw c.number_at-along.ensures (omega (arith, c.loop-count.invariant.0, ap length (parameter-more c.requires.0 _ c.loop-count.invariant.1 (sym c.is_parameter.ensures ∙ c.loop-count-test.true))), next_inside c.requires.0 c.loop-count.invariant.1)

pub returns : goal.returns
returns c =
    omega (arith, c.loop-count.invariant.0, ap length (parameter-none c.requires.0 _ (sym c.is_parameter.ensures ∙ c.loop-count-test.false)))
