-- `count_arguments`: one after the other, along their links.
use mathlib.Core.Path.{◌≡◌, sym, subst, ◌∙◌}
use Prim.Native.Nat.{◌+◌, ◌<◌}
use native.Mathlib.Omega.{arith}
use lib.ListN.{length}
use Rattle.words.specs.Table.{row_count, number_at}
use Rattle.language.specs.Decode.{argument_list_at}
use Rattle.language.specs.Calls.{argument_count}
use Rattle.page_line.specs.ReadsLaws.{row-words, argument-as}
use Rattle.page_printer.specs.FunctionLaws.{argument-more, argument-end}
use borrow.Author.Rules.{rules}
use Rattle.page_printer.proofs.functions.count_arguments.Goals as goal

pub loop-count-init : goal.loop-count-init
loop-count-init c =
    (omega arith, c.requires.1)

pub argument_at-found-requires : goal.argument_at-found-requires
argument_at-found-requires c =
    (c.requires.0, c.loop-count.invariant.1)

pub returns-in_default : goal.returns-in_default
returns-in_default c =
    omega (arith, c.loop-count.invariant.0, argument-end (argument-as c.argument_at-found.ensures.0 c.in_default.is))

pub overflow_add-count : goal.overflow_add-count
overflow_add-count c =
    omega (arith, c.loop-count.invariant.0, argument-more _ (argument-as c.argument_at-found.ensures.0 c.in-Some.is), c.requires.2)

pub number_at-along-requires : goal.number_at-along-requires
number_at-along-requires c =
    row-words c.requires.0 c.loop-count.invariant.1

pub loop-count-smaller : goal.loop-count-smaller
loop-count-smaller c =
    rw c.number_at-along.ensures (omega (arith, argument-more _ (argument-as c.argument_at-found.ensures.0 c.in-Some.is)))

pub loop-count-preserved : goal.loop-count-preserved
loop-count-preserved c =
    let r = argument-as c.argument_at-found.ensures.0 c.in-Some.is in rw c.number_at-along.ensures (omega (arith, c.loop-count.invariant.0, argument-more _ r), r.next_inside)
