-- `print_arguments`: one line after the other.
use mathlib.Core.Path.{◌≡◌, sym, subst, ◌∙◌}
use Prim.Native.Nat.{◌+◌, ◌<◌}
use native.Mathlib.Omega.{arith}
use lib.ListN.{length}
use Rattle.words.specs.Table.{row_count, number_at}
use Rattle.language.specs.Decode.{expression_at, argument_list_at}
use Rattle.language.specs.Calls.{argument_count}
use Rattle.page.specs.Lines.{argument_lines}
use Rattle.page_line.specs.LaidLaws.{laid-length}
use Rattle.page_line.specs.declared.LineAt.TheVariants.{Argument, LastArgument}
use Rattle.page_line.specs.ReadsLaws.{row-words, argument-as}
use Rattle.page_printer.specs.ReadyLaws.{ready-line}
use Rattle.page_printer.specs.FunctionLaws.{argument-more, argument-line, last-argument-line, Printing, printing-start, printing-length, printing-as, printing-first, printing-next, printing-end}
use borrow.Author.Rules.{rules}
use Rattle.page_printer.proofs.functions.print_arguments.Goals as goal

pub loop-following-init : goal.loop-following-init
loop-following-init c =
    (printing-start c.args.sizes _ c.args.page.now c.args.done (omega (arith, c.requires.0.room)), c.requires.1, c.requires.2)

pub argument_at-found-requires : goal.argument_at-found-requires
argument_at-found-requires c =
    (c.requires.0.readable, c.loop-following.invariant.2)

pub print_line-requires : goal.print_line-requires
print_line-requires c =
    let p = printing-as c.loop-following.invariant.0 (last-argument-line c.args.level c.loop-following.row (argument-as c.argument_at-found.ensures.0 c.in_default.is)) in
    ready-line (LastArgument c.loop-following.row) (printing-first p c.requires.0) c.loop-following.invariant.1

pub shape_of-page-in_default : goal.shape_of-page-in_default
shape_of-page-in_default c =
    laid-length c.print_line.ensures.laid ∙ printing-length c.loop-following.invariant.0

pub returns-in_default : goal.returns-in_default
returns-in_default c =
    printing-end (printing-as c.loop-following.invariant.0 (last-argument-line c.args.level c.loop-following.row (argument-as c.argument_at-found.ensures.0 c.in_default.is))) c.print_line.ensures

pub print_line-lines-requires : goal.print_line-lines-requires
print_line-lines-requires c =
    let p = printing-as c.loop-following.invariant.0 (argument-line c.args.level c.loop-following.row c.in-Some.following (argument-as c.argument_at-found.ensures.0 c.in-Some.is)) in
    ready-line (Argument c.loop-following.row) (printing-first p c.requires.0) c.loop-following.invariant.1

pub number_at-along-requires : goal.number_at-along-requires
number_at-along-requires c =
    row-words c.requires.0.readable c.loop-following.invariant.2

pub loop-following-smaller : goal.loop-following-smaller
loop-following-smaller c =
    rw c.number_at-along.ensures (omega (arith, argument-more _ (argument-as c.argument_at-found.ensures.0 c.in-Some.is)))

pub loop-following-preserved : goal.loop-following-preserved
loop-following-preserved c =
    let r = argument-as c.argument_at-found.ensures.0 c.in-Some.is in
    rw c.number_at-along.ensures (printing-next (printing-as c.loop-following.invariant.0 (argument-line c.args.level c.loop-following.row c.in-Some.following r)) c.print_line-lines.ensures, r.inside, r.next_inside)
