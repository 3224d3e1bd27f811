-- `print_parameters`: one line after the other.
use mathlib.Core.Path.{◌≡◌, sym, subst, ◌∙◌}
use Prim.Native.Nat.{◌+◌, ◌<◌}
use native.Mathlib.Omega.{arith}
use lib.ListN.{length}
use Rattle.words.specs.Table.{row_count, number_at}
use borrow.Author.Tests.{not-true, not-false}
use Rattle.language.specs.Decode.{parameter_list_at}
use Rattle.page.specs.Lines.{parameter_lines}
use Rattle.page_line.specs.LaidLaws.{laid-length}
use Rattle.page_line.specs.declared.LineAt.TheVariants.{Parameter, LastParameter}
use Rattle.page_line.specs.ReadsLaws.{row-words}
use Rattle.page_printer.specs.ReadyLaws.{ready-line}
use Rattle.page_printer.specs.OutlineLaws.{next_inside}
use Rattle.page_printer.specs.FunctionLaws.{parameter-more, parameter-line, last-parameter-line, Printing, printing-start, printing-length, printing-as, printing-first, printing-next, printing-end}
use mathlib.Core.Path.{ap}
use borrow.Author.Rules.{rules}
use Rattle.page_printer.proofs.functions.print_parameters.Goals as goal

pub loop-page-init : goal.loop-page-init
loop-page-init c =
    (printing-start c.args.sizes _ c.args.page.now c.args.done (omega (arith, c.requires.0.room)), c.requires.1)

pub number_at-word-requires : goal.number_at-word-requires
number_at-word-requires c =
    omega (arith, row-words c.requires.0.readable c.loop-page.invariant.1)

pub number_at-next-requires : goal.number_at-next-requires
number_at-next-requires c =
    row-words c.requires.0.readable c.loop-page.invariant.1

pub is_parameter-requires : goal.is_parameter-requires
is_parameter-requires c =
    (c.requires.0.readable, rw c.number_at-next.ensures (next_inside c.requires.0.readable c.loop-page.invariant.1))

pub print_line-requires : goal.print_line-requires
print_line-requires c =
    let e = rw c.number_at-next.ensures at (sym c.is_parameter.ensures ∙ c.if-not-is_parameter.true) in
    let p = printing-as c.loop-page.invariant.0 (last-parameter-line c.requires.0.readable c.args.level _ _ e) in
    rw c.number_at-word.ensures (ready-line (LastParameter _) (printing-first p c.requires.0) tt)

pub shape_of-page-then-not-is_parameter : goal.shape_of-page-then-not-is_parameter
shape_of-page-then-not-is_parameter c =
    laid-length c.print_line.ensures.laid ∙ printing-length c.loop-page.invariant.0

pub returns-then-not-is_parameter : goal.returns-then-not-is_parameter
returns-then-not-is_parameter c =
    let e = rw c.number_at-next.ensures at (sym c.is_parameter.ensures ∙ c.if-not-is_parameter.true) in
    printing-end (printing-as c.loop-page.invariant.0 (last-parameter-line c.requires.0.readable c.args.level _ _ e)) (rw c.number_at-word.ensures at c.print_line.ensures)

pub print_line-lines-requires : goal.print_line-lines-requires
print_line-lines-requires c =
    let e = rw c.number_at-next.ensures at (sym c.is_parameter.ensures ∙ c.if-not-is_parameter.false) in
    let p = printing-as c.loop-page.invariant.0 (parameter-line c.requires.0.readable c.args.level _ _ (next_inside c.requires.0.readable c.loop-page.invariant.1) e) in
    rw c.number_at-word.ensures (ready-line (Parameter _) (printing-first p c.requires.0) tt)

pub loop-page-smaller : goal.loop-page-smaller
loop-page-smaller c =
    let e = rw c.number_at-next.ensures at (sym c.is_parameter.ensures ∙ c.if-not-is_parameter.false) in
    rw c.number_at-next.ensures (omega (arith, ap length (parameter-more c.requires.0.readable _ (next_inside c.requires.0.readable c.loop-page.invariant.1) e)))

pub loop-page-preserved : goal.loop-page-preserved
loop-page-preserved c =
    let e = rw c.number_at-next.ensures at (sym c.is_parameter.ensures ∙ c.if-not-is_parameter.false) in
    let inside = next_inside c.requires.0.readable c.loop-page.invariant.1 in
    rw c.number_at-next.ensures (printing-next (printing-as c.loop-page.invariant.0 (parameter-line c.requires.0.readable c.args.level _ _ inside e)) (rw c.number_at-word.ensures at c.print_line-lines.ensures), inside)
