-- `print_definition`: one line, or those of the parameters.
use mathlib.Core.Path.{◌≡◌, sym, subst, ◌∙◌}
use Prim.Native.Nat.{◌+◌, ◌<◌}
use native.Mathlib.Omega.{arith}
use lib.ListN.{length}
use Rattle.words.specs.Table.{row_count, number_at}
use borrow.Author.Tests.{not-true, not-false}
use mathlib.Core.List.{List, [], ◌∷◌}
use Rattle.language.specs.Decode.{parameter_list_at}
use Rattle.page.specs.Lines.{Indented, indented, opens_parameters, definition_lines, parameter_lines}
use Rattle.page_line.specs.Printed.{Printed}
use Rattle.page_line.specs.PrintedLaws.{printed-next}
use Rattle.page_line.specs.declared.LineAt.TheVariants.{OpensFunction, OpensParameters}
use Rattle.page_printer.specs.Ready.{Ready}
use Rattle.page_printer.specs.ReadyLaws.{ready-first, ready-behind, ready-line}
use Rattle.page_printer.specs.FunctionLaws.{definition-alone, definition-more}
use borrow.Author.Rules.{rules}
use Rattle.page_printer.proofs.functions.print_definition.Goals as goal

pub is_parameter-requires : goal.is_parameter-requires
is_parameter-requires c =
    (c.requires.0.readable, c.requires.1)

pub print_line-requires : goal.print_line-requires
print_line-requires c =
    let e = definition-alone c.requires.0.readable c.args.level c.args.number c.args.link (sym c.is_parameter.ensures ∙ c.if-not-is_parameter.true) in
    ready-line (OpensFunction c.args.number) (rw e at c.requires.0) tt

pub returns-then-not-is_parameter : goal.returns-then-not-is_parameter
returns-then-not-is_parameter c =
    rw (definition-alone c.requires.0.readable c.args.level c.args.number c.args.link (sym c.is_parameter.ensures ∙ c.if-not-is_parameter.true)) c.print_line.ensures

pub print_line-opened-requires : goal.print_line-opened-requires
print_line-opened-requires c =
    let e = definition-more c.requires.0.readable c.args.level c.args.number c.args.link c.requires.1 (sym c.is_parameter.ensures ∙ c.if-not-is_parameter.false) in
    ready-line (OpensParameters c.args.number) (ready-first (indented c.args.level (opens_parameters c.args.number) ∷ []) _ (rw e at c.requires.0)) tt

pub print_parameters-requires : goal.print_parameters-requires
print_parameters-requires c =
    let e = definition-more c.requires.0.readable c.args.level c.args.number c.args.link c.requires.1 (sym c.is_parameter.ensures ∙ c.if-not-is_parameter.false) in
    (ready-behind (indented c.args.level (opens_parameters c.args.number) ∷ []) _ (rw e at c.requires.0) c.print_line-opened.ensures, c.requires.1)

pub returns : goal.returns
returns c =
    rw (definition-more c.requires.0.readable c.args.level c.args.number c.args.link c.requires.1 (sym c.is_parameter.ensures ∙ c.if-not-is_parameter.false)) (printed-next c.print_line-opened.ensures c.print_parameters.ensures)
