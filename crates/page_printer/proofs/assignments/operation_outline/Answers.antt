-- `operation_outline`: only an assignment can be a call.
use mathlib.Core.Path.{sym, ap, subst, ◌∙◌}
use Rattle.words.specs.Table.{row_count}
use Rattle.language_shapes.specs.declared.OperationShape.{OperationShape}
use Rattle.page_line.specs.Reads.{OperationInside}
use Rattle.page_printer.specs.Outlines.{operation_outline}
use borrow.Author.Rules.{rules}
use Rattle.page_printer.proofs.assignments.operation_outline.Goals as goal

pub value_outline-requires : goal.value_outline-requires
value_outline-requires c =
    (c.requires.0, (subst (λ (o : OperationShape). OperationInside (row_count c.args.rows.now) o) c.in-Assign.is c.requires.1).1)

pub returns-in-Assign : goal.returns-in-Assign
returns-in-Assign c =
    c.value_outline.ensures ∙ ap (operation_outline c.args.rows.now c.args.expression) (sym c.in-Assign.is)

pub returns-in-Minus : goal.returns-in-Minus
returns-in-Minus c =
    ap (operation_outline c.args.rows.now c.args.expression) (sym c.in-Minus.is)

pub returns-in-Not : goal.returns-in-Not
returns-in-Not c =
    ap (operation_outline c.args.rows.now c.args.expression) (sym c.in-Not.is)

pub returns-in-Binary : goal.returns-in-Binary
returns-in-Binary c =
    ap (operation_outline c.args.rows.now c.args.expression) (sym c.in-Binary.is)

pub returns-in-Comma : goal.returns-in-Comma
returns-in-Comma c =
    ap (operation_outline c.args.rows.now c.args.expression) (sym c.in-Comma.is)

pub returns-in-Compound : goal.returns-in-Compound
returns-in-Compound c =
    ap (operation_outline c.args.rows.now c.args.expression) (sym c.in-Compound.is)

pub returns-in-Prefix : goal.returns-in-Prefix
returns-in-Prefix c =
    ap (operation_outline c.args.rows.now c.args.expression) (sym c.in-Prefix.is)

pub returns-in-Postfix : goal.returns-in-Postfix
returns-in-Postfix c =
    ap (operation_outline c.args.rows.now c.args.expression) (sym c.in-Postfix.is)
