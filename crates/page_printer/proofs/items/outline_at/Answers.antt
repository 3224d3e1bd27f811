-- `outline_at`: by what stands at the row.
use mathlib.Core.Path.{sym, ap, ◌∙◌}
use Rattle.page_line.specs.ReadsLaws.{row-words}
use Rattle.page_printer.specs.Outlines.{outline_of, outline_at}
use Rattle.page_printer.specs.OutlineLaws.{statement-expression}
use borrow.Author.Rules.{rules}
use Rattle.page_printer.proofs.items.outline_at.Goals as goal

pub shape_at-shape-requires : goal.shape_at-shape-requires
shape_at-shape-requires c =
    row-words c.requires.0 c.requires.1

pub statement_outline-requires : goal.statement_outline-requires
statement_outline-requires c =
    (c.requires.0, statement-expression c.requires.0 c.requires.1 (sym c.shape_at-shape.ensures ∙ c.in-OfStatement.is))

pub returns-in-OfExpression : goal.returns-in-OfExpression
unfolding outline_at
returns-in-OfExpression c =
    ap (outline_of c.args.rows.now c.args.row) (sym c.in-OfExpression.is ∙ c.shape_at-shape.ensures)

pub returns-in-OfStatement : goal.returns-in-OfStatement
unfolding outline_at
returns-in-OfStatement c =
    c.statement_outline.ensures ∙ ap (outline_of c.args.rows.now c.args.row) (sym c.in-OfStatement.is ∙ c.shape_at-shape.ensures)

pub returns-in-OfMark : goal.returns-in-OfMark
unfolding outline_at
returns-in-OfMark c =
    ap (outline_of c.args.rows.now c.args.row) (sym c.in-OfMark.is ∙ c.shape_at-shape.ensures)

pub returns-in-OfArm : goal.returns-in-OfArm
unfolding outline_at
returns-in-OfArm c =
    ap (outline_of c.args.rows.now c.args.row) (sym c.in-OfArm.is ∙ c.shape_at-shape.ensures)

pub returns-in-OfArgument : goal.returns-in-OfArgument
unfolding outline_at
returns-in-OfArgument c =
    ap (outline_of c.args.rows.now c.args.row) (sym c.in-OfArgument.is ∙ c.shape_at-shape.ensures)

pub returns-in-OfDefinition : goal.returns-in-OfDefinition
unfolding outline_at
returns-in-OfDefinition c =
    ap (outline_of c.args.rows.now c.args.row) (sym c.in-OfDefinition.is ∙ c.shape_at-shape.ensures)

pub returns-in-Other : goal.returns-in-Other
unfolding outline_at
returns-in-Other c =
    ap (outline_of c.args.rows.now c.args.row) (sym c.in-Other.is ∙ c.shape_at-shape.ensures)
