-- `block_list`: by what stands at the row.
use mathlib.Core.Path.{sym, ap, ◌∙◌}
use Rattle.page_printer.specs.Outlines.{list_in, block_list}
use borrow.Author.Rules.{rules}
use Rattle.page_printer.proofs.items.block_list.Goals as goal

pub returns-in-OfExpression : goal.returns-in-OfExpression
unfolding block_list
returns-in-OfExpression c =
    ap list_in (sym c.in-OfExpression.is ∙ c.shape_at-shape.ensures)

pub returns-in-OfStatement : goal.returns-in-OfStatement
unfolding block_list
returns-in-OfStatement c =
    c.list_of.ensures ∙ ap list_in (sym c.in-OfStatement.is ∙ c.shape_at-shape.ensures)

pub returns-in-OfMark : goal.returns-in-OfMark
unfolding block_list
returns-in-OfMark c =
    ap list_in (sym c.in-OfMark.is ∙ c.shape_at-shape.ensures)

pub returns-in-OfArm : goal.returns-in-OfArm
unfolding block_list
returns-in-OfArm c =
    ap list_in (sym c.in-OfArm.is ∙ c.shape_at-shape.ensures)

pub returns-in-OfArgument : goal.returns-in-OfArgument
unfolding block_list
returns-in-OfArgument c =
    ap list_in (sym c.in-OfArgument.is ∙ c.shape_at-shape.ensures)

pub returns-in-OfDefinition : goal.returns-in-OfDefinition
unfolding block_list
returns-in-OfDefinition c =
    ap list_in (sym c.in-OfDefinition.is ∙ c.shape_at-shape.ensures)

pub returns-in-Other : goal.returns-in-Other
unfolding block_list
returns-in-Other c =
    ap list_in (sym c.in-Other.is ∙ c.shape_at-shape.ensures)
