-- The shape of a row, by the group of its kind.
use mathlib.Core.Path.{ap, ◌∙◌}
use Rattle.language_shapes.specs.declared.Shape.TheVariants.{OfExpression, OfStatement, OfMark}
use Rattle.language_shapes.proofs.Reading.{shape-arm}
use borrow.Author.Rules.{rules}
use Rattle.language_shapes.proofs.rows.shape_at.Goals as goal

pub returns-in-OfExpression : goal.returns-in-OfExpression
returns-in-OfExpression c = ap OfExpression c.expression_shape.ensures ∙ shape-arm _ _ c.kind_at-kind.ensures c.in-OfExpression.is

pub returns-in-OfStatement : goal.returns-in-OfStatement
returns-in-OfStatement c = ap OfStatement c.statement_shape.ensures ∙ shape-arm _ _ c.kind_at-kind.ensures c.in-OfStatement.is

pub returns-in-OfMark : goal.returns-in-OfMark
returns-in-OfMark c = ap OfMark c.mark_shape.ensures ∙ shape-arm _ _ c.kind_at-kind.ensures c.in-OfMark.is

pub returns-in-OfMember : goal.returns-in-OfMember
returns-in-OfMember c = c.member_shape.ensures ∙ shape-arm _ _ c.kind_at-kind.ensures c.in-OfMember.is

pub returns-in-Definition : goal.returns-in-Definition
returns-in-Definition c = c.definition_shape.ensures ∙ shape-arm _ _ c.kind_at-kind.ensures c.in-Definition.is

pub returns-in-Other : goal.returns-in-Other
returns-in-Other c = shape-arm _ _ c.kind_at-kind.ensures c.in-Other.is
