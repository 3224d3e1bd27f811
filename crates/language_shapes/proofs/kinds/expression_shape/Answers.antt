-- The shape of an expression of a kind: each arm of the match is a line of the definition.
use mathlib.Core.Path.{refl, ◌∙◌}
use borrow.Author.Rules.{sfits_of}
use mir.Facts.{to_z-of_z}
use Rattle.std.specs.Int.{w32}
use Rattle.language_shapes.proofs.Reading.{expression-arm}
use borrow.Author.Rules.{rules}
use Rattle.language_shapes.proofs.kinds.expression_shape.Goals as goal

pub returns-in-Constant : goal.returns-in-Constant
returns-in-Constant c = expression-arm _ _ _ _ _ _ c.in-Constant.is (to_z-of_z {w = w32} (sfits_of c.word_at.type_inv) ∙ c.word_at.ensures) c.number_at-a.ensures c.number_at-b.ensures c.number_at-c.ensures

pub returns-in-Variable : goal.returns-in-Variable
returns-in-Variable c = expression-arm _ _ _ _ _ _ c.in-Variable.is refl c.number_at-a.ensures c.number_at-b.ensures c.number_at-c.ensures

pub returns-in-Element : goal.returns-in-Element
returns-in-Element c = expression-arm _ _ _ _ _ _ c.in-Element.is refl c.number_at-a.ensures c.number_at-b.ensures c.number_at-c.ensures

pub returns-in-Minus : goal.returns-in-Minus
returns-in-Minus c = expression-arm _ _ _ _ _ _ c.in-Minus.is refl c.number_at-a.ensures c.number_at-b.ensures c.number_at-c.ensures

pub returns-in-Not : goal.returns-in-Not
returns-in-Not c = expression-arm _ _ _ _ _ _ c.in-Not.is refl c.number_at-a.ensures c.number_at-b.ensures c.number_at-c.ensures

pub returns-in-Binary : goal.returns-in-Binary
returns-in-Binary c = expression-arm _ _ _ _ _ _ c.in-Binary.is refl c.number_at-a.ensures c.number_at-b.ensures c.number_at-c.ensures

pub returns-in-And : goal.returns-in-And
returns-in-And c = expression-arm _ _ _ _ _ _ c.in-And.is refl c.number_at-a.ensures c.number_at-b.ensures c.number_at-c.ensures

pub returns-in-Or : goal.returns-in-Or
returns-in-Or c = expression-arm _ _ _ _ _ _ c.in-Or.is refl c.number_at-a.ensures c.number_at-b.ensures c.number_at-c.ensures

pub returns-in-Conditional : goal.returns-in-Conditional
returns-in-Conditional c = expression-arm _ _ _ _ _ _ c.in-Conditional.is refl c.number_at-a.ensures c.number_at-b.ensures c.number_at-c.ensures

pub returns-in-Comma : goal.returns-in-Comma
returns-in-Comma c = expression-arm _ _ _ _ _ _ c.in-Comma.is refl c.number_at-a.ensures c.number_at-b.ensures c.number_at-c.ensures

pub returns-in-Assign : goal.returns-in-Assign
returns-in-Assign c = expression-arm _ _ _ _ _ _ c.in-Assign.is refl c.number_at-a.ensures c.number_at-b.ensures c.number_at-c.ensures

pub returns-in-Compound : goal.returns-in-Compound
returns-in-Compound c = expression-arm _ _ _ _ _ _ c.in-Compound.is refl c.number_at-a.ensures c.number_at-b.ensures c.number_at-c.ensures

pub returns-in-Prefix : goal.returns-in-Prefix
returns-in-Prefix c = expression-arm _ _ _ _ _ _ c.in-Prefix.is refl c.number_at-a.ensures c.number_at-b.ensures c.number_at-c.ensures

pub returns-in-Postfix : goal.returns-in-Postfix
returns-in-Postfix c = expression-arm _ _ _ _ _ _ c.in-Postfix.is refl c.number_at-a.ensures c.number_at-b.ensures c.number_at-c.ensures

pub returns-in-Call : goal.returns-in-Call
returns-in-Call c = expression-arm _ _ _ _ _ _ c.in-Call.is refl c.number_at-a.ensures c.number_at-b.ensures c.number_at-c.ensures
