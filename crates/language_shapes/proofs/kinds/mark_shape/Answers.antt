-- The shape of a mark of a kind: each arm of the match is a line of the definition.
use mathlib.Core.Path.{refl, ◌∙◌}
use borrow.Author.Rules.{sfits_of}
use mir.Facts.{to_z-of_z}
use Rattle.std.specs.Int.{w32}
use Rattle.language_shapes.proofs.Reading.{mark-arm}
use borrow.Author.Rules.{rules}
use Rattle.language_shapes.proofs.kinds.mark_shape.Goals as goal

pub returns-in-Case : goal.returns-in-Case
returns-in-Case c = mark-arm _ _ _ _ c.in-Case.is (to_z-of_z {w = w32} (sfits_of c.word_at.type_inv) ∙ c.word_at.ensures) c.number_at-a.ensures

pub returns-in-Default : goal.returns-in-Default
returns-in-Default c = mark-arm _ _ _ _ c.in-Default.is refl c.number_at-a.ensures

pub returns-in-Label : goal.returns-in-Label
returns-in-Label c = mark-arm _ _ _ _ c.in-Label.is refl c.number_at-a.ensures
