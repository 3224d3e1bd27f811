-- A constant's value, or a variable.
use mathlib.Core.Path.{sym, ap, ◌∙◌}
use Rattle.words.specs.Laws.{back}
use borrow.Author.Rules.{rules}
use Rattle.arithmetic.specs.Arithmetic.{is_true}
use Rattle.flat_sizes.specs.Sizes.{always-constant, always-variable}
use Rattle.flat_sizes.proofs.sizes.is_always.Goals as goal

pub returns-then-number_at-eq1 : goal.returns-then-number_at-eq1
returns-then-number_at-eq1 c = c.is_true.ensures ∙ ap is_true (back _ c.word_at.type_inv ∙ c.word_at.ensures) ∙ always-constant c.requires.0 _ (sym c.number_at.ensures ∙ c.if-number_at-eq1.true)

pub returns : goal.returns
returns c = always-variable c.requires.0 _ c.requires.2 (λ q. c.if-number_at-eq1.false (c.number_at.ensures ∙ q))
