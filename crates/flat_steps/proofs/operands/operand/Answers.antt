-- `operand` takes the word, or the store's word with its number.
use Rattle.words.specs.Laws.{back}
use mathlib.Core.Path.{◌∙◌}
use native.Mathlib.Omega.{arith}
use Rattle.flat_steps.proofs.operands.operand.Goals as goal

pub word_at-requires : goal.word_at-requires
word_at-requires c = c.requires.inside

pub returns-then-constant : goal.returns-then-constant
returns-then-constant c = rw c.if-constant.true (back c.word_at.result c.word_at.type_inv ∙ c.word_at.ensures)

pub number_at-at-requires : goal.number_at-at-requires
number_at-at-requires c = (c.requires.inside, omega (arith, c.requires.named c.if-constant.false, c.requires.few_words))

pub offset_bounds-store-at : goal.offset_bounds-store-at
offset_bounds-store-at c = omega (arith, c.requires.named c.if-constant.false, c.requires.few_words, c.number_at-at.ensures)

pub bounds-store-at : goal.bounds-store-at
bounds-store-at c = omega (arith, c.requires.named c.if-constant.false, c.number_at-at.ensures)

pub returns : goal.returns
returns c = rw (c.if-constant.false, ← c.number_at-at.ensures) (back _ c.result-1.given)
