-- `operator`: by the length of the word.
use mathlib.Core.Path.{◌∙◌}
use Rattle.page_words.proofs.FirstBytes.{operator-one, operator-other, operator-unended, operator-two}
use Rattle.page_statements.proofs.values.operator.Goals as goal

pub returns-then-word-eq1 : goal.returns-then-word-eq1
returns-then-word-eq1 c =
    c.operator_of_one.ensures ∙ operator-one _ c.if-word-eq1.true

pub returns-then-word-ne2 : goal.returns-then-word-ne2
returns-then-word-ne2 c =
    operator-other _ c.if-word-eq1.false c.if-word-ne2.true

pub returns-then-word-ne61 : goal.returns-then-word-ne61
returns-then-word-ne61 c =
    operator-unended _ c.if-word-ne2.false c.if-word-ne61.true

pub returns : goal.returns
returns c =
    c.operator_of_two.ensures ∙ operator-two _ c.if-word-ne2.false c.if-word-ne61.false
