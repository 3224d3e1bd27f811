-- `number`: a minus sign and digits, or digits alone.
use mathlib.Core.Path.{sym, ap, ◌∙◌}
use mathlib.Core.List.{List}
use Prim.Native.Nat.{ℕ}
use Rattle.text_numbers.specs.Number.{natural_of, positive, negative}
use Rattle.words.specs.OverLaws.{rest_of}
use Rattle.text_numbers.proofs.Decimal.{is-empty, is-filled, number-empty, number-minus, number-plain, positive-within, negative-within}
use Rattle.text_numbers.proofs.number.number.Goals as goal
use Rattle.text_numbers.proofs.number.number.Goals.{else-not-is_empty-via-then-not-is_empty+else-field-eq45, else-not-is_empty-via-else-not-is_empty}

pub returns-then-field-eq45 : goal.returns-then-field-eq45
returns-then-field-eq45 c = c.negative.ensures ∙ ap negative c.natural_of.ensures ∙ negative-within _ ∙ ap (λ (l : List ℕ). negative (natural_of l)) (rest_of c.args.field.now 1) ∙ sym (number-minus _ (is-filled _ c.if-not-is_empty.ensures) c.if-field-eq45.true)

pub returns : goal.returns
returns c =
    c.positive.ensures ∙ ap positive c.natural_of-2.ensures ∙ positive-within _
    ∙ sym (elim c.else-not-is_empty.branch [
      | else-not-is_empty-via-then-not-is_empty+else-field-eq45 w ↦ number-plain _ w.if-field-eq45.false
      | else-not-is_empty-via-else-not-is_empty w ↦ number-empty _ (is-empty _ w.if-not-is_empty.ensures)
    ])
