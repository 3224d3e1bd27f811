-- Numbers up to a limit, and words by their first byte.
use Rattle.std.specs.Prelude.{◌≡◌, ℕ, ◌≤◌, ◌<◌, leb, ltb, length, get_or, drop, None, Some, Option}
use Rattle.std.proofs.Math.Path.{refl}
use Rattle.std.proofs.Common.{sym, ap, ◌∙◌, arith}
use mathlib.Core.List.{List, [], ◌∷◌}
use borrow.Author.Tests.{eq-eqb, ne_eqb, lt-ltb, le-ltb, leb-false}
use Rattle.words.specs.Laws.{by_cases}
use Rattle.text_numbers.specs.Number.{number_of}
use Rattle.text_numbers.specs.NumberLaws.{not_some}
use Rattle.text_numbers.specs.Reader.{at_most}
use Rattle.page_words.specs.Reads.{below_of, number_read, variable_of, declared_word_of, temporary_of, constant_of, atom_read, operator_of_one, operator_of_two, operator_read}
use Rattle.page_words.specs.declared.Names.{Names}

at-most-some : (bound : ℕ) (value : Option ℕ) (n : ℕ) → Some n ≡ at_most bound value → value ≡ Some n
unfolding at_most
at-most-some bound None n e = not_some (sym e)
at-most-some bound (Some m) n e = by_cases (leb m bound) (λ t. sym (rw t at e)) (λ t. not_some (sym (rw t at e)))

pub below_none : (bound : ℕ) (value : Option ℕ) → None ≡ at_most bound value → None ≡ below_of bound value
unfolding at_most
below_none bound None e = refl
below_none bound (Some n) e =
    by_cases (leb n bound) (λ t. not_some (rw t at e))
    (λ t. let over : bound < n = leb-false n bound t in rw (le-ltb n bound (omega arith)))

pub below-inside : (bound : ℕ) (value : Option ℕ) (n : ℕ) → Some n ≡ at_most bound value → n < bound → Some n ≡ below_of bound value
below-inside bound value n e h = rw (at-most-some bound value n e, lt-ltb n bound h)

pub below-outside : (bound : ℕ) (value : Option ℕ) (n : ℕ) → Some n ≡ at_most bound value → bound ≤ n → None ≡ below_of bound value
below-outside bound value n e h = rw (at-most-some bound value n e, le-ltb n bound h)

module _ (names : Names) where
  pub atom-none : (word : List ℕ) → length word ≡ 0 → None ≡ atom_read names word
  unfolding atom_read
  atom-none [] h = refl
  atom-none (first ∷ others) h = absurd (omega arith)

  pub atom-variable : (word : List ℕ) → (length word ≡ 0 → ⊥) → get_or word 0 0 ≡ 118 → variable_of (number_read names.variables (drop 1 word)) ≡ atom_read names word
  unfolding atom_read
  atom-variable [] f h = absurd (f refl)
  atom-variable (first ∷ others) f h = rw (eq-eqb first 118 h)

  pub atom-declared : (word : List ℕ) → (length word ≡ 0 → ⊥) → get_or word 0 0 ≡ 108 → declared_word_of (number_read names.declared (drop 1 word)) ≡ atom_read names word
  unfolding atom_read
  atom-declared [] f h = absurd (f refl)
  atom-declared (first ∷ others) f h = rw (ne_eqb first 118 (λ e. omega arith), eq-eqb first 108 h)

  pub atom-temporary : (word : List ℕ) → (length word ≡ 0 → ⊥) → get_or word 0 0 ≡ 116 → temporary_of (number_read names.temporaries (drop 1 word)) ≡ atom_read names word
  unfolding atom_read
  atom-temporary [] f h = absurd (f refl)
  atom-temporary (first ∷ others) f h = rw (ne_eqb first 118 (λ e. omega arith), ne_eqb first 108 (λ e. omega arith), eq-eqb first 116 h)

  pub atom-constant : (word : List ℕ) → (length word ≡ 0 → ⊥) → (get_or word 0 0 ≡ 118 → ⊥) → (get_or word 0 0 ≡ 108 → ⊥) → (get_or word 0 0 ≡ 116 → ⊥) → constant_of (number_of word) ≡ atom_read names word
  unfolding atom_read
  atom-constant [] f h d k = absurd (f refl)
  atom-constant (first ∷ others) f h d k = rw (ne_eqb first 118 h, ne_eqb first 108 d, ne_eqb first 116 k)

-- ---- operators

pub operator-one : (word : List ℕ) → length word ≡ 1 → operator_of_one (get_or word 0 0) ≡ operator_read word
unfolding operator_read
operator-one [] h = absurd (omega arith)
operator-one (first ∷ []) h = refl
operator-one (first ∷ (second ∷ others)) h = absurd (omega arith)

pub operator-other : (word : List ℕ) → (length word ≡ 1 → ⊥) → (length word ≡ 2 → ⊥) → None ≡ operator_read word
unfolding operator_read
operator-other [] f g = refl
operator-other (first ∷ []) f g = absurd (f refl)
operator-other (first ∷ (second ∷ [])) f g = absurd (g refl)
operator-other (first ∷ (second ∷ (third ∷ others))) f g = refl

pub operator-unended : (word : List ℕ) → length word ≡ 2 → (get_or word 1 0 ≡ 61 → ⊥) → None ≡ operator_read word
unfolding operator_read
operator-unended [] h f = absurd (omega arith)
operator-unended (first ∷ []) h f = absurd (omega arith)
operator-unended (first ∷ (second ∷ [])) h f = rw (ne_eqb second 61 f)
operator-unended (first ∷ (second ∷ (third ∷ others))) h f = absurd (omega arith)

pub operator-two : (word : List ℕ) → length word ≡ 2 → get_or word 1 0 ≡ 61 → operator_of_two (get_or word 0 0) ≡ operator_read word
unfolding operator_read
operator-two [] h f = absurd (omega arith)
operator-two (first ∷ []) h f = absurd (omega arith)
operator-two (first ∷ (second ∷ [])) h f = rw (eq-eqb second 61 f)
operator-two (first ∷ (second ∷ (third ∷ others))) h f = absurd (omega arith)
