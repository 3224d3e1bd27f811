-- Laws of the words of calls and definitions: what a word does not end in, and what it begins with.
use Rattle.std.specs.Prelude.{◌≡◌, refl, List, [], ◌∷◌, ◌++◌, ℕ, ◌≤◌, ℤ, length, None}
use Rattle.std.proofs.Common.{ap, arith, ne_eqb}
use Rattle.text_numbers.specs.Number.{digits, number_bytes, is_digit, decimal, natural_of, positive, number_of}
use Rattle.page.specs.declared.Sizes.{Sizes}
use Rattle.page.specs.Page.{ended_by, function_word, opened_word, called_word, name}
use Rattle.page.specs.Reading.{without}
use Rattle.page.proofs.WordLaws.{Between, number-between, each-name, IsWord, digits-word, number_word, led-word, ended-word}

-- ---- words

pub function-word : (f : ℕ) → IsWord (function_word f)
function-word f = led-word 102 (digits f) (omega arith) (digits-word f)

pub opened-word : (f : ℕ) → IsWord (opened_word f)
opened-word f = ended-word 40 (function_word f) (omega arith) (function-word f)

pub called-word : (f : ℕ) → IsWord (called_word f)
called-word f = ended-word 41 (opened_word f) (omega arith) (opened-word f)

-- ---- ends

pub without_other : (last byte : ℕ) (bytes : List ℕ) → (byte ≡ last → ⊥) → without last (ended_by byte bytes) ≡ None
unfolding without
without_other last byte [] f = rw (ne_eqb byte last f)
without_other last byte (x ∷ []) f = rw (ne_eqb byte last f)
without_other last byte (x ∷ (y ∷ bytes)) f = rw (without_other last byte (y ∷ bytes) f)

-- ---- first bytes

-- No number begins with f.
pub no_number : (bytes : List ℕ) → number_of (102 ∷ bytes) ≡ None
unfolding number_of natural_of decimal is_digit positive
no_number [] = refl
no_number (x ∷ bytes) = refl

-- A word that begins with none of `;`, `=`, `a`, `{` and `}`.
pub record Begins (word : List ℕ) : Type 0 where
  pub first : ℕ
  pub rest : List ℕ
  pub is : word ≡ first ∷ rest
  pub no_semicolon : first ≡ 59 → ⊥
  pub no_equals : first ≡ 61 → ⊥
  pub no_a : first ≡ 97 → ⊥
  pub no_opening : first ≡ 123 → ⊥
  pub no_closing : first ≡ 125 → ⊥

begins-with : (byte : ℕ) (bytes : List ℕ) → (byte ≡ 59 → ⊥) → (byte ≡ 61 → ⊥) → (byte ≡ 97 → ⊥) → (byte ≡ 123 → ⊥) → (byte ≡ 125 → ⊥) → Begins (byte ∷ bytes)
begins-with byte bytes a b c d e = record { first = byte; rest = bytes; is = refl; no_semicolon = a; no_equals = b; no_a = c; no_opening = d; no_closing = e }

pub begins-ended : (byte : ℕ) (word : List ℕ) → Begins word → Begins (ended_by byte word)
begins-ended byte word b = record {
  first = b.first;
  rest = b.rest ++ (byte ∷ []);
  is = ap (ended_by byte) b.is;
  no_semicolon = b.no_semicolon;
  no_equals = b.no_equals;
  no_a = b.no_a;
  no_opening = b.no_opening;
  no_closing = b.no_closing;
}

pub number-begins : (z : ℤ) → Begins (number_bytes z)
unfolding Between
number-begins z = go (number_bytes z) (number_word z).some_byte (number-between z)
  where
    go : (bytes : List ℕ) → 1 ≤ length bytes → Between 45 57 bytes → Begins bytes
    go [] h b = absurd (omega arith)
    go (byte ∷ bytes) h b =
        let most : byte ≤ 57 = b.1 in
        begins-with byte bytes (λ e. omega arith) (λ e. omega arith) (λ e. omega arith) (λ e. omega arith) (λ e. omega arith)

pub name-begins : (sizes : Sizes) (i : ℕ) → Begins (name sizes i)
name-begins sizes i =
    each-name Begins sizes i
    (λ h. begins-with 118 _ (λ e. omega arith) (λ e. omega arith) (λ e. omega arith) (λ e. omega arith) (λ e. omega arith))
    (λ h. begins-with 108 _ (λ e. omega arith) (λ e. omega arith) (λ e. omega arith) (λ e. omega arith) (λ e. omega arith))
    (λ h. begins-with 116 _ (λ e. omega arith) (λ e. omega arith) (λ e. omega arith) (λ e. omega arith) (λ e. omega arith))
