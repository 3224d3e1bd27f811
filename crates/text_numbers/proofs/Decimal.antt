-- The walk over digits, up to a limit: what the digits passed leave of the value; and which fields are words.
use Rattle.std.specs.Prelude.{None, Option, Some, Result, Ok, Err}
use Rattle.std.specs.Result.{OkIff, result_ok}
use mir.Syntax.{w32}
use mir.Val.{SFits}
use mathlib.Core.Path.{◌≡◌, refl, sym, ap, ◌∙◌}
use mathlib.Core.Bool.{true, false, ◌&&◌}
use mathlib.Core.List.{List, [], ◌∷◌}
use Prim.Native.Nat.{ℕ, zero, suc, ◌+◌, ◌*◌, ◌-◌, ◌^◌, ◌≤◌, ◌<◌}
use native.Mathlib.Omega.{arith}
use native.Mathlib.Numerals.{add-one}
use lib.Dec.{leb, ltb, eqb}
use lib.IntN.{ℤ, pos, negsuc}
use lib.Signed.{mag}
use lib.ListN.{length, drop, get_or, drop_of_length-le}
use lib.Seq.{drop-cons}
use borrow.Author.Tests.{ltb-true, ltb-false, le-ltb, le-leb, lt-leb, lt-ltb, leb-true, leb-false, eq-eqb, eqb-true, ne_eqb}
use Rattle.words.specs.Word.{is_word}
use Rattle.words.specs.Laws.{by_cases}
use Rattle.text_numbers.specs.Number.{is_digit, decimal, natural_of, word, positive, negative, number_of}
use Rattle.text_numbers.specs.NumberLaws.{decimal_digit, decimal-other, word-is, natural-is}
use Rattle.text_numbers.specs.Reader.{at_most}

-- ---- the walk

at_most-over : (limit n : ℕ) → limit < n → at_most limit (Some n) ≡ None
unfolding at_most
at_most-over limit n h = rw (lt-leb n limit h)

pub at_most-within : (limit n : ℕ) → n ≤ limit → at_most limit (Some n) ≡ Some n
unfolding at_most
at_most-within limit n h = rw (le-leb n limit h)

pub at_most-none : (limit : ℕ) → at_most limit None ≡ None
unfolding at_most
at_most-none limit = refl

-- digits only make a value larger
decimal-over : (bytes : List ℕ) (limit value : ℕ) → limit < value → at_most limit (decimal value bytes) ≡ None
unfolding decimal
decimal-over [] limit value h = at_most-over limit value h
decimal-over (byte ∷ bytes) limit value h =
    by_cases (is_digit byte)
    (λ t. rw t (decimal-over bytes limit (10 * value + (byte - 48)) (omega arith)))
    (λ t. rw t (at_most-none limit))

-- the digits before byte i gave `value`, which is at most the limit
pub record Valued (limit : ℕ) (bytes : List ℕ) (value i : ℕ) : Type 0 where
  pub inside : i ≤ length bytes
  pub small : value ≤ limit
  pub same : decimal value (drop i bytes) ≡ decimal 0 bytes

pub valued-start : (limit : ℕ) (bytes : List ℕ) → Valued limit bytes 0 0
valued-start limit bytes = record { inside = omega arith; small = omega arith; same = refl }

module _ {limit : ℕ} {bytes : List ℕ} {value i : ℕ} (v : Valued limit bytes value i) where
  pub valued-end : length bytes ≤ i → Some value ≡ at_most limit (decimal 0 bytes)
  unfolding decimal
  valued-end h =
      let e : decimal value (drop i bytes) ≡ Some value = rw (drop_of_length-le bytes {i = i} h) in
      sym (ap (at_most limit) (sym v.same ∙ e) ∙ at_most-within limit value v.small)

  module _ (more : i < length bytes) where
    pub valued-stop : is_digit (get_or bytes i 0) ≡ false → None ≡ at_most limit (decimal 0 bytes)
    valued-stop t =
        let e : decimal value (drop i bytes) ≡ None = rw (drop-cons bytes i 0 more) (decimal-other value _ _ t) in
        sym (ap (at_most limit) (sym v.same ∙ e) ∙ at_most-none limit)

    module _ (t : is_digit (get_or bytes i 0) ≡ true) (digit : ℕ) (d : digit ≡ get_or bytes i 0 - 48) where
      next : decimal (10 * value + digit) (drop (i + 1) bytes) ≡ decimal 0 bytes
      next = rw d (sym (decimal_digit value (get_or bytes i 0) (drop (i + 1) bytes) t) ∙ rw (add-one i, ← drop-cons bytes i 0 more) v.same)

      pub valued-over : limit < 10 * value + digit → None ≡ at_most limit (decimal 0 bytes)
      valued-over h = sym (ap (at_most limit) (sym next) ∙ decimal-over (drop (i + 1) bytes) limit _ h)

      pub valued-next : 10 * value + digit ≤ limit → Valued limit bytes (10 * value + digit) (i + 1)
      valued-next h = record { inside = omega arith; small = h; same = next }

-- ---- what `is_empty` says

pub is-empty : (bytes : List ℕ) → true ≡ eqb (length bytes) 0 → length bytes ≡ 0
is-empty bytes h = eqb-true (length bytes) 0 (sym h)

pub is-filled : (bytes : List ℕ) → false ≡ eqb (length bytes) 0 → 0 < length bytes
is-filled [] h = absurd (let z : ◌≡◌ {A = ℕ} 0 1 = cc in omega arith)
is-filled (byte ∷ bytes) h = omega arith

-- ---- leading zeros

pub natural-none : (bytes : List ℕ) → length bytes ≡ 0 → natural_of bytes ≡ None
unfolding natural_of
natural-none [] h = refl
natural-none (byte ∷ bytes) h = absurd (omega arith)

natural-one : (bytes : List ℕ) → length bytes ≡ 1 → natural_of bytes ≡ decimal 0 bytes
unfolding natural_of
natural-one [] h = absurd (omega arith)
natural-one (byte ∷ []) h = refl
natural-one (byte ∷ (next ∷ bytes)) h = absurd (omega arith)

pub natural-zero : (bytes : List ℕ) → 1 < length bytes → get_or bytes 0 0 ≡ 48 → natural_of bytes ≡ None
unfolding natural_of
natural-zero [] h e = absurd (omega arith)
natural-zero (byte ∷ []) h e = absurd (omega arith)
natural-zero (byte ∷ (next ∷ bytes)) h e = rw (eq-eqb byte 48 e)

pub natural-digits : (bytes : List ℕ) → 0 < length bytes → (1 < length bytes → get_or bytes 0 0 ≡ 48 → ⊥) → natural_of bytes ≡ decimal 0 bytes
natural-digits bytes h f =
    by_cases (ltb 1 (length bytes))
    (λ t. natural-is bytes h (f (ltb-true 1 (length bytes) t)))
    (λ t. natural-one bytes (omega (arith, ltb-false 1 (length bytes) t)))

-- the same, told by the test of the first byte
pub natural-led : (bytes : List ℕ) → true ≡ (ltb 1 (length bytes) && eqb (get_or bytes 0 0) 48) → natural_of bytes ≡ None
natural-led bytes h =
    by_cases (ltb 1 (length bytes))
    (λ t. natural-zero bytes (ltb-true 1 (length bytes) t) (eqb-true (get_or bytes 0 0) 48 (sym (rw t at h))))
    (λ t. let e : true ≡ false = rw t at h in absurd (let z : ◌≡◌ {A = ℕ} 0 1 = cc in omega arith))

pub natural-free : (bytes : List ℕ) → 0 < length bytes → false ≡ (ltb 1 (length bytes) && eqb (get_or bytes 0 0) 48) → natural_of bytes ≡ decimal 0 bytes
natural-free bytes f h = natural-digits bytes f (λ l e. let q : false ≡ true = rw (lt-ltb 1 (length bytes) l, eq-eqb (get_or bytes 0 0) 48 e) at h in absurd (let z : ◌≡◌ {A = ℕ} 0 1 = cc in omega arith))

-- ---- words

word-not : (z : ℤ) → 2 ^ 31 ≤ mag z → word z ≡ None
unfolding word is_word
word-not z h = rw (le-ltb (mag z) (2 ^ 31) h)

pub positive-none : positive None ≡ None
unfolding positive
positive-none = refl

pub positive-over : (n : ℕ) → 2147483647 < n → positive (Some n) ≡ None
unfolding positive
positive-over n h = word-not (pos n) (omega arith)

pub positive-is : (n : ℕ) → n ≤ 2147483647 → positive (Some n) ≡ Some (pos n)
unfolding positive
positive-is n h = word-is (pos n) (omega arith)

pub negative-none : negative None ≡ None
unfolding negative
negative-none = refl

pub negative-zero : (n : ℕ) → n ≡ 0 → negative (Some n) ≡ None
unfolding negative
negative-zero n h = rw h

pub negative-over : (n : ℕ) → 2147483648 < n → negative (Some n) ≡ None
unfolding negative
negative-over zero h = refl
negative-over (suc n) h = word-not (negsuc n) (omega arith)

pub negative-is : (n : ℕ) → 0 < n → n ≤ 2147483648 → negative (Some n) ≡ Some (negsuc (n - 1))
unfolding negative
negative-is zero h l = absurd (omega arith)
negative-is (suc n) h l = let e : suc n - 1 ≡ n = omega arith in rw e (word-is (negsuc n) (omega arith))

-- what a conversion to 32 signed bits gives
pub positive-tried : {E : Type 0} (n : ℕ) (r : Result ℤ E) → OkIff r (SFits w32 (pos n)) (pos n) → result_ok r ≡ positive (Some n)
positive-tried n (Ok z) (f, e) = ap Some e ∙ sym (positive-is n (omega (arith, f.sfits)))
positive-tried n (Err e) f = sym (positive-over n (over 2147483647 (λ l. f (record { sfits = omega arith }))))
  where
    over : (m : ℕ) → (n ≤ m → ⊥) → m < n
    over m g = by_cases (leb n m) (λ t. absurd (g (leb-true n m t))) (λ t. leb-false n m t)

pub negative-tried : {E : Type 0} (n : ℕ) (y : ℤ) (r : Result ℤ E) → 0 < n → y ≡ negsuc (n - 1) → OkIff r (SFits w32 y) y → result_ok r ≡ negative (Some n)
negative-tried n y (Ok z) h s (f, e) = ap Some (e ∙ s) ∙ sym (negative-is n h (let m : mag y ≡ n - 1 = ap mag s in omega (arith, f.sfits)))
negative-tried n y (Err e) h s f = sym (negative-over n (over 2147483648 (λ l. f (rw s (record { sfits = omega arith })))))
  where
    over : (m : ℕ) → (n ≤ m → ⊥) → m < n
    over m g = by_cases (leb n m) (λ t. absurd (g (leb-true n m t))) (λ t. leb-false n m t)

-- a value above the limit is no word of either sign
pub positive-within : (value : Option ℕ) → positive (at_most 2147483648 value) ≡ positive value
positive-within None = ap positive (at_most-none 2147483648)
positive-within (Some n) =
    by_cases (leb n 2147483648)
    (λ t. ap positive (at_most-within 2147483648 n (leb-true _ _ t)))
    (λ t. ap positive (at_most-over 2147483648 n (leb-false _ _ t)) ∙ positive-none ∙ sym (positive-over n (omega (arith, leb-false n 2147483648 t))))

pub negative-within : (value : Option ℕ) → negative (at_most 2147483648 value) ≡ negative value
negative-within None = ap negative (at_most-none 2147483648)
negative-within (Some n) =
    by_cases (leb n 2147483648)
    (λ t. ap negative (at_most-within 2147483648 n (leb-true _ _ t)))
    (λ t. ap negative (at_most-over 2147483648 n (leb-false _ _ t)) ∙ negative-none ∙ sym (negative-over n (leb-false _ _ t)))

-- ---- fields

number-none : (bytes : List ℕ) → length bytes ≡ 0 → number_of bytes ≡ None
unfolding number_of
number-none [] h = refl
number-none (byte ∷ bytes) h = absurd (omega arith)

pub number-minus : (bytes : List ℕ) → 0 < length bytes → get_or bytes 0 0 ≡ 45 → number_of bytes ≡ negative (natural_of (drop 1 bytes))
unfolding number_of
number-minus [] h e = absurd (omega arith)
number-minus (byte ∷ bytes) h e = rw (eq-eqb byte 45 e)

pub number-plain : (bytes : List ℕ) → (get_or bytes 0 0 ≡ 45 → ⊥) → number_of bytes ≡ positive (natural_of bytes)
unfolding number_of natural_of
number-plain [] f = sym positive-none
number-plain (byte ∷ bytes) f = rw (ne_eqb byte 45 f)

pub number-empty : (bytes : List ℕ) → length bytes ≡ 0 → number_of bytes ≡ positive (natural_of bytes)
number-empty bytes h = number-none bytes h ∙ sym (ap positive (natural-none bytes h) ∙ positive-none)
