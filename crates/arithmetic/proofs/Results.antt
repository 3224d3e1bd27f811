-- Results of operations as the code computes them: 64-bit results, quotients, remainders and comparisons. Assumes nothing.
use Rattle.std.specs.Prelude.{Err, Ok, Result}
use Rattle.words.specs.declared.FaultSort.{FaultSort}
use mathlib.Core.Path.{◌≡◌, refl, sym, ap, ap₂, ◌∙◌}
use mathlib.Core.Bool.{Bool, true, false, not, cond, false≢true}
use Prim.Native.Nat.{ℕ, zero, suc, ◌+◌, ◌-◌, ◌*◌, ◌^◌, ◌/◌, ◌<◌, ◌≤◌}
use native.Mathlib.Nat.{div-le_self, div-lt_self, mul-le-mul}
use native.Mathlib.Omega.{arith}
use lib.Dec.{ltb, eqb, eqb-suc-zero}
use lib.IntN.{ℤ, pos, negsuc, neg_ℤ, ◌+ℤ◌, ◌-ℤ◌, ◌*ℤ◌, +ℤ_idl}
use lib.Signed.{mag, lt_z, quot_z, rem_z, mag_rem}
use mir.Syntax.{w32, w64}
use mir.Val.{SFits, to_z, of_z}
use mir.Facts.{to_z-of_z, sfits_widen}
use borrow.Author.Tests.{lt-ltb, ltb-true, eqb-true, eq-eqb, ne_eqb, not-true, not-false}
use Rattle.words.specs.Word.{is_word, same_word}
use Rattle.arithmetic.specs.Arithmetic.{in_word, is_true, bit, minus, dividing, remainder_by, apply}
use Rattle.words.specs.Laws.{same_word-bits, below-least-word, above-greatest-word, between-words}
use Rattle.arithmetic.proofs.Laws.{in_word-fits, in_word-overflows}
use Rattle.words.specs.declared.FaultSort.TheVariants.{Overflow, ZeroDivisor}
use Rattle.words.specs.declared.Operator.TheVariants.{Divide, Remainder}
use Rattle.words.specs.declared.Operator.{Operator}
use Rattle.words.proofs.Signed.{again, of-bits}

-- ---- sums, differences and products at 64 bits

-- a word that was cast to 64 bits
abbrev wide : ℤ → ℤ
wide z = to_z w64 (of_z w64 (again z))

cond-mag : (t : Bool) (m n k : ℕ) → m ≤ k → n ≤ k → mag (cond t (negsuc m) (pos n)) ≤ k
cond-mag true m n k h g = h
cond-mag false m n k h g = g

mag_sum : (x y : ℤ) → mag (x +ℤ y) ≤ mag x + mag y + 1
mag_sum (pos a) (pos b) = omega arith
mag_sum (pos a) (negsuc b) = cond-mag (ltb a (suc b)) (suc b - suc a) (a - suc b) (a + b + 1) (omega arith) (omega arith)
mag_sum (negsuc a) (pos b) = cond-mag (ltb b (suc a)) (suc a - suc b) (b - suc a) (a + b + 1) (omega arith) (omega arith)
mag_sum (negsuc a) (negsuc b) = omega arith

mag-neg : (z : ℤ) → mag (neg_ℤ z) ≤ suc (mag z)
mag-neg (pos zero) = omega arith
mag-neg (pos (suc n)) = omega arith
mag-neg (negsuc n) = omega arith

mag-neg-pos : (r a : ℕ) → r ≤ suc a → mag (neg_ℤ (pos r)) ≤ a
mag-neg-pos zero a h = omega arith
mag-neg-pos (suc r) a h = omega arith

mag-product : (x y : ℤ) → mag (x *ℤ y) ≤ suc (mag x) * suc (mag y)
mag-product (pos a) (pos b) = omega arith
mag-product (pos a) (negsuc b) = omega (arith, mag-neg-pos (a * suc b) (a * suc b) (omega arith))
mag-product (negsuc a) (pos b) = omega (arith, mag-neg-pos (suc a * b) (suc a * b) (omega arith))
mag-product (negsuc a) (negsuc b) = omega arith

-- an operation on words whose results 64 bits hold
abbrev pub Holds64 : (ℤ → ℤ → ℤ) → Type 0
Holds64 operation = (x y : ℤ) → SFits w32 x → SFits w32 y → SFits w64 (operation x y)

pub sum_64 : Holds64 ◌+ℤ◌
sum_64 x y h k = record { sfits = omega (arith, mag_sum x y, h.sfits, k.sfits) }

pub difference-64 : Holds64 ◌-ℤ◌
difference-64 x y h k = record { sfits = omega (arith, mag_sum x (neg_ℤ y), mag-neg y, h.sfits, k.sfits) }

pub product-64 : Holds64 ◌*ℤ◌
product-64 x y h k = record { sfits = omega (arith, mag-product x y, mul-le-mul h.sfits k.sfits) }

pub wide_fits : {x : ℤ} → SFits w32 x → SFits w64 (again x)
wide_fits {x} h = rw (to_z-of_z {z = x} h) (sfits_widen {w = w32} tt h)

wide_is : (x : ℤ) → SFits w32 x → wide x ≡ x
wide_is x h = ap (λ (z : ℤ). to_z w64 (of_z w64 z)) (to_z-of_z {z = x} h) ∙ to_z-of_z {w = w64} (sfits_widen {w = w32} tt h)

module _ (operation : ℤ → ℤ → ℤ) (holds : Holds64 operation) {x y : ℤ} (h : SFits w32 x) (k : SFits w32 y) where
  pub operation-fits : SFits w64 (operation (wide x) (wide y))
  operation-fits = rw (wide_is x h, wide_is y k) (holds x y h k)

  pub operation_is : to_z w64 (of_z w64 (operation (wide x) (wide y))) ≡ operation x y
  operation_is = to_z-of_z operation-fits ∙ ap₂ operation (wide_is x h) (wide_is y k)

-- ---- narrow: a 64-bit result, if it is a word

module _ {z : ℤ} (h : SFits w64 z) where
  pub narrow_below : lt_z (to_z w64 (of_z w64 z)) (negsuc 2147483647) ≡ true → Err Overflow ≡ in_word z
  narrow_below e = sym (in_word-overflows z (below-least-word z (rw (to_z-of_z {z = z} h) at e)))

  pub narrow-above : lt_z (pos 2147483647) (to_z w64 (of_z w64 z)) ≡ true → Err Overflow ≡ in_word z
  narrow-above e = sym (in_word-overflows z (above-greatest-word z (rw (to_z-of_z {z = z} h) at e)))

  module _ (e : lt_z (to_z w64 (of_z w64 z)) (negsuc 2147483647) ≡ false) (g : lt_z (pos 2147483647) (to_z w64 (of_z w64 z)) ≡ false) where
    pub narrow-fits : SFits w32 (to_z w64 (of_z w64 z))
    narrow-fits = record { sfits = between-words (to_z w64 (of_z w64 z)) e g }

    pub narrow-is : Ok (again (to_z w64 (of_z w64 z))) ≡ in_word z
    narrow-is =
        let same = to_z-of_z {z = z} h in
        ap Ok (to_z-of_z narrow-fits ∙ same) ∙ sym (in_word-fits z (rw same at narrow-fits.sfits))

-- ---- truth

not-zero : (z : ℤ) → not (same_word z (pos 0)) ≡ is_true z
unfolding same_word is_true
not-zero (pos zero) = refl
not-zero (pos (suc n)) = rw eqb-suc-zero
not-zero (negsuc n) = refl

pub true-bits : {z : ℤ} → SFits w32 z → not (eqb (of_z w32 z) 0) ≡ is_true z
true-bits {z} h = ap not (same_word-bits z (pos 0) h.sfits (omega arith)) ∙ not-zero z

-- what a test gives, handed on
pub bit-again : (b : Bool) {z : ℤ} → z ≡ bit b → again z ≡ bit b
unfolding bit
bit-again true e = ap again e
bit-again false e = ap again e

-- ---- minus

pub minus-least : {z : ℤ} → SFits w32 z → of_z w32 z ≡ 2147483648 → Err Overflow ≡ minus z
unfolding minus
minus-least {z} h e = rw (of-bits z 2147483648 h e) (sym (in_word-overflows (pos 2147483648) (omega arith)))

negation-word : (z : ℤ) → mag z < 2 ^ 31 → (z ≡ negsuc 2147483647 → ⊥) → mag (neg_ℤ z) < 2 ^ 31
negation-word (pos zero) h q = omega arith
negation-word (pos (suc n)) h q = omega arith
negation-word (negsuc n) h q = let w : (n ≡ 2147483647 → ⊥) = λ e. q (ap negsuc e) in omega arith

module _ {z : ℤ} (h : SFits w32 z) (ne : of_z w32 z ≡ 2147483648 → ⊥) where
  negated : mag (neg_ℤ z) < 2 ^ 31
  negated = negation-word z h.sfits (λ e. ne (ap (of_z w32) e))

  negation : pos 0 -ℤ again z ≡ neg_ℤ z
  negation = rw (to_z-of_z {z = z} h) (+ℤ_idl (neg_ℤ z))

  pub minus-fits : SFits w32 (pos 0 -ℤ again z)
  minus-fits = rw negation (record { sfits = negated })

  pub minus_is : Ok (again (pos 0 -ℤ again z)) ≡ minus z
  unfolding minus
  minus_is = ap Ok (to_z-of_z minus-fits ∙ negation) ∙ sym (in_word-fits (neg_ℤ z) negated)

-- ---- quotients and remainders

quotient-word : (x y : ℤ) → mag x < 2 ^ 31 → (x ≡ negsuc 2147483647 → y ≡ negsuc 0 → ⊥) → mag (quot_z x y) < 2 ^ 31
quotient-word (pos a) (pos b) h m = omega (arith, div-le_self a b)
quotient-word (pos a) (negsuc b) h m = omega (arith, mag-neg-pos (a / suc b) a (omega (arith, div-le_self a (suc b))))
quotient-word (negsuc a) (pos b) h m = omega (arith, mag-neg-pos (suc a / b) a (div-le_self (suc a) b))
quotient-word (negsuc a) (negsuc zero) h m =
    let q : (a ≡ 2147483647 → ⊥) = λ e. m (ap negsuc e) refl in
    omega (arith, div-le_self (suc a) 1)
quotient-word (negsuc a) (negsuc (suc b)) h m = omega (arith, div-lt_self {n = suc a} {k = suc (suc b)} (omega arith) (omega arith))

zero-divisor : {y : ℤ} (q : Result ℤ FaultSort) → SFits w32 y → of_z w32 y ≡ 0 → Err ZeroDivisor ≡ dividing y q
unfolding dividing
zero-divisor {y} q h e = rw (← true-bits h, eq-eqb _ _ e)

divisor : {y : ℤ} (q : Result ℤ FaultSort) → SFits w32 y → (of_z w32 y ≡ 0 → ⊥) → dividing y q ≡ q
unfolding dividing
divisor q h n = rw (← true-bits h, ne_eqb _ _ n)

module _ {x y : ℤ} (h : SFits w32 x) (k : SFits w32 y) where
  quotient-is-word : (of_z w32 x ≡ 2147483648 → of_z w32 y ≡ 4294967295 → ⊥) → false ≡ not (is_word (quot_z x y))
  unfolding is_word
  quotient-is-word m = rw (lt-ltb (mag (quot_z x y)) (2 ^ 31) (quotient-word x y h.sfits (λ e g. m (ap (of_z w32) e) (ap (of_z w32) g))))

  -- the test of the quotient: where the left operand is the least word, and where it is not
  pub overflows-by-minus-one : of_z w32 x ≡ 2147483648 → eqb (of_z w32 y) 4294967295 ≡ not (is_word (quot_z x y))
  unfolding is_word
  overflows-by-minus-one e = go (eqb (of_z w32 y) 4294967295) refl
    where
      go : (t : Bool) → eqb (of_z w32 y) 4294967295 ≡ t → t ≡ not (is_word (quot_z x y))
      go true t = rw (of-bits x 2147483648 h e, of-bits y 4294967295 k (eqb-true (of_z w32 y) 4294967295 t))
      go false t = quotient-is-word (λ _ g. false≢true (sym t ∙ eq-eqb (of_z w32 y) 4294967295 g))

  pub overflows-not : (of_z w32 x ≡ 2147483648 → ⊥) → false ≡ not (is_word (quot_z x y))
  overflows-not n = quotient-is-word (λ e _. n e)

  -- what the test told, of operands handed on to it
  pub quotient-told : {result test : Bool} → result ≡ not (is_word (quot_z (again x) (again y))) → result ≡ test → not (is_word (quot_z x y)) ≡ test
  quotient-told e t = rw (to_z-of_z {z = x} h, to_z-of_z {z = y} k) at (sym e ∙ t)

  pub divide-zero : of_z w32 y ≡ 0 → Err ZeroDivisor ≡ apply Divide x y
  unfolding apply
  divide-zero = zero-divisor _ k

  pub remainder-zero : of_z w32 y ≡ 0 → Err ZeroDivisor ≡ apply Remainder x y
  unfolding apply
  remainder-zero = zero-divisor _ k

  module _ (n : of_z w32 y ≡ 0 → ⊥) where
    pub divide-overflows : not (is_word (quot_z x y)) ≡ true → Err Overflow ≡ apply Divide x y
    unfolding apply in_word
    divide-overflows t = rw (divisor (in_word (quot_z x y)) k n, not-true (is_word (quot_z x y)) t)

    pub remainder-overflows : not (is_word (quot_z x y)) ≡ true → Err Overflow ≡ apply Remainder x y
    unfolding apply remainder_by
    remainder-overflows t = rw (divisor (remainder_by x y) k n, not-true (is_word (quot_z x y)) t)

    module _ (t : not (is_word (quot_z x y)) ≡ false) where
      quotient_fits : SFits w32 (quot_z x y)
      unfolding is_word
      quotient_fits = record { sfits = ltb-true (mag (quot_z x y)) (2 ^ 31) (not-false _ t) }

      -- what the code asks at a quotient and at a remainder
      pub divide-fits : (0 < of_z w32 y) × SFits w32 (quot_z (again x) (again y))
      divide-fits = (omega arith, rw (to_z-of_z {z = x} h, to_z-of_z {z = y} k) quotient_fits)

      pub divide_is : Ok (again (quot_z (again x) (again y))) ≡ apply Divide x y
      unfolding apply
      divide_is =
          rw (to_z-of_z {z = x} h, to_z-of_z {z = y} k)
          (ap Ok (to_z-of_z quotient_fits) ∙ sym (in_word-fits (quot_z x y) quotient_fits.sfits) ∙ sym (divisor _ k n))

      pub remainder_is : Ok (again (rem_z (again x) (again y))) ≡ apply Remainder x y
      unfolding apply remainder_by
      remainder_is =
          rw (to_z-of_z {z = x} h, to_z-of_z {z = y} k, not-false (is_word (quot_z x y)) t)
          (ap Ok (to_z-of_z {w = w32} (record { sfits = omega (arith, mag_rem x y, h.sfits) })) ∙ sym (divisor _ k n))

-- ---- every operator, on words handed on to the function for it

module _ {x y : ℤ} (h : SFits w32 x) (k : SFits w32 y) where
  pub handed-on : {operator o : Operator} → operator ≡ o → apply o (again x) (again y) ≡ apply operator x y
  handed-on {o} e = ap₂ (apply o) (to_z-of_z {z = x} h) (to_z-of_z {z = y} k) ∙ ap (λ (p : Operator). apply p x y) (sym e)

  -- a comparison, with the test that the code makes
  pub compared : {operator o : Operator} (test : Bool) {r : ℤ} → operator ≡ o → r ≡ bit test → Ok (bit test) ≡ apply o (again x) (again y) → Ok (again r) ≡ apply operator x y
  compared test e g t = ap Ok (bit-again test g) ∙ t ∙ handed-on e

  pub equal-bits : eqb (of_z w32 x) (of_z w32 y) ≡ same_word (again x) (again y)
  equal-bits = rw (to_z-of_z {z = x} h, to_z-of_z {z = y} k) (same_word-bits x y h.sfits k.sfits)
