-- Laws: what an operation on words gives is a word, and where the bounds test lets an element through.
use Rattle.std.proofs.Math.Path.{◌≡◌, refl}
use Rattle.std.proofs.Common.{sym, arith, ltb-true, lt-ltb, le-ltb}
use Rattle.std.specs.Prelude.{Bool, not, ℕ, ◌+◌, ◌^◌, ◌≤◌, ◌<◌, ℤ, neg_ℤ, Err, Ok, Result}
use Rattle.words.specs.declared.FaultSort.{FaultSort}
use Rattle.std.proofs.Math.Bool.{true, false}
use Rattle.std.proofs.Math.Dec.{ltb}
use Rattle.std.specs.Int.Signed.{mag, quot_z, rem_z, mag_rem}
use Rattle.words.specs.Word.{is_word, natural, pick}
use Rattle.words.specs.declared.FaultSort.TheVariants.{Overflow, ZeroDivisor, Index}
use Rattle.words.specs.declared.Operator.TheVariants.{Add, Subtract, Multiply, Divide, Remainder, Less, Greater, LessOrEqual, GreaterOrEqual, Equal, NotEqual}
use Rattle.words.specs.declared.Operator.{Operator}
use Rattle.arithmetic.specs.Arithmetic.{in_word, is_true, bit, truth, logical_not, minus, dividing, remainder_by, apply, element}

-- ---- results of operations are words

pub in_word-fits : (z : ℤ) → mag z < 2 ^ 31 → in_word z ≡ Ok z
unfolding in_word is_word
in_word-fits z h = rw (lt-ltb _ _ h)

pub in_word-overflows : (z : ℤ) → 2 ^ 31 ≤ mag z → in_word z ≡ Err Overflow
unfolding in_word is_word
in_word-overflows z h = rw (le-ltb _ _ h)

-- what an operation gives is a word
module _ (z v : ℤ) where
  in_word-word : in_word z ≡ Ok v → mag v < 2 ^ 31
  unfolding in_word is_word
  in_word-word e = go (ltb (mag z) (2 ^ 31)) refl e
    where
      go : (b : Bool) → ltb (mag z) (2 ^ 31) ≡ b → pick b (Ok z) (Err Overflow) ≡ Ok v → mag v < 2 ^ 31
      go true t e = let same : z ≡ v = cc in rw (← same) (ltb-true _ _ t)
      go false t e = absurd (let w : ◌≡◌ {A = ℕ} 0 1 = cc in omega arith)

pub bit_word : (b : Bool) → mag (bit b) < 2 ^ 31
unfolding bit
bit_word true = omega arith
bit_word false = omega arith

pub truth-word : (v : ℤ) → mag (truth v) < 2 ^ 31
unfolding truth
truth-word v = bit_word (is_true v)

pub logical_not-word : (v : ℤ) → mag (logical_not v) < 2 ^ 31
unfolding logical_not
logical_not-word v = bit_word (not (is_true v))

pub minus-word : (v z : ℤ) → minus v ≡ Ok z → mag z < 2 ^ 31
unfolding minus
minus-word v z e = in_word-word (neg_ℤ v) z e

divided : (divisor : ℤ) (quotient : Result ℤ FaultSort) (z : ℤ) → dividing divisor quotient ≡ Ok z → quotient ≡ Ok z
unfolding dividing
divided divisor quotient z e = go (is_true divisor) e
  where
    go : (b : Bool) → pick b quotient (Err ZeroDivisor) ≡ Ok z → quotient ≡ Ok z
    go true e = e
    go false e = absurd (let w : ◌≡◌ {A = ℕ} 0 1 = cc in omega arith)

-- a remainder that is a value is the remainder
remained : (left right z : ℤ) → remainder_by left right ≡ Ok z → ◌≡◌ {A = Result ℤ FaultSort} (Ok (rem_z left right)) (Ok z)
unfolding remainder_by
remained left right z e = go (is_word (quot_z left right)) e
  where
    go : (b : Bool) → pick b (Ok (rem_z left right)) (Err Overflow) ≡ Ok z → ◌≡◌ {A = Result ℤ FaultSort} (Ok (rem_z left right)) (Ok z)
    go true e = e
    go false e = absurd (let w : ◌≡◌ {A = ℕ} 0 1 = cc in omega arith)

same-value : (w z : ℤ) → mag w < 2 ^ 31 → ◌≡◌ {A = Result ℤ FaultSort} (Ok w) (Ok z) → mag z < 2 ^ 31
same-value w z h e = let same : w ≡ z = cc in rw (← same) h

pub apply-word : (operator : Operator) (left right z : ℤ) → mag left < 2 ^ 31 → apply operator left right ≡ Ok z → mag z < 2 ^ 31
unfolding apply
apply-word Add left right z h e = in_word-word _ z e
apply-word Subtract left right z h e = in_word-word _ z e
apply-word Multiply left right z h e = in_word-word _ z e
apply-word Divide left right z h e = in_word-word _ z (divided right _ z e)
apply-word Remainder left right z h e = same-value (rem_z left right) z (omega (arith, mag_rem left right)) (remained left right z (divided right _ z e))
apply-word Less left right z h e = same-value _ z (bit_word _) e
apply-word Greater left right z h e = same-value _ z (bit_word _) e
apply-word LessOrEqual left right z h e = same-value _ z (bit_word _) e
apply-word GreaterOrEqual left right z h e = same-value _ z (bit_word _) e
apply-word Equal left right z h e = same-value _ z (bit_word _) e
apply-word NotEqual left right z h e = same-value _ z (bit_word _) e

-- ---- the bounds test

-- the position of an element that the bounds test lets through
pub record Inside (base length : ℕ) (index : ℤ) (position : ℕ) : Type 0 where
  pub index_below : natural index < length
  pub position_is : position ≡ base + natural index
  pub least : base ≤ position
  pub most : position < base + length

pub element-inside : (base length : ℕ) (index : ℤ) (position : ℕ) → element base length index ≡ Ok position → Inside base length index position
unfolding element
element-inside base length index position e = go (ltb (natural index) length) refl e
  where
    go : (b : Bool) → ltb (natural index) length ≡ b → pick b (Ok (base + natural index)) (Err Index) ≡ Ok position → Inside base length index position
    go true t e =
        let below = ltb-true _ _ t in
        let same : base + natural index ≡ position = cc in
        record { index_below = below; position_is = sym same; least = omega arith; most = omega arith }
    go false t e = absurd (let w : ◌≡◌ {A = ℕ} 0 1 = cc in omega arith)
