-- Decoding: answers as the code handles them: words cast to 64 bits, numbers handed on, stops.
use Rattle.std.specs.Prelude.{Err, None, Ok, Option, Result, Some, ok_or}
use mathlib.Core.Path.{◌≡◌, refl, sym, ap, ap₂, ◌∙◌}
use mathlib.Core.Bool.{Bool, true, false, true≢false}
use mathlib.Core.List.{List}
use Prim.Native.Nat.{ℕ, ◌+◌, ◌-◌, ◌^◌, ◌≤◌, ◌<◌}
use native.Mathlib.Omega.{arith}
use lib.Dec.{T}
use lib.IntN.{ℤ, pos, negsuc, nat_abs, ◌+ℤ◌}
use lib.Signed.{mag, lt_z, non_neg}
use mir.Syntax.{w32, w64}
use mir.Val.{SFits, Fits, to_z, of_z}
use mir.Facts.{to_z-of_z}
use borrow.Author.Tests.{ltb-true, ltb-false, lt-ltb, le-ltb, ne_eqb}
use Rattle.words.specs.Word.{is_word, natural, pick}
use lib.ListN.{get_or, set}
use Rattle.arithmetic.specs.Arithmetic.{apply, element}
use Rattle.words.specs.declared.Operator.{Operator}
use Rattle.language.specs.Meaning.{update, old_value, new_value}
use Rattle.words.specs.Answers.{fault_number}
use Rattle.words.specs.Laws.{back, below-least-word, above-greatest-word, between-words}
use Rattle.arithmetic.proofs.Laws.{element-inside}
use Rattle.words.specs.declared.FaultSort.{FaultSort}
use Rattle.words.specs.declared.FaultSort.TheVariants.{Index}
use Rattle.words.specs.AnswerLaws.{faults-apart}
use Rattle.computation.specs.Computation.{settle}
use Rattle.computation.specs.Run.{Stop, spent, fault}
use Rattle.computation.specs.Remaining.{gives, halts, spend, onward}
use Rattle.machine_operations.specs.Answers.{stop_number, beyond, stop_of, is_return, operand_of, answered, placed, Settles, Places}

-- a word that was cast to 64 bits, and an answer that was handed on
abbrev pub wide : ℤ → ℤ
wide z = to_z w64 (of_z w64 (to_z w32 (of_z w32 z)))

abbrev pub handed : ℤ → ℤ
handed z = to_z w64 (of_z w64 z)

pub handed-is : (z : ℤ) → mag z < 2 ^ 63 → handed z ≡ z
handed-is z h = to_z-of_z {w = w64} (record { sfits = h })

pub wide_fits : (z : ℤ) → mag z < 2 ^ 31 → SFits w64 (to_z w32 (of_z w32 z))
wide_fits z h = rw (back z h) (record { sfits = omega arith })

pub wide_is : (z : ℤ) → mag z < 2 ^ 31 → wide z ≡ z
wide_is z h = ap (λ (x : ℤ). to_z w64 (of_z w64 x)) (back z h) ∙ handed-is z (omega arith)

-- ---- decoding

pub operand-word : (z : ℤ) → mag z < 2 ^ 31 → operand_of z ≡ Some z
unfolding operand_of is_word
operand-word z h = rw (lt-ltb _ _ h)

pub operand-other : (z : ℤ) → 2 ^ 31 ≤ mag z → is_return z ≡ false → operand_of z ≡ None
unfolding operand_of is_word
operand-other z h e = rw (le-ltb _ _ h, e)

pub operand-return : (z : ℤ) → 2 ^ 31 ≤ mag z → is_return z ≡ true → operand_of z ≡ Some (pos 0)
unfolding operand_of is_word
operand-return z h e = rw (le-ltb _ _ h, e)

-- a number below the least return's, or a negative one, is none
pub no-return-below : (n : ℕ) → n < 6442450944 → is_return (pos n) ≡ false
unfolding is_return
no-return-below n h = rw (lt-ltb _ _ h)

pub word-no-return : (z : ℤ) → mag z < 2 ^ 31 → is_return z ≡ false
unfolding is_return
word-no-return (pos n) h = no-return-below n (omega arith)
word-no-return (negsuc n) h = refl

pub no-return-negative : (z : ℤ) → lt_z z (negsuc 2147483647) ≡ true → is_return z ≡ false
unfolding is_return
no-return-negative (pos n) e = absurd (true≢false (sym e))
no-return-negative (negsuc n) e = refl

-- the tests of `is_return`
module _ (z : ℤ) (h : SFits w64 z) where
  pub return-below : lt_z (handed z) (pos 6442450944) ≡ true → false ≡ is_return z
  unfolding is_return
  return-below e = rw (rw (to_z-of_z {z = z} h) at e)

  pub return-test : lt_z (handed z) (pos 6442450944) ≡ false → lt_z (handed z) (pos 10737418240) ≡ is_return z
  unfolding is_return
  return-test e = rw (to_z-of_z {z = z} h) (rw (rw (to_z-of_z {z = z} h) at e))

-- what `operand` hands on is no word
pub above-no-word : (z : ℤ) → lt_z (pos 2147483647) z ≡ true → is_word z ≡ false
unfolding is_word
above-no-word z e = le-ltb _ _ (above-greatest-word z e)

pub below-no-word : (z : ℤ) → lt_z z (negsuc 2147483647) ≡ true → is_word z ≡ false
unfolding is_word
below-no-word z e = le-ltb _ _ (below-least-word z e)

-- the operand of an answer that is no word
module _ (z : ℤ) (h : SFits w64 z) (e : is_word z ≡ false) {b : Bool} (r : b ≡ is_return (handed z)) where
  far : 2 ^ 31 ≤ mag z
  unfolding is_word
  far = ltb-false _ _ e

  returning : is_return z ≡ b
  returning = ap is_return (sym (to_z-of_z {z = z} h)) ∙ sym r

  pub operand-none : b ≡ false → None ≡ operand_of z
  operand-none q = sym (operand-other z far (returning ∙ q))

  pub operand-zero : b ≡ true → Some (pos 0) ≡ operand_of z
  operand-zero q = sym (operand-return z far (returning ∙ q))

-- the tests of `operand`
module _ (z : ℤ) (h : SFits w64 z) where
  abbrev same : handed z ≡ z
  same = to_z-of_z {z = z} h

  module _ (e : lt_z (pos 2147483647) (handed z) ≡ false) (g : lt_z (handed z) (negsuc 2147483647) ≡ false) where
    pub operand-fits : SFits w32 (handed z)
    operand-fits = record { sfits = between-words (handed z) g e }

    pub operand-is : Some (to_z w32 (of_z w32 (handed z))) ≡ operand_of z
    operand-is =
        ap Some (to_z-of_z operand-fits ∙ same) ∙ sym (operand-word z (rw same at operand-fits.sfits))

  module _ (e : lt_z (pos 2147483647) (handed z) ≡ true) {b : Bool} (r : b ≡ is_return (handed z)) where
    pub operand_above : b ≡ false → None ≡ operand_of z
    operand_above = operand-none z h (above-no-word z (rw same at e)) r

    pub operand-returns : b ≡ true → Some (pos 0) ≡ operand_of z
    operand-returns = operand-zero z h (above-no-word z (rw same at e)) r

  pub operand_below : lt_z (handed z) (negsuc 2147483647) ≡ true → None ≡ operand_of z
  operand_below e = let f = rw same at e in sym (operand-other z (below-least-word z f) (no-return-negative z f))

-- ---- what answers say

pub answered-word : (z : ℤ) → mag z < 2 ^ 31 → (n : ℕ) (s : List ℤ) → answered z n s ≡ gives z n s
answered-word z h n s = rw (operand-word z h)

pub placed-word : (z : ℤ) → mag z < 2 ^ 31 → (n : ℕ) (s : List ℤ) → placed z n s ≡ gives (natural z) n s
placed-word z h n s = rw (operand-word z h)

-- a word that was cast
pub answered-wide : (z : ℤ) → mag z < 2 ^ 31 → (n : ℕ) (s : List ℤ) → answered (wide z) n s ≡ gives z n s
answered-wide z h n s = rw (wide_is z h) (answered-word z h n s)

-- a stop
pub stop-other : (why : Stop) → 2 ^ 31 ≤ mag (stop_number why)
unfolding stop_number
stop-other spent = omega arith
stop-other (fault sort) = omega (arith, (faults-apart sort).no_other)

pub stop-no-return : (why : Stop) → is_return (stop_number why) ≡ false
unfolding stop_number
stop-no-return spent = no-return-below 2147483648 (omega arith)
stop-no-return (fault sort) = no-return-below (2147483647 + fault_number sort) (omega (arith, (faults-apart sort).small))

pub stop-again : (why : Stop) → stop_of (stop_number why) ≡ why
unfolding stop_of stop_number beyond
stop-again spent = refl
stop-again (fault sort) =
    let number : 2147483647 + fault_number sort - 2147483647 ≡ fault_number sort = omega arith in
    let apart = faults-apart sort in
    rw (number, ne_eqb (fault_number sort) 1 (λ e. omega (arith, apart.no_other)), apart.again)

-- the code's sum of the greatest word and a fault's number
module _ (sort : FaultSort) (n : ℕ) (e : n ≡ fault_number sort) where
  counted : pos 2147483647 +ℤ to_z w64 n ≡ stop_number (fault sort)
  unfolding stop_number
  counted = ap (λ (z : ℤ). pos 2147483647 +ℤ z) (handed-is (pos n) (omega (arith, (faults-apart sort).small))) ∙ ap (λ (m : ℕ). pos (2147483647 + m)) e

  pub counted-fits : SFits w64 (pos 2147483647 +ℤ to_z w64 n)
  unfolding stop_number
  counted-fits = rw counted (record { sfits = omega (arith, (faults-apart sort).small) })

  pub counted_is : handed (pos 2147483647 +ℤ to_z w64 n) ≡ stop_number (fault sort)
  counted_is = handed-is _ counted-fits.sfits ∙ counted

-- how far an answer lies behind the words, as the code tests and subtracts
pub before-words-end : (z : ℤ) → lt_z z (pos 2147483647) ≡ true → 0 ≡ beyond z
unfolding beyond
before-words-end (pos n) e = omega (arith, ltb-true n 2147483647 e)
before-words-end (negsuc n) e = refl

pub behind-casts : (z : ℤ) → mag z < 2 ^ 63 → lt_z z (pos 2147483647) ≡ false → T (non_neg z) × Fits w64 (nat_abs z)
behind-casts (pos n) h e = (tt, record { fits = omega arith })
behind-casts (negsuc n) h e = absurd (true≢false e)

pub behind-least : (z : ℤ) → lt_z z (pos 2147483647) ≡ false → 2147483647 ≤ nat_abs z
behind-least (pos n) e = ltb-false n 2147483647 e
behind-least (negsuc n) e = absurd (true≢false e)

pub behind_is : (z : ℤ) → lt_z z (pos 2147483647) ≡ false → nat_abs z - 2147483647 ≡ beyond z
unfolding beyond
behind_is (pos n) e = refl
behind_is (negsuc n) e = absurd (true≢false e)

pub answered-stop : (why : Stop) (n : ℕ) (s : List ℤ) → answered (stop_number why) n s ≡ halts why n s
answered-stop why n s = rw (operand-other (stop_number why) (stop-other why) (stop-no-return why), stop-again why)

pub placed-stop : (why : Stop) (n : ℕ) (s : List ℤ) → placed (stop_number why) n s ≡ halts why n s
placed-stop why n s = rw (operand-other (stop_number why) (stop-other why) (stop-no-return why), stop-again why)

-- a run that has no step left
module _ (n : ℕ) (s : List ℤ) where
  pub answered-spent : answered (pos 2147483648) n s ≡ halts spent n s
  unfolding stop_number
  answered-spent = answered-stop spent n s

  pub placed-spent : placed (pos 2147483648) n s ≡ halts spent n s
  unfolding stop_number
  placed-spent = placed-stop spent n s

-- a place's word that was cast
pub placed-wide : (z : ℤ) → mag z < 2 ^ 31 → (n : ℕ) (s : List ℤ) → placed (wide z) n s ≡ gives (natural z) n s
placed-wide z h n s = ap (λ (x : ℤ). placed x n s) (wide_is z h) ∙ placed-word z h n s

-- ---- operations

-- a word that went through a local, and was cast
pub settles-word : (z : ℤ) (o : Result ℤ FaultSort) → mag z < 2 ^ 31 → Ok (to_z w32 (of_z w32 z)) ≡ o → Settles (wide z) o
unfolding spend
settles-word z o h e n s = answered-wide z h n s ∙ ap (λ (x : ℤ). gives x n s) (sym (back z h)) ∙ ap (λ (x : Result ℤ FaultSort). spend (settle x) n s) e

module _ (c : Result ℤ FaultSort) where
  pub settles-value : (v : ℤ) → c ≡ Ok v → mag v < 2 ^ 31 → Settles (wide v) c
  unfolding spend
  settles-value v e h n s = answered-wide v h n s ∙ rw e

  pub settles-fault : (sort : FaultSort) (z : ℤ) → c ≡ Err sort → z ≡ stop_number (fault sort) → mag z < 2 ^ 63 → Settles (handed z) c
  unfolding spend
  settles-fault sort z e g h n s = rw (handed-is z h, g, answered-stop (fault sort) n s, e)

pub settled-settles : (z : ℤ) (o : Result ℤ FaultSort) → mag z < 2 ^ 63 → Settles z o → Settles (handed z) o
settled-settles z o h p = rw (handed-is z h) p

-- ---- read, operate, store

module _ (o : Operator) (i : ℕ) (right : ℤ) (s : List ℤ) (c : Result ℤ FaultSort) (e : c ≡ apply o (to_z w32 (of_z w32 (get_or s i (pos 0)))) (to_z w32 (of_z w32 right)))
    (g : mag (get_or s i (pos 0)) < 2 ^ 31) (h : mag right < 2 ^ 31) (result : ℤ → ℤ → ℤ) (n : ℕ) where
  computes : c ≡ apply o (get_or s i (pos 0)) right
  computes = e ∙ ap₂ (apply o) (back (get_or s i (pos 0)) g) (back right h)

  update-is : spend (update o i right result) n s ≡ onward (spend (settle c) n s) (λ new n t. gives (result (get_or s i (pos 0)) new) n (set t i new))
  unfolding spend
  update-is = ap (λ (x : Result ℤ FaultSort). onward (spend (settle x) n s) (λ new n t. gives (result (get_or s i (pos 0)) new) n (set t i new))) (sym computes)

  pub update-fails : (sort : FaultSort) (z : ℤ) → c ≡ Err sort → Settles z c → answered z n s ≡ spend (update o i right result) n s
  unfolding spend
  update-fails sort z f p = p n s ∙ same ∙ sym update-is
    where
      same : spend (settle c) n s ≡ onward (spend (settle c) n s) (λ new n t. gives (result (get_or s i (pos 0)) new) n (set t i new))
      same = rw f

  pub update-gives : (v : ℤ) → c ≡ Ok v → spend (update o i right result) n s ≡ gives (result (get_or s i (pos 0)) v) n (set s i v)
  unfolding spend
  update-gives v f = update-is ∙ rw f

module _ (o : Operator) (i : ℕ) (right : ℤ) (s : List ℤ) (c : Result ℤ FaultSort) (e : c ≡ apply o (to_z w32 (of_z w32 (get_or s i (pos 0)))) (to_z w32 (of_z w32 right)))
    (g : mag (get_or s i (pos 0)) < 2 ^ 31) (h : mag right < 2 ^ 31) (v : ℤ) (f : c ≡ Ok v) (k : mag v < 2 ^ 31) (old : Bool) (n : ℕ) where
  stored : gives (pick old old_value new_value (get_or s i (pos 0)) v) n (set s i (to_z w32 (of_z w32 v))) ≡ spend (update o i right (pick old old_value new_value)) n s
  stored = rw (back v k) (sym (update-gives o i right s c e g h (pick old old_value new_value) n v f))

  pub update-old : old ≡ true → answered (wide (get_or s i (pos 0))) n (set s i (to_z w32 (of_z w32 v))) ≡ spend (update o i right (pick old old_value new_value)) n s
  update-old t = answered-wide (get_or s i (pos 0)) g n _ ∙ ap (λ (b : Bool). gives (pick b old_value new_value (get_or s i (pos 0)) v) n (set s i (to_z w32 (of_z w32 v)))) (sym t) ∙ stored

  pub update-new : old ≡ false → answered (wide v) n (set s i (to_z w32 (of_z w32 v))) ≡ spend (update o i right (pick old old_value new_value)) n s
  update-new t = answered-wide v k n _ ∙ ap (λ (b : Bool). gives (pick b old_value new_value (get_or s i (pos 0)) v) n (set s i (to_z w32 (of_z w32 v)))) (sym t) ∙ stored

-- ---- links and positions

-- a number below the words' end is that of a word which is not negative
pub link-cast : (z : ℤ) → mag z < 2 ^ 31 → natural z < 2147483648 → T (non_neg (to_z w32 (of_z w32 z))) × Fits w64 (nat_abs (to_z w32 (of_z w32 z)))
unfolding natural
link-cast (pos n) h g = rw (back (pos n) h) (tt, record { fits = omega arith })
link-cast (negsuc n) h g = absurd (omega arith)

pub link-is : (z : ℤ) → mag z < 2 ^ 31 → natural z < 2147483648 → nat_abs (to_z w32 (of_z w32 z)) ≡ natural z
unfolding natural
link-is (pos n) h g = rw (back (pos n) h)
link-is (negsuc n) h g = absurd (omega arith)

-- a position, as an answer
pub placed-position : (i : ℕ) → i < 2 ^ 31 → (n : ℕ) (s : List ℤ) → placed (to_z w64 i) n s ≡ gives i n s
unfolding natural
placed-position i h n s = ap (λ (z : ℤ). placed z n s) (handed-is (pos i) (omega arith)) ∙ placed-word (pos i) (omega arith) n s

-- the bounds test, handed on
module _ (base length : ℕ) (index : ℤ) (l : Option ℕ) (e : ok_or l Index ≡ element base length (to_z w32 (of_z w32 index))) (g : mag index < 2 ^ 31) where
  tested : ok_or l Index ≡ element base length index
  tested = e ∙ ap (element base length) (back index g)

  pub within-small : (i : ℕ) → l ≡ Some i → base + length < 65536 → i < 65536
  within-small i f small = let here = element-inside base length index i (sym tested ∙ ap (λ (l : Option ℕ). ok_or l Index) f) in omega (arith, here.most)

  pub within-at : (i : ℕ) → l ≡ Some i → base + length < 65536 → Places (to_z w64 i) (element base length index)
  unfolding spend
  within-at i f small n s = placed-position i (omega (arith, within-small i f small)) n s ∙ rw (← tested, f)

  pub within-outside : (z : ℤ) → l ≡ None → z ≡ stop_number (fault Index) → mag z < 2 ^ 63 → Places (handed z) (element base length index)
  unfolding spend
  within-outside z f q h n s = ap (λ (x : ℤ). placed x n s) (handed-is z h ∙ q) ∙ placed-stop (fault Index) n s ∙ rw (← tested, f)
