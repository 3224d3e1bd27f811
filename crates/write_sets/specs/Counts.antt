-- How many numbers below a bound pass a test; and the ones in the words of a set, as the number of its variables and declared words.
use Rattle.std.specs.Prelude.{◌≡◌, refl, Bool, List, [], ◌∷◌, length, take, get_or, ℕ, zero, suc, ◌+◌, ◌*◌, ◌/◌, ◌%◌, ◌^◌, ◌<◌, eqb}
use Rattle.std.proofs.Common.{sym, ap, ap₂, ◌∙◌, arith, zero-add, suc-add, mod-lt, zero-lt-suc, add-one, shr_lt}
use Rattle.std.proofs.Math.Arith.{lt-one}
use Rattle.std.specs.List.{sum_by}
use Rattle.std.proofs.lemmas.List.Sums.{sum_by-cons}
use Rattle.std.specs.Int.Count.{ones, ones_step}
use Rattle.words.specs.Word.{pick}
use Rattle.write_sets.specs.Bits.{has_bit, two}
use Rattle.write_sets.specs.Sets.{word_of, variable_bit, declared_bit, variable_bits, declared_bits}
use Rattle.write_sets.specs.SetLaws.{five}
use Rattle.write_sets.specs.declared.WriteSet.{WriteSet}

-- How many of the numbers below k pass the test.
unfoldable pub count_below : ℕ → (ℕ → Bool) → ℕ
count_below zero p = 0
count_below (suc k) p = pick (p 0) 1 0 + count_below k (λ i. p (suc i))

pub count_same : (k : ℕ) (p q : ℕ → Bool) → ((i : ℕ) → i < k → p i ≡ q i) → count_below k p ≡ count_below k q
unfolding count_below
count_same zero p q h = refl
count_same (suc k) p q h = ap₂ ◌+◌ (ap (λ (b : Bool). pick b 1 0) (h 0 (omega arith))) (count_same k (λ i. p (suc i)) (λ i. q (suc i)) (λ i l. h (suc i) (omega arith)))

count-parts : (k n : ℕ) (p : ℕ → Bool) → count_below (k + n) p ≡ count_below k p + count_below n (λ i. p (k + i))
unfolding count_below
count-parts zero n p = rw zero-add (count_same n p (λ i. p (0 + i)) (λ i l. ap p (let z : i ≡ 0 + i = omega arith in z)) ∙ sym (zero-add _))
count-parts (suc k) n p = rw suc-add (ap (λ m. pick (p 0) 1 0 + m) (count-parts k n (λ i. p (suc i))) ∙ (let z : pick (p 0) 1 0 + (count_below k (λ i. p (suc i)) + count_below n (λ i. p (suc (k + i)))) ≡ pick (p 0) 1 0 + count_below k (λ i. p (suc i)) + count_below n (λ i. p (suc (k + i))) = omega arith in z)
    ∙ ap (λ m. pick (p 0) 1 0 + count_below k (λ i. p (suc i)) + m) (count_same n (λ i. p (suc (k + i))) (λ i. p (suc k + i)) (λ i l. ap p (let z : suc (k + i) ≡ suc k + i = omega arith in z))))

-- ---- the ones of a word, and of the five words

ones-bits : (k n : ℕ) → n < 2 ^ k → ones n ≡ count_below k (has_bit n)
unfolding has_bit count_below ones
ones-bits zero n h = ap ones (lt-one h)
ones-bits (suc k) n h =
    ones_step n ∙ ap₂ ◌+◌ (sym (two (n % 2) (mod-lt n (zero-lt-suc 1)) (λ (d : ℕ). pick (eqb d 1) 1 0 ≡ d) refl refl)) (ones-bits k (n / 2) (shr_lt k 1 (rw (add-one k) h)))

variable-word : (s : WriteSet) (k i : ℕ) → i < 64 → variable_bit s (64 * k + i) ≡ has_bit (word_of s k) i
unfolding variable_bit
variable-word s k i h = let q : (64 * k + i) / 64 ≡ k = omega arith in let r : (64 * k + i) % 64 ≡ i = omega arith in rw (q, r)

ones-variables : (s : WriteSet) → word_of s 0 < 2 ^ 64 → word_of s 1 < 2 ^ 64 → word_of s 2 < 2 ^ 64 → word_of s 3 < 2 ^ 64 → ones (word_of s 0) + ones (word_of s 1) + ones (word_of s 2) + ones (word_of s 3) ≡ count_below variable_bits (variable_bit s)
ones-variables s h0 h1 h2 h3 = sym (
    count-parts 64 192 (variable_bit s) ∙ ap₂ ◌+◌ (part 0 (λ i. variable_bit s i) (λ i. ap (variable_bit s) (let z : i ≡ 0 + i = omega arith in z)) h0) (
    count-parts 64 128 (λ i. variable_bit s (64 + i)) ∙ ap₂ ◌+◌ (part 1 (λ i. variable_bit s (64 + i)) (λ i. refl) h1) (
    count-parts 64 64 (λ i. variable_bit s (64 + (64 + i))) ∙ ap₂ ◌+◌ (part 2 (λ i. variable_bit s (64 + (64 + i))) (λ i. ap (variable_bit s) (let z : 64 + (64 + i) ≡ 128 + i = omega arith in z)) h2)
    (part 3 (λ i. variable_bit s (64 + (64 + (64 + i)))) (λ i. ap (variable_bit s) (let z : 64 + (64 + (64 + i)) ≡ 192 + i = omega arith in z)) h3)))
    ∙ (let z : ones (word_of s 0) + (ones (word_of s 1) + (ones (word_of s 2) + ones (word_of s 3))) ≡ ones (word_of s 0) + ones (word_of s 1) + ones (word_of s 2) + ones (word_of s 3) = omega arith in z))
  where
    part : (k : ℕ) (p : ℕ → Bool) → ((i : ℕ) → p i ≡ variable_bit s (64 * k + i)) → word_of s k < 2 ^ 64 → count_below 64 p ≡ ones (word_of s k)
    part k p e h = count_same 64 p (has_bit (word_of s k)) (λ i l. e i ∙ variable-word s k i l) ∙ sym (ones-bits 64 (word_of s k) h)

ones-declared : (s : WriteSet) → word_of s 4 < 2 ^ 64 → ones (word_of s 4) ≡ count_below declared_bits (declared_bit s)
unfolding declared_bit
ones-declared s h = ones-bits 64 (word_of s 4) h

-- "the number of distinct variables .., being the ones in those words", and of the fifth word, "whose ones, each declared word among them, enter .. too"
pub ones-members : (s : WriteSet) → word_of s 0 < 2 ^ 64 → word_of s 1 < 2 ^ 64 → word_of s 2 < 2 ^ 64 → word_of s 3 < 2 ^ 64 → word_of s 4 < 2 ^ 64
    → ones (word_of s 0) + ones (word_of s 1) + ones (word_of s 2) + ones (word_of s 3) + ones (word_of s 4) ≡ count_below variable_bits (variable_bit s) + count_below declared_bits (declared_bit s)
ones-members s h0 h1 h2 h3 h4 = ap₂ ◌+◌ (ones-variables s h0 h1 h2 h3) (ones-declared s h4)

added : (a b c d e : ℕ) → sum_by ones (a ∷ b ∷ c ∷ d ∷ e ∷ []) ≡ ones a + ones b + ones c + ones d + ones e
added a b c d e = simp (sum_by-cons, sum_by) (omega arith)

-- the same, of the words one by one
pub ones-counted : (s : WriteSet) → length s.words ≡ 5 → ((k : ℕ) → k < 5 → get_or s.words k 0 < 2 ^ 64) → sum_by ones (take 5 s.words) ≡ count_below variable_bits (variable_bit s) + count_below declared_bits (declared_bit s)
ones-counted s size fits =
    ap (λ (l : List ℕ). sum_by ones (take 5 l)) (five s.words size) ∙ added _ _ _ _ _ ∙ ones-members s (fits 0 (omega arith)) (fits 1 (omega arith)) (fits 2 (omega arith)) (fits 3 (omega arith)) (fits 4 (omega arith))
