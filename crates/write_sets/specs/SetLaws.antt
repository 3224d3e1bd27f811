-- Laws of sets: what is in the empty set, in a set of one, in either of two sets; bit by bit, and for the words that names mean.
use Rattle.std.specs.Prelude.{◌≡◌, refl, false, List, [], ◌∷◌, length, set, get_or, ◌&&◌, ◌||◌, ℕ, zero, suc, ◌+◌, ◌-◌, ◌*◌, ◌/◌, ◌%◌, ◌^◌, ◌≤◌, ◌<◌, eqb, ltb}
use Rattle.std.proofs.Common.{sym, ap, ◌∙◌, mod-lt, zero-lt-suc, arith, eq-eqb, ne_eqb, eqb-true, ltb-true, ltb-false, lt-ltb, le-ltb}
use Rattle.std.proofs.Math.Bool.{and-false}
use Rattle.std.proofs.lemmas.Bool.{eqb-false}
use Rattle.std.proofs.lemmas.List.{get_or-set_same, get_or-set_other}
use native.Mathlib.Decide.{ℕ_discrete}
use native.Mathlib.Nat.{one-mul}
use lib.Dec.{lit<}
use lib.Pow.{shl_exact}
use Rattle.std.specs.Int.Bits.{bit_or, or_zero_l}
use Rattle.words.specs.Word.{pick}
use Rattle.words.specs.Laws.{by_cases}
use Rattle.write_sets.specs.Bits.{has_bit, bit-or, bit-none, bit-single, bit-shift}
use Rattle.write_sets.specs.Named.{Named}
use Rattle.write_sets.specs.Sets.{bit_of, word_of, bit_at, member, variable_bit, declared_bit, member_array, nothing, join, bit_in, single}
use Rattle.write_sets.specs.declared.Bit.{Bit}
use Rattle.write_sets.specs.declared.WriteSet.{WriteSet}

-- ---- where a bit stands

-- a variable's
pub bit-variable : (S i : ℕ) → i < S → bit_of S i ≡ record { word = i / 64; place = i % 64 }
unfolding bit_of
bit-variable S i h = rw (lt-ltb i S h)

-- a declared word's
pub bit-declared : (S i : ℕ) → i < 64 → bit_of S (S + i) ≡ record { word = 4; place = i }
unfolding bit_of
bit-declared S i h =
    let word : 4 + (S + i - S) / 64 ≡ 4 = omega arith in
    let place : (S + i - S) % 64 ≡ i = omega arith in
    rw (le-ltb (S + i) S (omega arith), word, place)

bit-behind : (S i : ℕ) → S ≤ i → i < S + 64 → bit_of S i ≡ record { word = 4; place = i - S }
bit-behind S i h k = let same : i ≡ S + (i - S) = omega arith in ap (bit_of S) same ∙ bit-declared S (i - S) (omega arith)

-- ---- the bits of a name's word

pub member-variable : (S : ℕ) (s : WriteSet) (i : ℕ) → i < S → member S s i ≡ variable_bit s i
unfolding member variable_bit
member-variable S s i h = rw (bit-variable S i h)

pub member-declared : (S : ℕ) (s : WriteSet) (i : ℕ) → i < 64 → member S s (S + i) ≡ declared_bit s i
unfolding member declared_bit
member-declared S s i h = rw (bit-declared S i h)

-- ---- in either set

word-join : (a b : WriteSet) (k : ℕ) → word_of (join a b) k ≡ bit_or (word_of a k) (word_of b k)
word-join a b zero = refl
word-join a b (suc zero) = refl
word-join a b (suc (suc zero)) = refl
word-join a b (suc (suc (suc zero))) = refl
word-join a b (suc (suc (suc (suc zero)))) = refl
word-join a b (suc (suc (suc (suc (suc k))))) = sym (or_zero_l 0)

pub variable-join : (a b : WriteSet) (i : ℕ) → variable_bit (join a b) i ≡ (variable_bit a i || variable_bit b i)
unfolding variable_bit
variable-join a b i = ap (λ (n : ℕ). has_bit n (i % 64)) (word-join a b (i / 64)) ∙ bit-or (word_of a (i / 64)) (word_of b (i / 64)) (i % 64)

pub declared-join : (a b : WriteSet) (i : ℕ) → declared_bit (join a b) i ≡ (declared_bit a i || declared_bit b i)
unfolding declared_bit
declared-join a b i = bit-or (word_of a 4) (word_of b 4) i

-- ---- in the empty set

word_none : (k : ℕ) → word_of nothing k ≡ 0
word_none zero = refl
word_none (suc zero) = refl
word_none (suc (suc zero)) = refl
word_none (suc (suc (suc zero))) = refl
word_none (suc (suc (suc (suc zero)))) = refl
word_none (suc (suc (suc (suc (suc k))))) = refl

pub variable-nothing : (i : ℕ) → variable_bit nothing i ≡ false
unfolding variable_bit
variable-nothing i = ap (λ (n : ℕ). has_bit n (i % 64)) (word_none (i / 64)) ∙ bit-none (i % 64)

pub declared-nothing : (i : ℕ) → declared_bit nothing i ≡ false
unfolding declared_bit
declared-nothing i = bit-none i

-- ---- in a set of one

word-single : (S i k : ℕ) → k < 5 → word_of (single S i) k ≡ bit_in S i k
word-single S i zero h = refl
word-single S i (suc zero) h = refl
word-single S i (suc (suc zero)) h = refl
word-single S i (suc (suc (suc zero))) h = refl
word-single S i (suc (suc (suc (suc zero)))) h = refl
word-single S i (suc (suc (suc (suc (suc k))))) h = absurd (omega arith)

-- the bit at a place of a word, where the one bit stands at another or the same
bit-alone : (at : Bit) (word place : ℕ) → has_bit (pick (eqb at.word word) (2 ^ at.place) 0) place ≡ (eqb at.word word && eqb at.place place)
bit-alone at word place = by_cases (eqb at.word word) (λ e. rw e (bit-single at.place place)) (λ e. rw e (bit-none place))

same_bit : (i j : ℕ) → (eqb (i / 64) (j / 64) && eqb (i % 64) (j % 64)) ≡ eqb i j
same_bit i j = by_cases (eqb (i / 64) (j / 64))
    (λ e. let same = eqb-true (i / 64) (j / 64) e in rw e (by_cases (eqb (i % 64) (j % 64))
    (λ d. let low = eqb-true (i % 64) (j % 64) d in d ∙ sym (eq-eqb i j (omega arith)))
    (λ d. d ∙ sym (ne_eqb i j (λ q. eqb-false (i % 64) (j % 64) d (ap (λ (n : ℕ). n % 64) q))))))
    (λ e. rw e (sym (ne_eqb i j (λ q. eqb-false (i / 64) (j / 64) e (ap (λ (n : ℕ). n / 64) q)))))

other_word : (k word place other : ℕ) → (k ≡ word → ⊥) → (eqb k word && eqb place other) ≡ false
other_word k word place other h = rw (ne_eqb k word h)

-- a variable alone is the one bit of its own; a declared word is none of the variables
pub variable-single : (S i j : ℕ) → Named S i → j < 256 → variable_bit (single S i) j ≡ (ltb j S && eqb i j)
unfolding variable_bit
variable-single S i j n h = ap (λ (w : ℕ). has_bit w (j % 64)) (word-single S i (j / 64) (omega arith)) ∙ bit-alone (bit_of S i) (j / 64) (j % 64) ∙ by_cases (ltb i S)
    (λ e. let below = ltb-true i S e in rw (bit-variable S i below) (same_bit i j ∙ by_cases (eqb i j)
    (λ d. let same = eqb-true i j d in rw (d, lt-ltb j S (omega arith)))
    (λ d. rw d (sym (and-false (ltb j S))))))
    (λ e. let behind = ltb-false i S e in rw (bit-behind S i behind n.within) (other_word 4 (j / 64) (i - S) (j % 64) (λ q. omega arith) ∙ sym (by_cases (ltb j S)
    (λ d. rw (d, ne_eqb i j (λ q. omega (arith, ltb-true j S d))))
    (λ d. rw d))))

-- a declared word alone is the one bit of its own; a variable is none of the declared words
pub declared-single : (S i j : ℕ) → Named S i → j < 64 → declared_bit (single S i) j ≡ eqb i (S + j)
unfolding declared_bit
declared-single S i j n h = bit-alone (bit_of S i) 4 j ∙ by_cases (ltb i S)
    (λ e. let below = ltb-true i S e in rw (bit-variable S i below) (other_word (i / 64) 4 (i % 64) j (λ q. omega (arith, n.variable below)) ∙ sym (ne_eqb i (S + j) (λ q. omega arith))))
    (λ e. let behind = ltb-false i S e in rw (bit-behind S i behind n.within) (by_cases (eqb (i - S) j)
    (λ d. let same = eqb-true (i - S) j d in d ∙ sym (eq-eqb i (S + j) (omega arith)))
    (λ d. d ∙ sym (ne_eqb i (S + j) (λ q. eqb-false (i - S) j d (omega arith))))))

-- ---- arrays

pub array-none : (array : ℕ) → member_array 0 array ≡ false
unfolding member_array
array-none array = bit-none array

pub array-join : (a b array : ℕ) → member_array (bit_or a b) array ≡ (member_array a array || member_array b array)
unfolding member_array
array-join a b array = bit-or a b array

pub array-alone : (a array : ℕ) → member_array (2 ^ a) array ≡ eqb a array
unfolding member_array
array-alone a array = bit-single a array

-- ---- what the functions compute

pub array-shift : (arrays array : ℕ) → eqb (arrays / 2 ^ array % 2) 1 ≡ member_array arrays array
unfolding member_array
array-shift arrays array = bit-shift arrays array

pub word-rest : (s : WriteSet) (k : ℕ) → 4 < k → 0 ≡ word_of s k
word-rest s zero h = absurd (omega arith)
word-rest s (suc zero) h = absurd (omega arith)
word-rest s (suc (suc zero)) h = absurd (omega arith)
word-rest s (suc (suc (suc zero))) h = absurd (omega arith)
word-rest s (suc (suc (suc (suc zero)))) h = absurd (omega arith)
word-rest s (suc (suc (suc (suc (suc k))))) h = refl

-- the bit of a variable, and of a word behind the first S
pub found_below : (S i : ℕ) → i < S → ◌≡◌ {A = Bit} (record { word = i / 64; place = i % 64 }) (bit_of S i)
found_below S i h = sym (bit-variable S i h)

pub found-behind : (S i : ℕ) → S ≤ i → ◌≡◌ {A = Bit} (record { word = 4 + (i - S) / 64; place = (i - S) % 64 }) (bit_of S i)
unfolding bit_of
found-behind S i h = rw (le-ltb i S h)

-- a place in a word is below 64
pub place-below : (S i : ℕ) {at : Bit} → at ≡ bit_of S i → at.place < 64
unfolding bit_of
place-below S i e = rw e (by_cases (ltb i S) (λ t. rw t (mod-lt i (zero-lt-suc 63))) (λ t. rw t (mod-lt (i - S) (zero-lt-suc 63))))

-- the bit at a place of a word
pub bit-found : (s : WriteSet) (at : Bit) {word : ℕ} → word ≡ word_of s at.word → eqb (word / 2 ^ at.place % 2) 1 ≡ bit_at s at
bit-found s at e = rw e (bit-shift (word_of s at.word) at.place)

pub member-shift : (S : ℕ) (s : WriteSet) (i : ℕ) {at : Bit} {word : ℕ} → at ≡ bit_of S i → word ≡ word_of s at.word → eqb (word / 2 ^ at.place % 2) 1 ≡ member S s i
unfolding member
member-shift S s i {at} e w = rw (w, e) (bit-shift (word_of s (bit_of S i).word) (bit_of S i).place)

pub variable-shift : (s : WriteSet) (i : ℕ) {word : ℕ} → word ≡ word_of s (i / 64) → eqb (word / 2 ^ (i % 64) % 2) 1 ≡ variable_bit s i
unfolding variable_bit
variable-shift s i w = rw w (bit-shift (word_of s (i / 64)) (i % 64))

pub declared-shift : (s : WriteSet) (i : ℕ) → eqb (word_of s 4 / 2 ^ i % 2) 1 ≡ declared_bit s i
unfolding declared_bit
declared-shift s i = bit-shift (word_of s 4) i

-- one bit in one of the words, or none
pub single-words : (S i : ℕ) {at : Bit} {bit a b d e f : ℕ} → at ≡ bit_of S i → bit ≡ 2 ^ at.place → a ≡ pick (eqb at.word 0) bit 0 → b ≡ pick (eqb at.word 1) bit 0 → d ≡ pick (eqb at.word 2) bit 0 → e ≡ pick (eqb at.word 3) bit 0 → f ≡ pick (eqb at.word 4) bit 0
    → ◌≡◌ {A = WriteSet} (record { words = a ∷ b ∷ d ∷ e ∷ f ∷ [] }) (single S i)
single-words S i o p q r s t u = rw (q, r, s, t, u, p, o)

-- one bit put into one of the words
pub single-put : (S i : ℕ) {at : Bit} (bit : ℕ) → at ≡ bit_of S i → at.word < 5 → bit ≡ 2 ^ at.place
    → ◌≡◌ {A = WriteSet} (record { words = set (0 ∷ 0 ∷ 0 ∷ 0 ∷ 0 ∷ []) at.word bit }) (single S i)
single-put S i {at} bit o h e = rw (e, ← o) (put at.word h)
  where
    put : (k : ℕ) → k < 5 → ◌≡◌ {A = WriteSet} (record { words = set (0 ∷ 0 ∷ 0 ∷ 0 ∷ 0 ∷ []) k (2 ^ at.place) }) (record { words = pick (eqb k 0) (2 ^ at.place) 0 ∷ pick (eqb k 1) (2 ^ at.place) 0 ∷ pick (eqb k 2) (2 ^ at.place) 0 ∷ pick (eqb k 3) (2 ^ at.place) 0 ∷ pick (eqb k 4) (2 ^ at.place) 0 ∷ [] })
    put zero l = refl
    put (suc zero) l = refl
    put (suc (suc zero)) l = refl
    put (suc (suc (suc zero))) l = refl
    put (suc (suc (suc (suc zero)))) l = refl
    put (suc (suc (suc (suc (suc k))))) l = absurd (omega arith)

pub five : (w : List ℕ) → length w ≡ 5 → w ≡ get_or w 0 0 ∷ get_or w 1 0 ∷ get_or w 2 0 ∷ get_or w 3 0 ∷ get_or w 4 0 ∷ []
five [] h = absurd (omega arith)
five (x0 ∷ []) h = absurd (omega arith)
five (x0 ∷ x1 ∷ []) h = absurd (omega arith)
five (x0 ∷ x1 ∷ x2 ∷ []) h = absurd (omega arith)
five (x0 ∷ x1 ∷ x2 ∷ x3 ∷ []) h = absurd (omega arith)
five (x0 ∷ x1 ∷ x2 ∷ x3 ∷ x4 ∷ []) h = refl
five (x0 ∷ x1 ∷ x2 ∷ x3 ∷ x4 ∷ x5 ∷ w) h = absurd (omega arith)

-- the words joined, one by one
pub join-words : (a b : WriteSet) (w : List ℕ) → length w ≡ 5 → ((k : ℕ) → k < 5 → get_or w k 0 ≡ bit_or (get_or a.words k 0) (get_or b.words k 0)) → ◌≡◌ {A = WriteSet} (record { words = w }) (join a b)
join-words a b w h e = ap (λ (l : List ℕ). record { words = l }) (five w h) ∙ rw (e 0 (omega arith), e 1 (omega arith), e 2 (omega arith), e 3 (omega arith), e 4 (omega arith))

-- a bit that was shifted to its place
pub one-bit : {place : ℕ} → place < 64 → 1 * 2 ^ place % 18446744073709551616 ≡ 2 ^ place
one-bit {place} h = shl_exact 1 place 64 (lit< tt) (omega arith) ∙ one-mul _

-- one word more is joined
pub joined-more : (v o w : List ℕ) (k : ℕ) → k < length w → ((j : ℕ) → j < k → get_or w j 0 ≡ bit_or (get_or v j 0) (get_or o j 0)) → ((j : ℕ) → k ≤ j → get_or w j 0 ≡ get_or v j 0)
    → (j : ℕ) → j < k + 1 → get_or (set w k (bit_or (get_or w k 0) (get_or o k 0))) j 0 ≡ bit_or (get_or v j 0) (get_or o j 0)
joined-more v o w k h joined left j l = by (ℕ_discrete j k)
  where
    by : Dec (j ≡ k) → get_or (set w k (bit_or (get_or w k 0) (get_or o k 0))) j 0 ≡ bit_or (get_or v j 0) (get_or o j 0)
    by (yes q) = rw q (get_or-set_same w k _ 0 h ∙ ap (λ (x : ℕ). bit_or x (get_or o k 0)) (left k (omega arith)))
    by (no q) = get_or-set_other w k j _ 0 q ∙ joined j (omega (arith, q))

pub joined-left : (v w : List ℕ) (x k : ℕ) → ((j : ℕ) → k ≤ j → get_or w j 0 ≡ get_or v j 0) → (j : ℕ) → k + 1 ≤ j → get_or (set w k x) j 0 ≡ get_or v j 0
joined-left v w x k left j l = get_or-set_other w k j _ 0 (λ q. omega arith) ∙ left j (omega arith)
