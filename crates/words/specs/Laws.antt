-- Laws: what follows from the definitions of words, arithmetic and layouts; and the laws of tests that the crates share.
use Rattle.std.specs.Prelude.{◌≡◌, refl, Bool, true, false, ◌&&◌, ◌||◌, ◌⊎◌, List, [], ◌∷◌, ℕ, zero, suc, ◌+◌, ◌*◌, ◌-◌, ◌/◌, ◌%◌, ◌^◌, ◌≤◌, ◌<◌, leb, eqb, ℤ, pos, negsuc, length, get_or, take, drop}
use Rattle.std.proofs.Common.{sym, ap, ◌∙◌, true≢false, inl, inr, add-one, arith, length-drop, to_z, of_z, to_z-of_z, ltb-true, ltb-false, leb-true, eqb-true, le-leb, eq-eqb, ne_eqb}
use Rattle.std.proofs.lemmas.Bool.{false≢true}
use Rattle.std.proofs.Math.IntN.{ℤ_discrete}
use Rattle.std.specs.Int.Signed.{mag, lt_z}
use Rattle.std.proofs.lemmas.List.{length-map}
use Rattle.std.specs.Int.{w32}
use Rattle.words.specs.Word.{same_word, natural}
use Rattle.words.specs.Layout.{Layout, leading, row_limit, declared_of, temporaries_of, layout_of, sum, store_size, zeros, array_length, array_base, all_within, header_fits, count_fits}
use Rattle.words.specs.declared.Form.TheVariants.{Source, Kernel}
use Rattle.words.specs.declared.Form.{Form}

-- ---- tests

-- a case for each value of a test
pub by_cases : {A : Type 0} (test : Bool) → (test ≡ true → A) → (test ≡ false → A) → A
by_cases true holds fails = holds refl
by_cases false holds fails = fails refl

pub both : (a b : Bool) → (a && b) ≡ true → (a ≡ true) × (b ≡ true)
both true b e = (refl, e)
both false b e = absurd (false≢true e)

pub either : (a b : Bool) → (a || b) ≡ true → (a ≡ true) ⊎ (b ≡ true)
either true b e = inl refl
either false b e = inr e

pub neither : (a b : Bool) → (a || b) ≡ false → (a ≡ false) × (b ≡ false)
neither true b e = absurd (true≢false e)
neither false b e = (refl, e)

pub or_right : (a b : Bool) → b ≡ true → (a || b) ≡ true
or_right true b e = refl
or_right false b e = e

-- ---- words and their bits

-- a word that went through its bits is itself
pub back : (z : ℤ) → mag z < 2 ^ 31 → to_z w32 (of_z w32 z) ≡ z
back z h = to_z-of_z {w = w32} (record { sfits = h })

pub same_word-refl : (x : ℤ) → same_word x x ≡ true
unfolding same_word
same_word-refl (pos n) = eq-eqb n n refl
same_word-refl (negsuc n) = eq-eqb n n refl

pub same_word-equal : (x y : ℤ) → same_word x y ≡ true → x ≡ y
unfolding same_word
same_word-equal (pos m) (pos n) e = ap pos (eqb-true m n e)
same_word-equal (pos m) (negsuc n) e = absurd (let z : ◌≡◌ {A = ℕ} 0 1 = cc in omega arith)
same_word-equal (negsuc m) (pos n) e = absurd (let z : ◌≡◌ {A = ℕ} 0 1 = cc in omega arith)
same_word-equal (negsuc m) (negsuc n) e = ap negsuc (eqb-true m n e)

pub same_word-differ : (x y : ℤ) → (x ≡ y → ⊥) → same_word x y ≡ false
unfolding same_word
same_word-differ (pos m) (pos n) q = ne_eqb m n (λ e. q (ap pos e))
same_word-differ (pos m) (negsuc n) q = refl
same_word-differ (negsuc m) (pos n) q = refl
same_word-differ (negsuc m) (negsuc n) q = ne_eqb m n (λ e. q (ap negsuc e))

-- words are compared by their bits
pub same_word-bits : (x y : ℤ) → mag x < 2 ^ 31 → mag y < 2 ^ 31 → eqb (of_z w32 x) (of_z w32 y) ≡ same_word x y
same_word-bits x y h k = go (ℤ_discrete x y)
  where
    go : Dec (x ≡ y) → eqb (of_z w32 x) (of_z w32 y) ≡ same_word x y
    go (yes q) = eq-eqb (of_z w32 x) (of_z w32 y) (ap (of_z w32) q) ∙ sym (same_word-refl y) ∙ ap (λ (z : ℤ). same_word z y) (sym q)
    go (no q) = ne_eqb (of_z w32 x) (of_z w32 y) (λ e. q (sym (back x h) ∙ ap (to_z w32) e ∙ back y k)) ∙ sym (same_word-differ x y q)

-- ---- the least and the greatest word

pub below-least-word : (z : ℤ) → lt_z z (negsuc 2147483647) ≡ true → 2 ^ 31 ≤ mag z
below-least-word (pos n) e = absurd (false≢true e)
below-least-word (negsuc n) e = omega (arith, ltb-true 2147483647 n e)

pub above-greatest-word : (z : ℤ) → lt_z (pos 2147483647) z ≡ true → 2 ^ 31 ≤ mag z
above-greatest-word (pos n) e = omega (arith, ltb-true 2147483647 n e)
above-greatest-word (negsuc n) e = absurd (false≢true e)

pub between-words : (z : ℤ) → lt_z z (negsuc 2147483647) ≡ false → lt_z (pos 2147483647) z ≡ false → mag z < 2 ^ 31
between-words (pos n) e g = omega (arith, ltb-false 2147483647 n g)
between-words (negsuc n) e g = omega (arith, ltb-false 2147483647 n e)

-- ---- numbers that words name

pub natural-most : (z : ℤ) → mag z < 2 ^ 31 → natural z ≤ 2 ^ 32
unfolding natural
natural-most (pos n) h = omega arith
natural-most (negsuc n) h = omega arith

-- a number below 2 ^ 31 is named by itself only
pub natural-pos : (z : ℤ) (n : ℕ) → natural z ≡ n → n < 2 ^ 31 → z ≡ pos n
unfolding natural
natural-pos (pos m) n e h = ap pos e
natural-pos (negsuc m) n e h = absurd (omega arith)

-- ---- limits of the forms

pub leading-limits : (form : Form) → (1 ≤ leading form) × (leading form ≤ 3)
leading-limits Source = (omega arith, omega arith)
leading-limits Kernel = (omega arith, omega arith)

pub row_limit-most : (form : Form) → row_limit form ≤ 40980
row_limit-most Source = omega arith
row_limit-most Kernel = omega arith

-- ---- headers

within-each : (most : ℕ) (ns : List ℕ) → all_within most ns ≡ true → (i : ℕ) → i < length ns → (1 ≤ get_or ns i 0) × (get_or ns i 0 ≤ most)
unfolding all_within
within-each most [] e i h = absurd (omega arith)
within-each most (n ∷ ns) e zero h =
    let first = both (leb 1 n) (leb n most) (both (leb 1 n && leb n most) (all_within most ns) e).0 in
    (leb-true _ _ first.0, leb-true _ _ first.1)
within-each most (n ∷ ns) e (suc i) h = within-each most ns (both (leb 1 n && leb n most) (all_within most ns) e).1 i (omega arith)

each_within : (most : ℕ) (ns : List ℕ) → ((i : ℕ) → i < length ns → (1 ≤ get_or ns i 0) × (get_or ns i 0 ≤ most)) → all_within most ns ≡ true
unfolding all_within
each_within most [] f = refl
each_within most (n ∷ ns) f =
    let first = f zero (omega arith) in
    rw (le-leb 1 n first.0, le-leb n most first.1) (each_within most ns (λ i h. f (suc i) (omega arith)))

pub number-of-arrays : (form : Form) (header : List ℤ) → length (layout_of form header).lengths ≡ length header - leading form
unfolding layout_of
number-of-arrays form header = length-map (drop (leading form) header) natural ∙ length-drop (leading form) header

-- what a header within its limits is
pub record HeaderFits (form : Form) (header : List ℤ) : Type 0 where
  pub least : leading form ≤ length header
  pub most : length header ≤ leading form + 32
  pub few_variables : (layout_of form header).variables ≤ 256
  pub few_declared : declared_of form header ≤ 64
  pub few_temporaries : temporaries_of form header ≤ 8192
  pub few_arrays : length (layout_of form header).lengths ≤ 32
  pub each_length : (array : ℕ) → array < length (layout_of form header).lengths → (1 ≤ array_length (layout_of form header) array) × (array_length (layout_of form header) array ≤ 4096)
  pub small_store : store_size (layout_of form header) ≤ 8192

pub header_fits-facts : (form : Form) (header : List ℤ) → header_fits form header ≡ true → HeaderFits form header
unfolding header_fits array_length
header_fits-facts form header e =
    let L = layout_of form header in
    let parts = both (leb (leading form) (length header) && leb (length header) (leading form + 32)) _ e in
    let between = both (leb (leading form) (length header)) (leb (length header) (leading form + 32)) parts.0 in
    let variables = both (leb L.variables 256) _ parts.1 in
    let declared = both (leb (declared_of form header) 64) _ variables.1 in
    let temporaries = both (leb (temporaries_of form header) 8192) _ declared.1 in
    let lengths = both (all_within 4096 L.lengths) (leb (store_size L) 8192) temporaries.1 in
    let most : length header ≤ leading form + 32 = leb-true _ _ between.1 in
    record {
      least = leb-true _ _ between.0;
      most = most;
      few_variables = leb-true _ _ variables.0;
      few_declared = leb-true _ _ declared.0;
      few_temporaries = leb-true _ _ temporaries.0;
      few_arrays = omega (arith, number-of-arrays form header);
      each_length = within-each 4096 L.lengths lengths.0;
      small_store = leb-true _ _ lengths.1;
    }

pub facts-header_fits : (form : Form) (header : List ℤ) → HeaderFits form header → header_fits form header ≡ true
unfolding header_fits array_length
facts-header_fits form header f =
    rw (le-leb _ _ f.least, le-leb _ _ f.most, le-leb _ _ f.few_variables, le-leb _ _ f.few_declared, le-leb _ _ f.few_temporaries, each_within 4096 (layout_of form header).lengths f.each_length, le-leb _ _ f.small_store)

-- ---- arrays in the store

sum-take : (ns : List ℕ) (i : ℕ) → i < length ns → sum (take (suc i) ns) ≡ sum (take i ns) + get_or ns i 0
unfolding sum
sum-take [] i h = absurd (omega arith)
sum-take (n ∷ ns) zero h = omega arith
sum-take (n ∷ ns) (suc i) h = omega (arith, sum-take ns i (omega arith))

sum-most : (ns : List ℕ) (i : ℕ) → sum (take i ns) ≤ sum ns
unfolding sum
sum-most [] zero = omega arith
sum-most [] (suc i) = omega arith
sum-most (n ∷ ns) zero = omega arith
sum-most (n ∷ ns) (suc i) = omega (arith, sum-most ns i)

-- the next array begins where this one ends
pub array_base-next : (L : Layout) (array : ℕ) → array < length L.lengths → array_base L (array + 1) ≡ array_base L array + array_length L array
unfolding array_base array_length
array_base-next L array h = rw add-one (omega (arith, sum-take L.lengths array h))

pub array-in-store : (L : Layout) (array : ℕ) → array < length L.lengths → array_base L array + array_length L array ≤ store_size L
unfolding array_base array_length store_size
array-in-store L array h = omega (arith, sum-take L.lengths array h, sum-most L.lengths (suc array))

-- ---- stores of zeros

take-zeros : (n m : ℕ) → n ≤ m → take n (zeros m) ≡ zeros n
take-zeros zero m h = refl
take-zeros (suc n) zero h = absurd (omega arith)
take-zeros (suc n) (suc m) h = ap (λ l. pos 0 ∷ l) (take-zeros n m (omega arith))

-- the first part of an array of zeros, as it is lent
pub zeros-part : (n m : ℕ) → n ≤ m → take (n - 0) (zeros m) ≡ zeros n
zeros-part n m h = let e : n - 0 ≡ n = omega arith in rw e (take-zeros n m h)

-- ---- tables

-- what a number of words within its limits is
pub record CountFits (form : Form) (words : ℕ) : Type 0 where
  pub least : 6 ≤ words
  pub most : words ≤ 6 * row_limit form
  pub multiple : words % 6 ≡ 0
  pub whole : 6 * (words / 6) ≡ words

pub count_fits-facts : (form : Form) (words : ℕ) → count_fits form words ≡ true → CountFits form words
unfolding count_fits
count_fits-facts form words e =
    let parts = both (leb 6 words) _ e in
    let others = both (leb words (6 * row_limit form)) _ parts.1 in
    let multiple : words % 6 ≡ 0 = eqb-true _ _ others.1 in
    record {
      least = leb-true _ _ parts.0;
      most = leb-true _ _ others.0;
      multiple = multiple;
      whole = omega arith;
    }

pub facts-count_fits : (form : Form) (words : ℕ) → CountFits form words → count_fits form words ≡ true
unfolding count_fits
facts-count_fits form words f = rw (le-leb _ _ f.least, le-leb _ _ f.most, eq-eqb _ _ f.multiple)
