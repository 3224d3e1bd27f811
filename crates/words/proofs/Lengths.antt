-- Headers and their array lengths as the code sums and tests them, one after the other. Assumes nothing.
use mathlib.Core.Path.{◌≡◌, sym, ap, ◌∙◌}
use mathlib.Core.Bool.{true, false, ◌&&◌}
use mathlib.Core.List.{List, [], ◌∷◌, map}
use Prim.Native.Nat.{ℕ, ◌+◌, ◌-◌, ◌^◌, ◌≤◌, ◌<◌}
use native.Mathlib.Numerals.{add-one}
use native.Mathlib.Omega.{arith}
use lib.Dec.{leb}
use lib.IntN.{ℤ, pos}
use lib.Signed.{mag}
use lib.ListN.{length, get_or, take, drop, length-drop, drop_of_length-le}
use lib.Seq.{drop-cons, take_all}
use borrow.Author.Tests.{le-leb, lt-leb}
use Rattle.words.specs.Word.{natural}
use Rattle.words.specs.Layout.{leading, layout_of, sum, store_size, all_within}
use Rattle.words.specs.declared.Form.{Form}
use Rattle.words.proofs.Signed.{again, natural-again}

-- the array lengths from the word `i` on
abbrev pub rest : List ℤ → ℕ → List ℕ
rest words i = map natural (drop i words)

rest-cons : (words : List ℤ) (i : ℕ) → i < length words → rest words i ≡ natural (get_or words i (pos 0)) ∷ rest words (i + 1)
rest-cons words i h = rw add-one (ap (map natural) (drop-cons words i (pos 0) h))

-- a length as the code reads it: the number `n` of the word `i`
pub record Read (words : List ℤ) (i n : ℕ) : Type 0 where
  pub below : i < length words
  pub word : mag (get_or words i (pos 0)) < 2 ^ 31
  pub is : n ≡ natural (again (get_or words i (pos 0)))

module _ {words : List ℤ} {i n : ℕ} (r : Read words i n) where
  read-cons : rest words i ≡ n ∷ rest words (i + 1)
  read-cons =
      rest-cons words i r.below
      ∙ ap (λ (m : ℕ). m ∷ rest words (i + 1)) (sym (natural-again (get_or words i (pos 0)) n r.word r.is))

  pub sum-rest : sum (rest words i) ≡ n + sum (rest words (i + 1))
  unfolding sum
  sum-rest = ap sum read-cons

  within-rest : all_within 4096 (rest words i) ≡ ((leb 1 n && leb n 4096) && all_within 4096 (rest words (i + 1)))
  unfolding all_within
  within-rest = ap (all_within 4096) read-cons

  pub length_none : n < 1 → all_within 4096 (rest words i) ≡ false
  length_none l = rw (within-rest, lt-leb _ _ l)

  pub length_over : 1 ≤ n → 4096 < n → all_within 4096 (rest words i) ≡ false
  length_over l m = rw (within-rest, le-leb _ _ l, lt-leb _ _ m)

  pub length-within : 1 ≤ n → n ≤ 4096 → all_within 4096 (rest words i) ≡ all_within 4096 (rest words (i + 1))
  length-within l m = rw (within-rest, le-leb _ _ l, le-leb _ _ m)

-- past the last length
module _ (words : List ℤ) (i : ℕ) (h : length words ≤ i) where
  none : rest words i ≡ []
  none = ap (map natural) (drop_of_length-le words h)

  pub sum-end : sum (rest words i) ≡ 0
  unfolding sum
  sum-end = ap sum none

  pub within_end : all_within 4096 (rest words i) ≡ true
  unfolding all_within
  within_end = ap (all_within 4096) none

-- a part that runs to the end, as the code lends it
pub part : (words : List ℤ) (first : ℕ) → take (length words - first) (drop first words) ≡ drop first words
part words first = take_all (length words - first) (drop first words) (omega (arith, length-drop first words))

-- the code's sum is the store's size
pub size_is : (form : Form) (header : List ℤ) (first : ℕ) → first ≡ leading form
    → natural (get_or header 0 (pos 0)) + sum (map natural (take (length header - first) (drop first header))) ≡ store_size (layout_of form header)
unfolding store_size layout_of
size_is form header first e = rw (part header first, e)
