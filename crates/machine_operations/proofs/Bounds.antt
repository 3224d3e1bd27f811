-- Bounds: where an array lies, read off the list of bounds; by induction on the lengths.
use mathlib.Core.Path.{◌≡◌, refl, ap, ◌∙◌}
use mathlib.Core.List.{List, [], ◌∷◌}
use Prim.Native.Nat.{ℕ, zero, suc, ◌+◌, ◌-◌, ◌≤◌, ◌<◌}
use native.Mathlib.Omega.{arith}
use lib.IntN.{ℤ}
use lib.ListN.{length, get_or, take}
use Rattle.words.specs.Layout.{Layout, sum, store_size, array_length, array_base}
use Rattle.words.specs.Laws.{array_base-next, array-in-store}
use Rattle.language.specs.Functions.{function_count}
use Rattle.language.specs.Program.{contents}
use Rattle.machine_operations.specs.Bounds.{bounds_from, bounds_of, layout_from, array_bounds, layout_in}
use Rattle.machine_operations.specs.Ready.{Bounded, Setting}

bounds-length : (base : ℕ) (ns : List ℕ) → length (bounds_from base ns) ≡ suc (length ns)
unfolding bounds_from
bounds-length base [] = refl
bounds-length base (n ∷ ns) = ap suc (bounds-length (base + n) ns)

bounds-at : (base : ℕ) (ns : List ℕ) (i : ℕ) → i ≤ length ns → get_or (bounds_from base ns) i 0 ≡ base + sum (take i ns)
unfolding bounds_from sum
bounds-at base [] zero h = omega arith
bounds-at base [] (suc i) h = absurd (omega arith)
bounds-at base (n ∷ ns) zero h = omega arith
bounds-at base (n ∷ ns) (suc i) h = omega (arith, bounds-at (base + n) ns i (omega arith))

pub bound-is : (L : Layout) (i : ℕ) → i ≤ length L.lengths → get_or (bounds_of L) i 0 ≡ array_base L i
unfolding bounds_of array_base
bound-is L i h = bounds-at L.variables L.lengths i h

pub bounds-count : (L : Layout) → length (bounds_of L) ≡ suc (length L.lengths)
unfolding bounds_of
bounds-count L = bounds-length L.variables L.lengths

-- what the bounds say of an array
pub record Lies (L : Layout) (bounds : List ℕ) (array : ℕ) : Type 0 where
  pub base : get_or bounds array 0 ≡ array_base L array
  pub span : get_or bounds (array + 1) 0 - get_or bounds array 0 ≡ array_length L array
  pub bounded : Bounded bounds array

-- in a store of so many words, which the arrays fit
module _ (bounds : List ℕ) (words : ℕ) (are : bounds ≡ bounds_of (layout_from bounds)) (fits : store_size (layout_from bounds) ≤ words) (few : words < 65536) (array : ℕ)
    (h : array < length (layout_from bounds).lengths) where
  pub lies_in : Lies (layout_from bounds) bounds array
  lies_in =
      let L = layout_from bounds in
      let here : get_or bounds array 0 ≡ array_base L array = ap (λ (l : List ℕ). get_or l array 0) are ∙ bound-is L array (omega arith) in
      let next : get_or bounds (array + 1) 0 ≡ array_base L (array + 1) = ap (λ (l : List ℕ). get_or l (array + 1) 0) are ∙ bound-is L (array + 1) (omega arith) in
      let count : length bounds ≡ suc (length L.lengths) = ap length are ∙ bounds-count L in
      let more = array_base-next L array h in
      let inside = array-in-store L array h in
      record {
        base = here;
        span = omega arith;
        bounded = record { inside = omega arith; ordered = omega arith; small = omega arith };
      }

-- the first words of a list
taken_word : (l : List ℕ) (n i : ℕ) → i < length (take n l) → get_or l i 0 ≡ get_or (take n l) i 0
taken_word [] zero i h = refl
taken_word [] (suc n) i h = refl
taken_word (x ∷ l) zero i h = absurd (omega arith)
taken_word (x ∷ l) (suc n) zero h = refl
taken_word (x ∷ l) (suc n) (suc i) h = taken_word l n i (omega arith)

-- so what the first words of a longer list say, it says
lies-longer : (L : Layout) (list : List ℕ) (n array : ℕ) → Lies L (take n list) array → Lies L list array
lies-longer L list n array l =
    let inside = l.bounded.inside in
    let here = taken_word list n array (omega arith) in
    let next = taken_word list n (array + 1) (omega arith) in
    let fewer = take-most list n in
    record {
      base = here ∙ l.base;
      span = omega (arith, l.span);
      bounded = record { inside = omega arith; ordered = omega (arith, l.bounded.ordered); small = omega (arith, l.bounded.small) };
    }
  where
    take-most : (l : List ℕ) (n : ℕ) → length (take n l) ≤ length l
    take-most [] zero = omega arith
    take-most [] (suc n) = omega arith
    take-most (x ∷ l) zero = omega arith
    take-most (x ∷ l) (suc n) = let less = take-most l n in omega arith

module _ {rows : List ℤ} {bounds : List ℕ} {words : ℕ} (setting : Setting rows bounds words) (array : ℕ) (h : array < length (layout_in rows bounds).lengths) where
  pub lies : Lies (layout_in rows bounds) bounds array
  unfolding layout_in
  lies =
      lies-longer (layout_in rows bounds) bounds (length bounds - function_count (contents rows)) array
      (lies_in (array_bounds (function_count (contents rows)) bounds) words setting.bounds_are setting.sound.store_fits setting.few_words array h)
