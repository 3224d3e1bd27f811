-- Laws of searches: what a search finds; and what a loop that searches upward may say at each turn.
use Rattle.std.specs.Prelude.{◌≡◌, refl, Bool, false, List, ℤ, None, Option, Some}
use Rattle.std.proofs.Common.{subst, sym, ap, ◌∙◌, true≢false}
use Rattle.std.proofs.Math.Bool.{true}
use Prim.Native.Nat.{ℕ, zero, suc, ◌+◌, ◌-◌, ◌≤◌, ◌<◌}
use native.Mathlib.Omega.{arith}
use Rattle.std.proofs.Math.Decide.{ℕ_discrete}
use Rattle.std.proofs.Math.Arith.{lt_of_le-ne}
use Rattle.words.specs.Word.{pick}
use Rattle.words.specs.Table.{row_count}
use Rattle.words.specs.Search.{lowest, some, lowest_row, some_field}

pub not_found : {A : Type 0} (j : ℕ) → Some j ≡ None → A
not_found j e = absurd (let z : ◌≡◌ {A = ℕ} 0 1 = cc in omega arith)

-- what holds of j, and of each number above it, holds from j on
pub from_on : (P : ℕ → Type 0) (i j : ℕ) → j ≤ i → P j → (j + 1 ≤ i → P i) → P i
from_on P i j h here above = go (ℕ_discrete i j)
  where
    go : Dec (i ≡ j) → P i
    go (yes q) = subst P (sym q) here
    go (no q) = above (let k = lt_of_le-ne h (λ (x : j ≡ i). q (sym x)) in omega arith)

-- ---- one turn

module _ (p : ℕ → Bool) (j d : ℕ) where
  pub lowest-here : 0 < d → p j ≡ true → lowest p j d ≡ Some j
  unfolding lowest
  lowest-here h e = go d h
    where
      go : (d : ℕ) → 0 < d → lowest p j d ≡ Some j
      go zero h = absurd (omega arith)
      go (suc d) h = rw e

  pub lowest-next : 0 < d → p j ≡ false → lowest p j d ≡ lowest p (j + 1) (d - 1)
  unfolding lowest
  lowest-next h e = go d h
    where
      go : (d : ℕ) → 0 < d → lowest p j d ≡ lowest p (j + 1) (d - 1)
      go zero h = absurd (omega arith)
      go (suc d) h = let z : suc d - 1 ≡ d = omega arith in rw (e, z)

  pub lowest-none : d ≡ 0 → lowest p j d ≡ None
  unfolding lowest
  lowest-none h = rw h

  pub some-here : 0 < d → p j ≡ true → some p j d ≡ true
  unfolding some
  some-here h e = go d h
    where
      go : (d : ℕ) → 0 < d → some p j d ≡ true
      go zero h = absurd (omega arith)
      go (suc d) h = rw e

  pub some_next : 0 < d → p j ≡ false → some p j d ≡ some p (j + 1) (d - 1)
  unfolding some
  some_next h e = go d h
    where
      go : (d : ℕ) → 0 < d → some p j d ≡ some p (j + 1) (d - 1)
      go zero h = absurd (omega arith)
      go (suc d) h = let z : suc d - 1 ≡ d = omega arith in rw (e, z)

  pub some-none : d ≡ 0 → some p j d ≡ false
  unfolding some
  some-none h = rw h

-- ---- a loop that searches upward from 0: what its invariant says at j, and how it goes on or ends

abbrev pub Looked : (ℕ → Bool) → ℕ → ℕ → Type 0
Looked p k j = lowest p 0 k ≡ lowest p j (k - j)

pub looked-start : (p : ℕ → Bool) (k : ℕ) → Looked p k 0
looked-start p k = let z : k ≡ k - 0 = omega arith in ap (lowest p 0) z

pub looked-on : (p : ℕ → Bool) (k j : ℕ) (b : Bool) → j < k → Looked p k j → b ≡ p j → b ≡ false → Looked p k (j + 1)
looked-on p k j b h l e f =
    let z : k - j - 1 ≡ k - (j + 1) = omega arith in
    l ∙ lowest-next p j (k - j) (omega arith) (sym e ∙ f) ∙ ap (lowest p (j + 1)) z

pub looked-hit : (p : ℕ → Bool) (k j : ℕ) (b : Bool) → j < k → Looked p k j → b ≡ p j → b ≡ true → Some j ≡ lowest p 0 k
looked-hit p k j b h l e f = sym (l ∙ lowest-here p j (k - j) (omega arith) (sym e ∙ f))

pub looked-end : (p : ℕ → Bool) (k j : ℕ) → k ≤ j → Looked p k j → None ≡ lowest p 0 k
looked-end p k j h l = sym (l ∙ lowest-none p j (k - j) (omega arith))

abbrev pub Tried : (ℕ → Bool) → ℕ → ℕ → Type 0
Tried p k j = some p 0 k ≡ some p j (k - j)

pub tried-start : (p : ℕ → Bool) (k : ℕ) → Tried p k 0
tried-start p k = let z : k ≡ k - 0 = omega arith in ap (some p 0) z

pub tried-on : (p : ℕ → Bool) (k j : ℕ) (b : Bool) → j < k → Tried p k j → b ≡ p j → b ≡ false → Tried p k (j + 1)
tried-on p k j b h l e f =
    let z : k - j - 1 ≡ k - (j + 1) = omega arith in
    l ∙ some_next p j (k - j) (omega arith) (sym e ∙ f) ∙ ap (some p (j + 1)) z

pub tried-hit : (p : ℕ → Bool) (k j : ℕ) (b : Bool) → j < k → Tried p k j → b ≡ p j → b ≡ true → true ≡ some p 0 k
tried-hit p k j b h l e f = sym (l ∙ some-here p j (k - j) (omega arith) (sym e ∙ f))

pub tried-end : (p : ℕ → Bool) (k j : ℕ) → k ≤ j → Tried p k j → false ≡ some p 0 k
tried-end p k j h l = sym (l ∙ some-none p j (k - j) (omega arith))

-- ---- a search finds nothing exactly where nothing has the property

none_here : (b : Bool) (j : ℕ) (r : Option ℕ) → pick b (Some j) r ≡ None → (b ≡ false) × (r ≡ None)
none_here true j r e = not_found j e
none_here false j r e = (refl, e)

false-here : (b r : Bool) → pick b true r ≡ false → (b ≡ false) × (r ≡ false)
false-here true r e = absurd (true≢false e)
false-here false r e = (refl, e)

pub lowest-all : (p : ℕ → Bool) (d j : ℕ) → lowest p j d ≡ None → (i : ℕ) → j ≤ i → i < j + d → p i ≡ false
unfolding lowest
lowest-all p zero j e i h k = absurd (omega arith)
lowest-all p (suc d) j e i h k =
    let split = none_here (p j) j (lowest p (j + 1) d) e in
    from_on (λ (x : ℕ). p x ≡ false) i j h split.0 (λ l. lowest-all p d (j + 1) split.1 i l (omega arith))

pub all-lowest : (p : ℕ → Bool) (d j : ℕ) → ((i : ℕ) → j ≤ i → i < j + d → p i ≡ false) → lowest p j d ≡ None
unfolding lowest
all-lowest p zero j h = refl
all-lowest p (suc d) j h = rw (h j (omega arith) (omega arith)) (all-lowest p d (j + 1) (λ i a b. h i (omega arith) (omega arith)))

pub some-all : (p : ℕ → Bool) (d j : ℕ) → some p j d ≡ false → (i : ℕ) → j ≤ i → i < j + d → p i ≡ false
unfolding some
some-all p zero j e i h k = absurd (omega arith)
some-all p (suc d) j e i h k =
    let split = false-here (p j) (some p (j + 1) d) e in
    from_on (λ (x : ℕ). p x ≡ false) i j h split.0 (λ l. some-all p d (j + 1) split.1 i l (omega arith))

pub all-some : (p : ℕ → Bool) (d j : ℕ) → ((i : ℕ) → j ≤ i → i < j + d → p i ≡ false) → some p j d ≡ false
unfolding some
all-some p zero j h = refl
all-some p (suc d) j h = rw (h j (omega arith) (omega arith)) (all-some p d (j + 1) (λ i a b. h i (omega arith) (omega arith)))

-- the same for rows, and for the fields of a row
pub lowest_row-all : (rows : List ℤ) (p : ℕ → Bool) → lowest_row rows p ≡ None → (row : ℕ) → row < row_count rows → p row ≡ false
unfolding lowest_row
lowest_row-all rows p e row h = lowest-all p (row_count rows) 0 e row (omega arith) (omega arith)

pub all-lowest_row : (rows : List ℤ) (p : ℕ → Bool) → ((row : ℕ) → row < row_count rows → p row ≡ false) → lowest_row rows p ≡ None
unfolding lowest_row
all-lowest_row rows p h = all-lowest p (row_count rows) 0 (λ i a b. h i (omega arith))

pub some_field-all : (p : ℕ → Bool) → some_field p ≡ false → (field : ℕ) → field < 6 → p field ≡ false
unfolding some_field
some_field-all p e field h = some-all p 6 0 e field (omega arith) h

pub all-some_field : (p : ℕ → Bool) → ((field : ℕ) → field < 6 → p field ≡ false) → some_field p ≡ false
unfolding some_field
all-some_field p h = all-some p 6 0 (λ i a b. h i b)

-- ---- what a search finds

-- the number that has the property, while none before it has
pub lowest-at : (p : ℕ → Bool) (i d j : ℕ) → j ≤ i → i < j + d → p i ≡ true → ((k : ℕ) → j ≤ k → k < i → p k ≡ false) → lowest p j d ≡ Some i
unfolding lowest
lowest-at p i zero j h k e f = absurd (omega arith)
lowest-at p i (suc d) j h k e f =
    from_on (λ (x : ℕ). x ≡ i → pick (p j) (Some j) (lowest p (j + 1) d) ≡ Some i) i j h
    (λ q. rw (q, e)) (λ l q. rw (f j (omega arith) (omega arith)) (lowest-at p i d (j + 1) l (omega arith) e (λ k a b. f k (omega arith) b))) refl

-- where it finds one, it lies in the range
pub lowest-below : (p : ℕ → Bool) (i d j : ℕ) → lowest p j d ≡ Some i → i < j + d
unfolding lowest
lowest-below p i zero j e = not_found i (sym e)
lowest-below p i (suc d) j e = go (p j) e (lowest-below p i d (j + 1))
  where
    go : (b : Bool) → pick b (Some j) (lowest p (j + 1) d) ≡ Some i → (lowest p (j + 1) d ≡ Some i → i < j + 1 + d) → i < j + suc d
    go true e rest = let same : j ≡ i = cc in omega arith
    go false e rest = let l = rest e in omega arith

-- two properties that agree find the same
pub lowest-same : (p q : ℕ → Bool) (d j : ℕ) → ((i : ℕ) → i < j + d → p i ≡ q i) → lowest p j d ≡ lowest q j d
unfolding lowest
lowest-same p q zero j h = refl
lowest-same p q (suc d) j h = rw (h j (omega arith), lowest-same p q d (j + 1) (λ i k. h i (omega arith)))

pub lowest_row-same : (rows : List ℤ) (p q : ℕ → Bool) → ((row : ℕ) → row < row_count rows → p row ≡ q row) → lowest_row rows p ≡ lowest_row rows q
unfolding lowest_row
lowest_row-same rows p q h = lowest-same p q (row_count rows) 0 (λ i k. h i (omega arith))
