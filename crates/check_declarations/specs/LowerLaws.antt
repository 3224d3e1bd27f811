-- Laws of the lower row: a search for either of two properties finds the lower of what the two searches find.
use Rattle.std.specs.Prelude.{◌≡◌, refl, Bool, true, false, ◌||◌, List, ℕ, zero, suc, ◌+◌, ◌≤◌, min, ℤ, None, Option, Some}
use Rattle.std.proofs.Common.{sym, ap, ◌∙◌, arith}
use Rattle.words.specs.Word.{pick}
use Rattle.words.specs.Table.{row_count}
use Rattle.words.specs.Search.{lowest, lowest_row}
use Rattle.check_declarations.specs.Lower.{lower}

-- A row that was found is not below this one.
abbrev NotBelow : ℕ → Option ℕ → Type 0
NotBelow row None = Unit {0}
NotBelow row (Some found) = row ≤ found

not-below : (p : ℕ → Bool) (d j row : ℕ) → row ≤ j → NotBelow row (lowest p j d)
unfolding lowest
not-below p zero j row h = tt
not-below p (suc d) j row h = go (p j) (not-below p d (j + 1) row (omega arith))
  where
    go : (b : Bool) → NotBelow row (lowest p (j + 1) d) → NotBelow row (pick b (Some j) (lowest p (j + 1) d))
    go true rest = h
    go false rest = rest

lower-left : (row : ℕ) (found : Option ℕ) → NotBelow row found → lower (Some row) found ≡ Some row
unfolding lower
lower-left row None h = refl
lower-left row (Some found) h = let z : min row found ≡ row = omega arith in ap Some z

lower-right : (row : ℕ) (found : Option ℕ) → NotBelow row found → lower found (Some row) ≡ Some row
unfolding lower
lower-right row None h = refl
lower-right row (Some found) h = let z : min found row ≡ row = omega arith in ap Some z

lowest-either : (p q : ℕ → Bool) (d j : ℕ) → lowest (λ (i : ℕ). p i || q i) j d ≡ lower (lowest p j d) (lowest q j d)
unfolding lowest lower
lowest-either p q zero j = refl
lowest-either p q (suc d) j = go (p j) (q j) (lowest-either p q d (j + 1))
  where
    go : (a b : Bool) → lowest (λ (i : ℕ). p i || q i) (j + 1) d ≡ lower (lowest p (j + 1) d) (lowest q (j + 1) d)
        → pick (a || b) (Some j) (lowest (λ (i : ℕ). p i || q i) (j + 1) d) ≡ lower (pick a (Some j) (lowest p (j + 1) d)) (pick b (Some j) (lowest q (j + 1) d))
    go true true rest = sym (lower-left j (Some j) (omega arith))
    go true false rest = sym (lower-left j (lowest q (j + 1) d) (not-below q d (j + 1) j (omega arith)))
    go false true rest = sym (lower-right j (lowest p (j + 1) d) (not-below p d (j + 1) j (omega arith)))
    go false false rest = rest

pub lowest_row-either : (rows : List ℤ) (p q : ℕ → Bool) → lowest_row rows (λ (row : ℕ). p row || q row) ≡ lower (lowest_row rows p) (lowest_row rows q)
unfolding lowest_row
lowest_row-either rows p q = lowest-either p q (row_count rows) 0
