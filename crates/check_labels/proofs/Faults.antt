-- The rows that break cause 13: what a goto or a label comes to, and the lowest of them so far.
use Rattle.std.specs.Prelude.{None, Some}
use mathlib.Core.Path.{◌≡◌, subst, refl, sym, ap, ◌∙◌}
use mathlib.Core.Bool.{Bool, true, false, not, ◌&&◌, ◌||◌, or-false, true≢false, false≢true}
use mathlib.Core.List.{List}
use Prim.Native.Nat.{ℕ, zero, suc, ◌+◌, ◌-◌, ◌≤◌, ◌<◌}
use native.Mathlib.Nat.{add-zero, add-suc}
use native.Mathlib.Numerals.{add-one}
use native.Mathlib.Omega.{arith}
use native.Mathlib.Decide.{ℕ_discrete, dec_lt}
use lib.Arith.{lt_of_le-ne}
use lib.Dec.{ltb, leb, eqb}
use lib.IntN.{ℤ}
use borrow.Author.Tests.{eqb-true, ltb-true, ltb-false, leb-true}
use Rattle.words.specs.Word.{pick}
use Rattle.words.specs.Table.{row_count, number_at}
use Rattle.words.specs.Kinds.{between}
use Rattle.words.specs.Search.{some, lowest_row}
use Rattle.words.specs.SearchLaws.{lowest-at, all-lowest_row}
use Rattle.check_labels.specs.Labels.{is_label, repeated_label, label_ahead, goto_without_label, label_fault}
use Rattle.check_labels.proofs.LabelLaws.{test-label}
use Rattle.check_labels.specs.Passes.{Jump, NextJump, LabelNumbers, LowestAmong, NumberBelow, Passed, smaller, earlier, lower}
use Rattle.check_labels.proofs.Marking.{label-jump, refuted}

-- ---- a search, one row more

some-snoc : (p : ℕ → Bool) (d j : ℕ) → some p j (suc d) ≡ pick (some p j d) true (p (j + d))
unfolding some
some-snoc p zero j = rw add-zero (go (p j))
  where
    go : (b : Bool) → pick b true false ≡ b
    go true = refl
    go false = refl
some-snoc p (suc d) j = let z : j + 1 + d ≡ j + suc d = omega arith in go (p j) (rw z at (some-snoc p d (j + 1)))
  where
    go : (b : Bool) → some p (j + 1) (suc d) ≡ pick (some p (j + 1) d) true (p (j + suc d))
        → pick b true (some p (j + 1) (suc d)) ≡ pick (pick b true (some p (j + 1) d)) true (p (j + suc d))
    go true e = refl
    go false e = e

pub some_more : (p : ℕ → Bool) (row : ℕ) → some p 0 (row + 1) ≡ pick (some p 0 row) true (p row)
some_more p row = let z : 0 + row ≡ row = omega arith in rw add-one (rw z at (some-snoc p row 0))

some-stretch : (p : ℕ → Bool) (from more : ℕ) → ((i : ℕ) → from ≤ i → i < from + more → p i ≡ false) → some p 0 (from + more) ≡ some p 0 from
some-stretch p from zero h = rw add-zero
some-stretch p from (suc more) h =
    let z : 0 + (from + more) ≡ from + more = omega arith in
    rw (add-suc, some-snoc p (from + more) 0, z, h (from + more) (omega arith) (omega arith), some-stretch p from more (λ i a b. h i a (omega arith))) (go (some p 0 from))
  where
    go : (b : Bool) → pick b true false ≡ b
    go true = refl
    go false = refl

-- rows between an item of the chain and the next are no labels with the number
pub seen_skip : (rows : List ℤ) (number from next : ℕ) → NextJump rows number from next → next ≤ row_count rows → some (is_label rows number) 0 next ≡ some (is_label rows number) 0 from
seen_skip rows number from next j n =
    let least = j.least in
    let z : from + (next - from) ≡ next = omega arith in
    rw z at (some-stretch (is_label rows number) from (next - from)
    (λ i a b. refuted _ (λ e. j.none_before i a (omega arith) (label-jump rows number i (omega arith) (test-label rows number i e)))))

-- ---- what a goto or a label comes to

module _ (rows : List ℤ) (number row : ℕ) (j : Jump rows number row) where
  pub fault-label : number_at rows row 0 ≡ 53 → some (is_label rows number) 0 row ≡ label_fault rows row
  unfolding label_fault repeated_label goto_without_label
  fault-label k = rw (k, j.number_is) (sym (or-false _))

  goto-kind : (number_at rows row 0 ≡ 53 → ⊥) → number_at rows row 0 ≡ 52
  goto-kind n = go (leb 52 (number_at rows row 0)) (leb (number_at rows row 0) 53) refl refl j.jump
    where
      go : (a b : Bool) → leb 52 (number_at rows row 0) ≡ a → leb (number_at rows row 0) 53 ≡ b → (a && b) ≡ true → number_at rows row 0 ≡ 52
      go true true p q e =
          let least : 52 ≤ number_at rows row 0 = leb-true _ _ p in
          let most : number_at rows row 0 < 53 = lt_of_le-ne (leb-true _ _ q) n in
          omega arith
      go true false p q e = absurd (false≢true e)
      go false b p q e = absurd (false≢true e)

  pub fault-goto : (number_at rows row 0 ≡ 53 → ⊥) → not (label_ahead row rows number row) ≡ label_fault rows row
  unfolding label_fault repeated_label goto_without_label
  fault-goto n = rw (goto-kind n, j.number_is)

-- only gotos and labels break the cause
pub fault-jump : (rows : List ℤ) (row : ℕ) → row < row_count rows → label_fault rows row ≡ true → Jump rows (number_at rows row 1) row
unfolding label_fault repeated_label goto_without_label
fault-jump rows row n e = go (eqb (number_at rows row 0) 53) (eqb (number_at rows row 0) 52) refl refl e
  where
    by : (kind : ℕ) → number_at rows row 0 ≡ kind → between 52 53 kind ≡ true → Jump rows (number_at rows row 1) row
    by kind k b = record { inside = n; jump = rw k b; number_is = refl }

    go : (a b : Bool) → eqb (number_at rows row 0) 53 ≡ a → eqb (number_at rows row 0) 52 ≡ b
        → ((a && some (is_label rows (number_at rows row 1)) 0 row) || (b && not (label_ahead row rows (number_at rows row 1) row))) ≡ true → Jump rows (number_at rows row 1) row
    go true b p q e = by 53 (eqb-true _ _ p) refl
    go false true p q e = by 52 (eqb-true _ _ q) refl
    go false false p q e = absurd (false≢true e)

-- ---- the lowest so far

module _ (rows : List ℤ) (number found : ℕ) where
  -- before the chain begins, and between an item of it and the next
  pub lowest_start : LowestAmong rows (NumberBelow rows number) (label_fault rows) found → LowestAmong rows (Passed rows number 0) (label_fault rows) found
  lowest_start l = record { most = l.most; least = λ row n p e. go row n p e; is = l.is }
    where
      go : (row : ℕ) → row < row_count rows → Passed rows number 0 row → label_fault rows row ≡ true → found ≤ row
      go row n (smaller b) e = l.least row n b e
      go row n (earlier b c) e = absurd (omega arith)

  pub lowest-skip : (from next : ℕ) → NextJump rows number from next → LowestAmong rows (Passed rows number from) (label_fault rows) found → LowestAmong rows (Passed rows number next) (label_fault rows) found
  lowest-skip from next j l = record { most = l.most; least = λ row n p e. go row n p e (dec_lt row from); is = l.is }
    where
      go : (row : ℕ) → row < row_count rows → Passed rows number next row → label_fault rows row ≡ true → Dec (row < from) → found ≤ row
      go row n (smaller b) e d = l.least row n (smaller b) e
      go row n (earlier b c) e (yes d) = l.least row n (earlier b d) e
      go row n (earlier b c) e (no d) = absurd (j.none_before row (omega (arith, d)) c (subst (λ (x : ℕ). Jump rows x row) b (fault-jump rows row n e)))

  pub lowest-end : (upto : ℕ) → row_count rows ≤ upto → LowestAmong rows (Passed rows number upto) (label_fault rows) found → LowestAmong rows (NumberBelow rows (number + 1)) (label_fault rows) found
  lowest-end upto b l = record { most = l.most; least = λ row n p e. go row n p e (ℕ_discrete (number_at rows row 1) number); is = l.is }
    where
      go : (row : ℕ) → row < row_count rows → number_at rows row 1 < number + 1 → label_fault rows row ≡ true → Dec (number_at rows row 1 ≡ number) → found ≤ row
      go row n p e (yes q) = l.least row n (earlier q (omega arith)) e
      go row n p e (no q) = l.least row n (smaller (lt_of_le-ne (omega arith) q)) e

  -- one row more: where it breaks the cause, it counts if it is lower than what was found
  passed : (row other : ℕ) → Passed rows number (row + 1) other → (other ≡ row → ⊥) → Passed rows number row other
  passed row other (smaller b) q = smaller b
  passed row other (earlier b c) q = earlier b (lt_of_le-ne (omega arith) q)

  pub lowest-row : (row : ℕ) (test : Bool) → row < row_count rows → test ≡ label_fault rows row → LowestAmong rows (Passed rows number row) (label_fault rows) found
      → LowestAmong rows (Passed rows number (row + 1)) (label_fault rows) (lower test row found)
  unfolding lower
  lowest-row row true n t l = go (ltb row found) refl
    where
      by : (b : Bool) → ltb row found ≡ b → (other : ℕ) → other < row_count rows → Passed rows number (row + 1) other → label_fault rows other ≡ true → Dec (other ≡ row) → pick b row found ≤ other
      by true h other m p e (yes q) = omega arith
      by true h other m p e (no q) = let low = l.least other m (passed row other p q) e in let below : row < found = ltb-true _ _ h in omega arith
      by false h other m p e (yes q) = let high : found ≤ row = ltb-false _ _ h in omega arith
      by false h other m p e (no q) = l.least other m (passed row other p q) e

      go : (b : Bool) → ltb row found ≡ b → LowestAmong rows (Passed rows number (row + 1)) (label_fault rows) (pick b row found)
      go true h = record { most = omega arith; least = λ other m p e. by true h other m p e (ℕ_discrete other row); is = λ m. sym t }
      go false h = record { most = l.most; least = λ other m p e. by false h other m p e (ℕ_discrete other row); is = l.is }
  lowest-row row false n t l = record { most = l.most; least = λ other m p e. by other m p e (ℕ_discrete other row); is = l.is }
    where
      by : (other : ℕ) → other < row_count rows → Passed rows number (row + 1) other → label_fault rows other ≡ true → Dec (other ≡ row) → found ≤ other
      by other m p e (yes q) = absurd (true≢false (sym e ∙ ap (label_fault rows) q ∙ sym t))
      by other m p e (no q) = l.least other m (passed row other p q) e

-- ---- all numbers

pub lowest-none : (rows : List ℤ) → LowestAmong rows (NumberBelow rows 0) (label_fault rows) (row_count rows)
lowest-none rows = record { most = omega arith; least = λ row n p e. absurd (omega arith); is = λ n. absurd (omega arith) }

module _ (rows : List ℤ) (found : ℕ) (numbers : LabelNumbers rows) (l : LowestAmong rows (NumberBelow rows 40980) (label_fault rows) found) where
  low : (row : ℕ) → row < row_count rows → label_fault rows row ≡ true → found ≤ row
  low row n e = let j = fault-jump rows row n e in l.least row n (numbers row n j.jump) e

  pub lowest-found : found < row_count rows → Some found ≡ lowest_row rows (label_fault rows)
  unfolding lowest_row
  lowest-found n =
      sym (lowest-at (label_fault rows) found (row_count rows) 0 (omega arith) (omega arith) (l.is n)
      (λ row a b. refuted _ (λ e. let h = low row (omega arith) e in omega arith)))

  pub lowest-nothing : row_count rows ≤ found → None ≡ lowest_row rows (label_fault rows)
  lowest-nothing h = sym (all-lowest_row rows (label_fault rows) (λ row n. refuted _ (λ e. let k = low row n e in omega arith)))
