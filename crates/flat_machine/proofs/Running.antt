-- Running: the run of lines, one line at a time: what the loop's invariant says, and how it goes on or ends.
use Rattle.std.specs.Prelude.{Err, Ok, Result}
use mathlib.Core.Path.{◌≡◌, refl, sym, ap, ◌∙◌}
use mathlib.Core.List.{List}
use Prim.Native.Nat.{ℕ, zero, suc, ◌+◌, ◌-◌, ◌≤◌, ◌<◌}
use native.Mathlib.Omega.{arith}
use lib.IntN.{ℤ}
use Rattle.words.specs.Layout.{Layout}
use Rattle.words.specs.declared.FaultSort.{FaultSort}
use Rattle.words.specs.declared.Ending.TheVariants.{Plain, Spent, Fault}
use Rattle.language.specs.Program.{Finished}
use Rattle.flat.specs.Lines.{FlatLine, does, jump, jump_zero, jump_other, abort, Next, goes, faults, ends, onward, effect, next_of, next_at, stop, follow, run_from}
use Rattle.flat.specs.Words.{line_count, line_at, lines_from, lines_of}
use Rattle.flat_steps.specs.Steps.{Makes}

module _ (L : Layout) (list : List ℤ) where
  next-from : (i n k j : ℕ) (s : List ℤ) → k < n → next_at L (lines_from list i n) k j s ≡ next_of L (line_at list (i + k)) j s
  unfolding lines_from
  next-from i zero k j s h = absurd (omega arith)
  next-from i (suc n) zero j s h = let e : i ≡ i + zero = omega arith in ap (λ (x : ℕ). next_of L (line_at list x) j s) e
  next-from i (suc n) (suc k) j s h = let e : suc i + k ≡ i + suc k = omega arith in next-from (suc i) n k j s (omega arith) ∙ ap (λ (x : ℕ). next_of L (line_at list x) j s) e

  end-from : (i n k j : ℕ) (s : List ℤ) → n ≤ k → next_at L (lines_from list i n) k j s ≡ ends
  unfolding lines_from
  end-from i zero k j s h = refl
  end-from i (suc n) zero j s h = absurd (omega arith)
  end-from i (suc n) (suc k) j s h = end-from (suc i) n k j s (omega arith)

  next-line : (line : ℕ) (s : List ℤ) → line < line_count list → next_at L (lines_of list) line line s ≡ next_of L (line_at list line) line s
  unfolding lines_of
  next-line line s h = let e : 0 + line ≡ line = omega arith in next-from 0 (line_count list) line line s h ∙ ap (λ (x : ℕ). next_of L (line_at list x) line s) e

  next-end : (line : ℕ) (s : List ℤ) → line_count list ≤ line → next_at L (lines_of list) line line s ≡ ends
  unfolding lines_of
  next-end line s h = end-from 0 (line_count list) line line s h

  -- a line is never the end
  onward_stops : (count i : ℕ) (s : List ℤ) (o : Result (List ℤ) FaultSort) → stop count s (onward i o) ≡ record { ending = Spent; count = count; store = s }
  onward_stops count i s (Ok t) = refl
  onward_stops count i s (Err sort) = refl

  line-stops : (count i : ℕ) (s : List ℤ) (x : FlatLine) → stop count s (next_of L x i s) ≡ record { ending = Spent; count = count; store = s }
  line-stops count i s (does o) = onward_stops count i s (effect L o s)
  line-stops count i s (jump j) = refl
  line-stops count i s (jump_zero a j) = refl
  line-stops count i s (jump_other a j) = refl
  line-stops count i s abort = refl

  -- The loop stands at a line with so many left: from there the run gives the whole run.
  pub record Runs (budget left line : ℕ) (s : List ℤ) (whole : Finished) : Type 0 where
    pub most : left ≤ budget
    pub same : run_from L (lines_of list) left (budget - left) line s ≡ whole

  module _ {budget left line : ℕ} {s : List ℤ} {whole : Finished} (r : Runs budget left line s whole) where
    -- the end
    pub runs-end : line_count list ≤ line → record { ending = Plain; count = budget - left; store = s } ≡ whole
    runs-end h = sym (by left) ∙ r.same
      where
        by : (n : ℕ) → run_from L (lines_of list) n (budget - left) line s ≡ record { ending = Plain; count = budget - left; store = s }
        by zero = ap (stop (budget - left) s) (next-end line s h)
        by (suc n) = ap (follow (λ j t. run_from L (lines_of list) n (suc (budget - left)) j t) (budget - left) s) (next-end line s h)

    -- no line is left in the budget
    pub runs-spent : line < line_count list → left ≡ 0 → record { ending = Spent; count = budget; store = s } ≡ whole
    runs-spent h e =
        let count : budget - left ≡ budget = omega arith in
        sym (line-stops budget line s (line_at list line)) ∙ ap (stop budget s) (sym (next-line line s h)) ∙ ap (λ (k : ℕ). run_from L (lines_of list) zero k line s) (sym count)
        ∙ ap (λ (n : ℕ). run_from L (lines_of list) n (budget - left) line s) (sym e) ∙ r.same

    module _ (h : line < line_count list) (some : 0 < left) where
      next-step : follow (λ j t. run_from L (lines_of list) (left - 1) (budget - (left - 1)) j t) (budget - left) s (next_of L (line_at list line) line s) ≡ whole
      next-step =
          let one : suc (left - 1) ≡ left = omega arith in
          let count : suc (budget - left) ≡ budget - (left - 1) = omega (arith, r.most) in
          ap (λ (k : ℕ). follow (λ j t. run_from L (lines_of list) (left - 1) k j t) (budget - left) s (next_of L (line_at list line) line s)) (sym count)
          ∙ ap (follow (λ j t. run_from L (lines_of list) (left - 1) (suc (budget - left)) j t) (budget - left) s) (sym (next-line line s h))
          ∙ ap (λ (n : ℕ). run_from L (lines_of list) n (budget - left) line s) one ∙ r.same

      -- a line that goes on at j
      pub runs_on : (step : Result ℕ FaultSort) (t : List ℤ) → Makes s step t (next_of L (line_at list line) line s) → (j : ℕ) → step ≡ Ok j → Runs budget (left - 1) j t whole
      runs_on step t m j e = record { most = omega (arith, r.most); same = by (next_of L (line_at list line) line s) m next-step }
        where
          by : (n : Next) → Makes s step t n → follow (λ j t. run_from L (lines_of list) (left - 1) (budget - (left - 1)) j t) (budget - left) s n ≡ whole → run_from L (lines_of list) (left - 1) (budget - (left - 1)) j t ≡ whole
          by (goes k u) m w = let same : k ≡ j = cc in rw (m.1, ← same) w
          by (faults sort) m w = absurd (let z : ◌≡◌ {A = ℕ} 0 1 = cc in omega arith)
          by ends m w = absurd m

      -- a line that faults
      pub runs-fault : (step : Result ℕ FaultSort) (t : List ℤ) → Makes s step t (next_of L (line_at list line) line s) → (sort : FaultSort) → step ≡ Err sort → record { ending = Fault sort; count = budget - (left - 1); store = t } ≡ whole
      runs-fault step t m sort e = by (next_of L (line_at list line) line s) m next-step
        where
          by : (n : Next) → Makes s step t n → follow (λ j t. run_from L (lines_of list) (left - 1) (budget - (left - 1)) j t) (budget - left) s n ≡ whole → record { ending = Fault sort; count = budget - (left - 1); store = t } ≡ whole
          by (goes k u) m w = absurd (let z : ◌≡◌ {A = ℕ} 0 1 = cc in omega arith)
          by (faults other) m w =
              let same : other ≡ sort = cc in
              let count : budget - (left - 1) ≡ suc (budget - left) = omega (arith, r.most) in
              rw (m.1, count, ← same) w
          by ends m w = absurd m

  pub runs-start : (budget : ℕ) (s : List ℤ) → Runs budget budget 0 s (run_from L (lines_of list) budget 0 0 s)
  runs-start budget s = let none : budget - budget ≡ 0 = omega arith in record { most = omega arith; same = ap (λ (k : ℕ). run_from L (lines_of list) budget k 0 s) none }
