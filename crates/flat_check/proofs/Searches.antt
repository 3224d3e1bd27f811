-- Searches: what `find` over the numbers below a bound answers.
use Rattle.std.specs.Prelude.{MatchOption, None, Option, Some}
use mathlib.Core.Path.{◌≡◌, sym}
use mathlib.Core.Bool.{Bool, true, false}
use Prim.Native.Nat.{ℕ, ◌≤◌, ◌<◌}
use native.Mathlib.Omega.{arith}
use Rattle.words.specs.Search.{lowest}
use Rattle.words.specs.SearchLaws.{all-lowest, lowest-at}

-- the first number with the property is the lowest
pub lowest-found : (p : ℕ → Bool) (n : ℕ) (r : Option ℕ)
    → MatchOption r ((k : ℕ) → 0 ≤ k → k < n → p k ≡ false) (λ i. (0 ≤ i) × (i < n) × (p i ≡ true) × ((k : ℕ) → 0 ≤ k → k < i → p k ≡ false)) → r ≡ lowest p 0 n
lowest-found p n None h = sym (all-lowest p n 0 (λ i a b. h i a (omega arith)))
lowest-found p n (Some i) h = sym (lowest-at p i n 0 h.0 (omega (arith, h.1)) h.2 h.3)
