-- Lists by their items, told by the steps left: the laws that the proofs chain. All by computing `spend` of the meaning.
use mathlib.Core.Path.{◌≡◌, refl, ap, ◌∙◌}
use mathlib.Core.Bool.{Bool, true, false, ◌||◌}
use mathlib.Core.List.{List}
use Prim.Native.Nat.{ℕ}
use native.Mathlib.Omega.{arith}
use lib.IntN.{ℤ}
use Rattle.words.specs.Word.{pick}
use Rattle.computation.specs.Remaining.{gives, onward, spend}
use Rattle.language.specs.Trees.{Mark, case, default, Statement, empty, Items, none, ◌then◌, ◌here◌, define, same_mark, has}
use Rattle.language.specs.Meaning.{Context, Signal, next, breaking, continuing, seeking, returning, target, after_switch, perform, items, exec}
use Rattle.machine_flows.specs.Lists.{from, start_of}

module _ (C : Context) where
  pub list-none : (signal : Signal) (n : ℕ) (s : List ℤ) → spend (items C none signal) n s ≡ gives signal n s
  unfolding spend perform
  list-none signal n s = refl

  pub list-then : (x : Statement) (is : Items) (n : ℕ) (s : List ℤ) → spend (items C (x then is) next) n s ≡ onward (spend (exec C x) n s) (λ signal n s. spend (items C is signal) n s)
  unfolding spend perform
  list-then x is n s = refl

  -- a mark does what an empty statement does
  pub list-here : (m : Mark) (is : Items) (n : ℕ) (s : List ℤ) → spend (items C (m here is) next) n s ≡ onward (spend (exec C empty) n s) (λ signal n s. spend (items C is signal) n s)
  unfolding spend perform
  list-here m is n s = refl

  -- a definition is passed over
  pub list-define : (f : ℕ) (words : List ℕ) (body is : Items) (n : ℕ) (s : List ℤ) → spend (items C (define f words body is) next) n s ≡ spend (items C is next) n s
  unfolding perform
  list-define f words body is n s = refl

  pub past-breaking : (is : Items) (n : ℕ) (s : List ℤ) → spend (items C is breaking) n s ≡ gives breaking n s
  unfolding spend perform
  past-breaking none n s = refl
  past-breaking (x then is) n s = past-breaking is n s
  past-breaking (m here is) n s = past-breaking is n s
  past-breaking (define f words body is) n s = past-breaking is n s

  pub past-continuing : (is : Items) (n : ℕ) (s : List ℤ) → spend (items C is continuing) n s ≡ gives continuing n s
  unfolding spend perform
  past-continuing none n s = refl
  past-continuing (x then is) n s = past-continuing is n s
  past-continuing (m here is) n s = past-continuing is n s
  past-continuing (define f words body is) n s = past-continuing is n s

  pub past-returning : (v : ℤ) (is : Items) (n : ℕ) (s : List ℤ) → spend (items C is (returning v)) n s ≡ gives (returning v) n s
  unfolding spend perform
  past-returning v none n s = refl
  past-returning v (x then is) n s = past-returning v is n s
  past-returning v (m here is) n s = past-returning v is n s
  past-returning v (define f words body is) n s = past-returning v is n s

  -- a search: the list from its mark on, or the search goes on outside
  pub search-list : (m : Mark) (is : Items) (n : ℕ) (s : List ℤ) → spend (items C is (seeking m)) n s ≡ spend (items C (from m is) (pick (has m is) next (seeking m))) n s
  unfolding spend perform from has
  search-list m none n s = refl
  search-list m (x then is) n s = search-list m is n s
  search-list m (define f words body is) n s = search-list m is n s
  search-list m (k here is) n s = go (same_mark m k) refl (search-list m is n s)
    where
      go : (b : Bool) → same_mark m k ≡ b → spend (items C is (seeking m)) n s ≡ spend (items C (from m is) (pick (has m is) next (seeking m))) n s
          → spend (items C (k here is) (seeking m)) n s ≡ spend (items C (from m (k here is)) (pick (has m (k here is)) next (seeking m))) n s
      go true e h = rw (e, from, has)
      go false e h = rw (e, from, has) h

  from-none : (m : Mark) (is : Items) → has m is ≡ false → from m is ≡ none
  unfolding from has
  from-none m none e = refl
  from-none m (x then is) e = from-none m is e
  from-none m (define f words body is) e = from-none m is e
  from-none m (k here is) e = go (same_mark m k) e (λ q. from-none m is q)
    where
      go : (b : Bool) → (b || has m is) ≡ false → (has m is ≡ false → from m is ≡ none) → pick b (k here is) (from m is) ≡ none
      go true e f = absurd (let z : ◌≡◌ {A = ℕ} 0 1 = cc in omega arith)
      go false e f = f e

  -- a switch begins at the case of equal value, else at the default, else past its items
  pub switch-starts : (v : ℤ) (is : Items) (n : ℕ) (s : List ℤ)
      → onward (spend (items C is (target v is)) n s) (λ signal n s. gives (after_switch signal) n s) ≡ onward (spend (items C (start_of v is) next) n s) (λ signal n s. gives (after_switch signal) n s)
  unfolding start_of
  switch-starts v is n s = go (has (case v) is) refl (has default is) refl
    where
      sought : (m : Mark) → has m is ≡ true → spend (items C is (seeking m)) n s ≡ spend (items C (from m is) next) n s
      sought m e = search-list m is n s ∙ rw e

      go : (b : Bool) → has (case v) is ≡ b → (d : Bool) → has default is ≡ d
          → onward (spend (items C is (pick b (seeking (case v)) (pick d (seeking default) breaking))) n s) (λ signal n s. gives (after_switch signal) n s)
          ≡ onward (spend (items C (pick b (from (case v) is) (from default is)) next) n s) (λ signal n s. gives (after_switch signal) n s)
      go true e d f = ap (λ r. onward r (λ signal n s. gives (after_switch signal) n s)) (sought (case v) e)
      go false e true f = ap (λ r. onward r (λ signal n s. gives (after_switch signal) n s)) (sought default f)
      go false e false f = rw (past-breaking is n s, from-none default is f, list-none next n s)
