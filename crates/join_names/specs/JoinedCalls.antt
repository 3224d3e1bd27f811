-- Calls of a join: the functions of both programs are looked up by their new numbers, and so the calls of each go in the join as they went by
-- themselves.
use Rattle.std.specs.Prelude.{◌≡◌, Bool, false, ◌⊎◌, List, [], map, eqb, ltb, ℤ}
use Rattle.std.proofs.Math.Path.{refl, sym, ap}
use Rattle.std.proofs.Common.{◌∙◌, inl, inr}
use Prim.Native.Nat.{ℕ, zero, suc, ◌+◌, ◌≤◌, ◌<◌}
use native.Mathlib.Omega.{arith}
use Rattle.std.proofs.Math.Decide.{ℕ_discrete}
use Rattle.std.proofs.Math.Arith.{lt_of_le-ne}
use borrow.Author.Tests.{eq-eqb, ne_eqb, lt-ltb, ltb-true, ltb-false}
use Rattle.words.specs.Word.{pick}
use Rattle.words.specs.Laws.{by_cases}
use Rattle.words.specs.Layout.{Layout}
use Rattle.computation.specs.Computation.{ret, ◌>>=◌, ◌>>◌}
use Rattle.language.specs.Trees.{block, Items, none, ◌then◌, ◌here◌, define}
use Rattle.language.specs.Meaning.{enter, next, perform, exec}
use Rattle.language.specs.Functions.{Function, function_of, function_count, storing, returned, invoke, context_by, call_by, context_of}
use Rattle.language.proofs.FunctionLaws.{items-same, call-is}
use Rattle.language.specs.Calls.{arity_in, Numbered, CallsInOrder}
use Rattle.language.specs.WellFormed.{PlacedItems, PlacedProgram}
use Rattle.language_renaming.specs.Renaming.{renamed_items}
use Rattle.language_renaming.proofs.RenamedFunctions.{renamed_function}
use Rattle.join.specs.JoinedTrees.{front_then, behind_front, joined_items}

-- ---- as many calls within calls as there are functions are enough

module _ (L : Layout) (program : Items) (order : CallsInOrder program) where
  calls-enough : (calls f : ℕ) → f < function_count program → f < calls → (values : List ℤ) → call_by calls L program f values ≡ (context_of L program).calling f values
  unfolding call_by invoke perform context_of
  calls-enough zero f inside most values = absurd (omega arith)
  calls-enough (suc calls) f inside most values =
      ap (λ x. storing (function_of f program).parameters values >> (enter x >>= λ signal. ret (returned signal)))
      (items-same L (arity_in program) f (call_by calls L program) (context_of L program).calling (λ g h values. calls-enough calls g (omega arith) (omega arith) values) (function_of f program).body next (order.lower f inside))
      ∙ sym (call-is L program order f inside values)

  -- so more of them give the same program
  pub program-enough : (calls : ℕ) → function_count program ≤ calls → exec (context_by L (call_by calls L program)) (block program) ≡ exec (context_of L program) (block program)
  unfolding perform context_of
  program-enough calls most =
      ap enter (items-same L (arity_in program) (function_count program) (call_by calls L program) (context_of L program).calling (λ f h values. calls-enough calls f h (omega arith) values) program next order.main)

-- ---- definitions stand at the front

none_inside : (mayReturn inSwitch mayBreak mayContinue : Bool) (is : Items) → PlacedItems mayReturn inSwitch mayBreak mayContinue is → function_count is ≡ 0
unfolding PlacedItems function_count
none_inside a b c d none p = refl
none_inside a b c d (s then is) p = none_inside a b c d is p.1
none_inside a b c d (m here is) p = none_inside a b c d is p.1
none_inside a b c d (define f words body is) p = absurd p

pub placed-front : (is : Items) → PlacedProgram is → function_count (behind_front is) ≡ 0
unfolding PlacedProgram function_count behind_front
placed-front none p = refl
placed-front (s then is) p = none_inside false false false false (s then is) p
placed-front (m here is) p = none_inside false false false false (m here is) p
placed-front (define f words body is) p = placed-front is p.1

-- ---- functions by their numbers

abbrev no_function : Function
no_function = record { parameters = []; body = none }

-- A program, renamed, in front of other items: its functions have the numbers from `offset` on.
module _ (π φ : ℕ → ℕ) (offset most : ℕ) (moves : (f : ℕ) → f < most → φ f ≡ offset + f) where
  front-found : (number : ℕ) (is : Items) → Numbered number is → function_count (behind_front is) ≡ 0 → number + function_count is ≤ most → (others : Items) (f : ℕ) → number ≤ f → f < number + function_count is
      → function_of (offset + f) (front_then (renamed_items π φ is) others) ≡ renamed_function π φ (function_of f is)
  unfolding Numbered function_count behind_front renamed_items front_then function_of
  front-found number none n e m others f least less = absurd (omega arith)
  front-found number (s then is) n e m others f least less = absurd (omega arith)
  front-found number (k here is) n e m others f least less = absurd (omega arith)
  front-found number (define g words body is) n e m others f least less = go (ℕ_discrete f g) (λ d. front-found (suc number) is n.1 e (omega arith) others f (let same = n.0 in lt_of_le-ne least (λ (q : number ≡ f). d (sym q ∙ sym same))) (omega arith))
    where
      named : φ g ≡ offset + g
      named = moves g (let same = n.0 in omega arith)

      go : Dec (f ≡ g) → ((f ≡ g → ⊥) → function_of (offset + f) (front_then (renamed_items π φ is) others) ≡ renamed_function π φ (function_of f is))
          → pick (eqb (offset + f) (φ g)) (record { parameters = map π words; body = renamed_items π φ body }) (function_of (offset + f) (front_then (renamed_items π φ is) others)) ≡ renamed_function π φ (pick (eqb f g) (record { parameters = words; body = body }) (function_of f is))
      go (yes q) rest = rw (eq-eqb (offset + f) (φ g) (ap (λ (k : ℕ). offset + k) q ∙ sym named), eq-eqb f g q)
      go (no q) rest = rw (ne_eqb (offset + f) (φ g) (λ (z : offset + f ≡ φ g). q (let w = z ∙ named in omega arith)), ne_eqb f g q) (rest q)

  -- other numbers are looked up behind it
  front-passed : (number : ℕ) (is : Items) → Numbered number is → function_count (behind_front is) ≡ 0 → number + function_count is ≤ most → (others : Items) (g : ℕ) → (g < offset + number) ⊎ (offset + number + function_count is ≤ g)
      → function_of g (front_then (renamed_items π φ is) others) ≡ function_of g others
  unfolding Numbered function_count behind_front renamed_items front_then function_of
  front-passed number none n e m others g out = refl
  front-passed number (s then is) n e m others g out = refl
  front-passed number (k here is) n e m others g out = refl
  front-passed number (define f words body is) n e m others g out =
      let same = n.0 in
      let named = moves f (omega arith) in
      rw (ne_eqb g (φ f) (λ (q : g ≡ φ f). other named same q out)) (front-passed (suc number) is n.1 e (omega arith) others g (further out))
    where
      other : φ f ≡ offset + f → f ≡ number → g ≡ φ f → (g < offset + number) ⊎ (offset + number + suc (function_count is) ≤ g) → ⊥
      other named same q (inl h) = omega arith
      other named same q (inr h) = omega arith

      further : (g < offset + number) ⊎ (offset + number + suc (function_count is) ≤ g) → (g < offset + suc number) ⊎ (offset + suc number + function_count is ≤ g)
      further (inl h) = inl (omega arith)
      further (inr h) = inr (omega arith)

  front-count : (is others : Items) → function_count (behind_front is) ≡ 0 → function_count (front_then (renamed_items π φ is) others) ≡ function_count is + function_count others
  unfolding function_count behind_front renamed_items front_then
  front-count none others e = omega arith
  front-count (s then is) others e = omega arith
  front-count (m here is) others e = omega arith
  front-count (define f words body is) others e = let rest = front-count is others e in omega arith

-- a list without definitions has none, and beyond the last there is none
none_found : (f : ℕ) (is : Items) → function_count is ≡ 0 → function_of f is ≡ no_function
unfolding function_count function_of
none_found f none e = refl
none_found f (s then is) e = none_found f is e
none_found f (m here is) e = none_found f is e
none_found f (define g words body is) e = absurd (omega arith)

not_found : (number : ℕ) (is : Items) → Numbered number is → function_count (behind_front is) ≡ 0 → (f : ℕ) → number + function_count is ≤ f → function_of f is ≡ no_function
unfolding Numbered function_count behind_front function_of
not_found number none n e f h = refl
not_found number (s then is) n e f h = none_found f is e
not_found number (m here is) n e f h = none_found f is e
not_found number (define g words body is) n e f h =
    let same = n.0 in
    rw (ne_eqb f g (λ (q : f ≡ g). omega arith)) (not_found (suc number) is n.1 e f (omega arith))

-- ---- both programs, of so many functions each

-- The first's functions keep their numbers; a number that names no function of the first names none of the join.
unfoldable pub first_number : ℕ → ℕ → ℕ → ℕ
first_number count count' f = pick (ltb f count) f (f + count')

-- The second's come behind them.
unfoldable pub second_number : ℕ → ℕ → ℕ
second_number count f = count + f

pub first-number : (count count' f : ℕ) → f < count → first_number count count' f ≡ f
unfolding first_number
first-number count count' f h = rw (lt-ltb f count h)

module _ (π π' : ℕ → ℕ) (first second : Items) (order : CallsInOrder first) (order' : CallsInOrder second) (front : function_count (behind_front first) ≡ 0) (front' : function_count (behind_front second) ≡ 0) where
  abbrev count : ℕ
  count = function_count first

  abbrev count' : ℕ
  count' = function_count second

  abbrev number_of_first : ℕ → ℕ
  number_of_first = first_number count count'

  abbrev number_of_second : ℕ → ℕ
  number_of_second = second_number count

  abbrev joined : Items
  joined = joined_items (renamed_items π number_of_first first) (renamed_items π' number_of_second second)

  first-moves : (f : ℕ) → f < count → number_of_first f ≡ 0 + f
  first-moves f h = first-number count count' f h ∙ (let e : f ≡ 0 + f = omega arith in e)

  second-moves : (f : ℕ) → f < count' → number_of_second f ≡ count + f
  unfolding second_number
  second-moves f h = refl

  -- what the second finds, and what none finds
  abbrev blocks : Items
  blocks = block (behind_front (renamed_items π number_of_first first)) then block (behind_front (renamed_items π' number_of_second second)) then none

  abbrev behind_first : Items
  behind_first = front_then (renamed_items π' number_of_second second) blocks

  past_first : (g : ℕ) → count ≤ g → function_of g joined ≡ function_of g behind_first
  unfolding joined_items
  past_first g h = front-passed π number_of_first 0 count first-moves 0 first order.numbered front (omega arith) behind_first g (inr (omega arith))

  past-both : (g : ℕ) → count + count' ≤ g → function_of g joined ≡ no_function
  unfolding function_of
  past-both g h = past_first g (omega arith) ∙ front-passed π' number_of_second count count' second-moves 0 second order'.numbered front' (omega arith) blocks g (inr (omega arith))

  pub first-same : (f : ℕ) → function_of (number_of_first f) joined ≡ renamed_function π number_of_first (function_of f first)
  unfolding joined_items first_number renamed_items
  first-same f =
      by_cases (ltb f count)
      (λ e. let h = ltb-true f count e in
      rw e (ap (λ (k : ℕ). function_of k joined) (let w : f ≡ 0 + f = omega arith in w) ∙ front-found π number_of_first 0 count first-moves 0 first order.numbered front (omega arith) behind_first f (omega arith) (omega arith)))
      (λ e. let h = ltb-false f count e in rw e (past-both (f + count') (omega arith) ∙ sym (ap (renamed_function π number_of_first) (not_found 0 first order.numbered front f (omega arith)))))

  pub second-same : (f : ℕ) → function_of (number_of_second f) joined ≡ renamed_function π' number_of_second (function_of f second)
  unfolding second_number renamed_items
  second-same f =
      by_cases (ltb f count')
      (λ e. let h = ltb-true f count' e in
      past_first (count + f) (omega arith) ∙ front-found π' number_of_second count count' second-moves 0 second order'.numbered front' (omega arith) blocks f (omega arith) (omega arith))
      (λ e. let h = ltb-false f count' e in past-both (count + f) (omega arith) ∙ sym (ap (renamed_function π' number_of_second) (not_found 0 second order'.numbered front' f (omega arith))))

  pub joined-count : function_count joined ≡ count + count'
  unfolding joined_items function_count
  joined-count =
      let a = front-count π number_of_first 0 count first-moves first behind_first front in
      let b = front-count π' number_of_second count count' second-moves second blocks front' in
      omega arith
