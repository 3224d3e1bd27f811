-- Distinct numbers: so many different numbers, each one of D in a row, are at most D. Counted number by number.
use Rattle.std.specs.Prelude.{◌≡◌, refl, Bool, true, false, List, [], ◌∷◌, ℕ, zero, suc, ◌+◌, ◌≤◌, ◌<◌, ltb, eqb, length}
use Rattle.std.proofs.Common.{arith, eqb-true, ne_eqb, ltb-true, lt-ltb, le-ltb, ltb-false}
use Rattle.std.proofs.lemmas.Bool.{eqb-false}
use Rattle.words.specs.Word.{one}
use Rattle.words.specs.Laws.{by_cases}

abbrev pub Each : (ℕ → Type 0) → List ℕ → Type 0
Each P [] = Unit {0}
Each P (x ∷ xs) = P x × Each P xs

abbrev pub Distinct : List ℕ → Type 0
Distinct [] = Unit {0}
Distinct (x ∷ xs) = Each (λ y. y ≡ x → ⊥) xs × Distinct xs

-- how many are below a number, and how many are that number
below : ℕ → List ℕ → ℕ
below d [] = 0
below d (x ∷ xs) = one (ltb x d) + below d xs

occurs : ℕ → List ℕ → ℕ
occurs d [] = 0
occurs d (x ∷ xs) = one (eqb x d) + occurs d xs

one_more : (x d : ℕ) → one (ltb x (suc d)) ≤ one (ltb x d) + one (eqb x d)
one_more x d =
    by_cases (ltb x d) (λ l. let b = ltb-true x d l in rw (l, lt-ltb x (suc d) (omega arith)) (omega arith))
    (λ l. by_cases (eqb x d) (λ e. rw e (most (ltb x (suc d)) (one (ltb x d))))
    (λ e. let no = eqb-false x d e in let least = ltb-false x d l in rw (le-ltb x (suc d) (omega (arith, no, least))) (omega arith)))
  where
    most : (b : Bool) (n : ℕ) → one b ≤ n + 1
    most true n = omega arith
    most false n = omega arith

below_more : (d : ℕ) (xs : List ℕ) → below (suc d) xs ≤ below d xs + occurs d xs
unfolding below occurs
below_more d [] = omega arith
below_more d (x ∷ xs) = let first = one_more x d in let rest = below_more d xs in omega arith

occurs-none : (d : ℕ) (xs : List ℕ) → Each (λ y. y ≡ d → ⊥) xs → occurs d xs ≡ 0
unfolding occurs
occurs-none d [] apart = refl
occurs-none d (x ∷ xs) apart = rw (ne_eqb x d apart.0, occurs-none d xs apart.1)

occurs-once : (d : ℕ) (xs : List ℕ) → Distinct xs → occurs d xs ≤ 1
unfolding occurs
occurs-once d [] apart = omega arith
occurs-once d (x ∷ xs) apart =
    by_cases (eqb x d)
    (λ e. rw (e, occurs-none d xs (rw (eqb-true x d e) at apart.0)) (omega arith))
    (λ e. let rest = occurs-once d xs apart.1 in rw e (omega arith))

below_none : (from : ℕ) (xs : List ℕ) → Each (λ x. from ≤ x) xs → below from xs ≡ 0
unfolding below
below_none from [] least = refl
below_none from (x ∷ xs) least = rw (le-ltb x from least.0, below_none from xs least.1)

below_all : (d : ℕ) (xs : List ℕ) → Each (λ x. x < d) xs → below d xs ≡ length xs
unfolding below
below_all d [] most = refl
below_all d (x ∷ xs) most = let rest = below_all d xs most.1 in rw (lt-ltb x d most.0) (omega arith)

below-few : (from count : ℕ) (xs : List ℕ) → Each (λ x. from ≤ x) xs → Distinct xs → below (from + count) xs ≤ count
below-few from zero xs least apart = let z : from + 0 ≡ from = omega arith in rw z (let none = below_none from xs least in omega arith)
below-few from (suc count) xs least apart =
    let z : from + suc count ≡ suc (from + count) = omega arith in
    let more = below_more (from + count) xs in
    let once = occurs-once (from + count) xs apart in
    let rest = below-few from count xs least apart in
    rw z (omega arith)

pub few-distinct : (from count : ℕ) (xs : List ℕ) → Each (λ x. from ≤ x) xs → Each (λ x. x < from + count) xs → Distinct xs → length xs ≤ count
few-distinct from count xs least most apart = let few = below-few from count xs least apart in let all = below_all (from + count) xs most in omega arith
