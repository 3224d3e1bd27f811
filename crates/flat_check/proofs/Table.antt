-- Table: the table of kinds, as a match on a kind goes through it.
use Rattle.std.specs.Prelude.{None, Option, Some}
use mathlib.Core.Path.{◌≡◌, refl}
use mathlib.Core.Logic.{◌⊎◌, inl, inr}
use mathlib.Core.Bool.{Bool, true, false}
use Prim.Native.Nat.{ℕ, ◌≤◌}
use native.Mathlib.Omega.{arith}
use lib.Dec.{leb}
use borrow.Author.Tests.{ne_eqb, leb-true, le-leb}
use Rattle.words.specs.Kinds.{between}
use Rattle.words.specs.Laws.{by_cases}
use Rattle.flat.specs.Refusal.{shape, shape_of}
use Rattle.flat.specs.declared.Holds.TheVariants.{Unused, Atom, Variable, Array}
use Rattle.flat.specs.declared.LineShape.{LineShape}

-- kinds 1 and 4
pub copied : (kind : ℕ) → (kind ≡ 1) ⊎ (kind ≡ 4) → shape_of kind ≡ Some (shape Variable Atom Unused false)
unfolding shape_of
copied kind (inl e) = rw e
copied kind (inr e) = rw e

not-between : (least most kind : ℕ) → (least ≤ kind → kind ≤ most → ⊥) → between least most kind ≡ false
not-between least most kind h =
    by_cases (leb least kind)
    (λ t. by_cases (leb kind most) (λ u. absurd (h (leb-true _ _ t) (leb-true _ _ u))) (λ u. rw (t, u)))
    (λ t. rw t)

pub tested : (kind : ℕ) → 43 ≤ kind → kind ≤ 44 → shape_of kind ≡ Some (shape Unused Atom Unused true)
unfolding shape_of
tested kind p q = rw (ne_eqb kind 1 (λ e. omega arith), ne_eqb kind 3 (λ e. omega arith), ne_eqb kind 4 (λ e. omega arith), not-between 6 16 kind (λ a b. omega arith), ne_eqb kind 21 (λ e. omega arith), le-leb 43 kind p, le-leb kind 44 q)

-- what no arm of the match took
pub no-kind : (kind : ℕ) → (((((Unit {0} × ((kind ≡ 1) ⊎ (kind ≡ 4) → ⊥)) × (kind ≡ 3 → ⊥)) × (kind ≡ 21 → ⊥)) × (kind ≡ 52 → ⊥)) × (kind ≡ 57 → ⊥)) → (6 ≤ kind → kind ≤ 16 → ⊥) → (43 ≤ kind → kind ≤ 44 → ⊥)
    → None ≡ shape_of kind
unfolding shape_of
no-kind kind n operators tests =
    rw (ne_eqb kind 1 (λ e. n.0.0.0.0.1 (inl e)), ne_eqb kind 3 n.0.0.0.1, ne_eqb kind 4 (λ e. n.0.0.0.0.1 (inr e)), not-between 6 16 kind operators, ne_eqb kind 21 n.0.0.1, not-between 43 44 kind tests, ne_eqb kind 52 n.0.1, ne_eqb kind 57 n.1)
