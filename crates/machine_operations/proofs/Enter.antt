-- Steps and sequence, told by the steps left: the laws that the proofs of the evaluation chain. All by computing `spend`.
use mathlib.Core.Path.{◌≡◌, refl, ap}
use mathlib.Core.Bool.{Bool, true, false}
use mathlib.Core.List.{List}
use Prim.Native.Nat.{ℕ, zero, suc, ◌-◌}
use native.Mathlib.Omega.{arith}
use lib.IntN.{ℤ}
use Rattle.words.specs.Word.{pick}
use Rattle.computation.specs.Computation.{Computation}
use Rattle.computation.specs.Run.{spent}
use Rattle.computation.specs.Remaining.{Rest, gives, halts, onward, spend}
use Rattle.language.specs.Meaning.{enter}

module _ {A : Type 0} (m : Computation A) (s : List ℤ) where
  -- with a step left the row is entered, and with none the run is spent
  pub entered : (n : ℕ) → (n ≡ 0 → ⊥) → spend (enter m) n s ≡ spend m (n - 1) s
  unfolding spend
  entered zero h = absurd (h refl)
  entered (suc n) h = ap (λ (k : ℕ). spend m k s) (omega arith)

  pub not_entered : (n : ℕ) → n ≡ 0 → spend (enter m) n s ≡ halts spent n s
  unfolding spend
  not_entered n e = rw e

pub onward-same : {A B : Type 0} (m : Rest A) (f g : A → ℕ → List ℤ → Rest B) → ((a : A) (n : ℕ) (s : List ℤ) → f a n s ≡ g a n s) → onward m f ≡ onward m g
onward-same (gives a n s) f g h = h a n s
onward-same (halts why n s) f g h = refl

pub onward-onward : {A B C : Type 0} (m : Rest A) (f : A → ℕ → List ℤ → Rest B) (g : B → ℕ → List ℤ → Rest C) → onward m (λ a n s. onward (f a n s) g) ≡ onward (onward m f) g
onward-onward (gives a n s) f g = refl
onward-onward (halts why n s) f g = refl

pub forks : {A : Type 0} (t : Bool) (x y : Computation A) (n : ℕ) (s : List ℤ) → spend (pick t x y) n s ≡ pick t (spend x n s) (spend y n s)
forks true x y n s = refl
forks false x y n s = refl
