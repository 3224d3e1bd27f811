-- Laws of values that wait: they are copied or not.
use Rattle.std.specs.Prelude.{◌≡◌, refl, Bool, true, false, ℕ, ◌+◌, ◌≤◌}
use Rattle.std.proofs.Common.{arith}
use Rattle.words.specs.Word.{pick}
use Rattle.words.specs.Laws.{by_cases}
use Rattle.language.specs.Writes.{writes, index_writes}
use Rattle.language.specs.Trees.{Expression, Place, variable, element, Items, none}
use Rattle.translation.specs.Translate.{Atom, number, word, top, held, taken, assigning, copy_code, move_code, store_code}
use Rattle.translation.specs.TranslateSize.{copied}
use Rattle.translation.specs.Holding.{held_by, hold_by, hold_code}

-- What holds a waiting value is its own atom, or the temporary.
pub held-either : (P : Atom → Type 0) (h : Atom) (W : ℕ → Bool) → P h → P top → P (held h W)
held-either P (number v) W p q = p
held-either P (word i) W p q = by (W i)
  where
    by : (b : Bool) → P (pick b top (word i))
    by true = q
    by false = p
held-either P top W p q = q

pub hold-either : (S : ℕ) (P : Items → Type 0) (t : ℕ) (h : Atom) (W : ℕ → Bool) → P (copy_code S t h) → P none → P (hold_code S t h W)
hold-either S P t (number v) W p q = q
hold-either S P t (word i) W p q = by (W i)
  where
    by : (b : Bool) → P (move_code S t (word i) (pick b top (word i)))
    by true = p
    by false = q
hold-either S P t top W p q = q

-- A waiting value takes what its own atom takes, and the copy.
pub taken-held : (h : Atom) (W : ℕ → Bool) → taken (held h W) ≡ taken h + copied h W
taken-held (number v) W = refl
taken-held (word i) W = by_cases (W i) (λ e. rw e) (λ e. rw e)
taken-held top W = refl

pub copied-most : (h : Atom) (W : ℕ → Bool) → copied h W ≤ 1
copied-most (number v) W = omega arith
copied-most (word i) W = by_cases (W i) (λ e. rw e (omega arith)) (λ e. rw e (omega arith))
copied-most top W = omega arith

-- What stores a value: an assignment, or nothing where the value is there already.
pub store-either : (S : ℕ) (P : Items → Type 0) (q : Place) (straight : Bool) (x : Expression) → P (assigning S q x none) → P none → P (store_code S q straight x)
store-either S P (variable i) true x p q = q
store-either S P (variable i) false x p q = p
store-either S P (element array e) straight x p q = p

-- A variable has no index: nothing is copied for it.
pub held-variable : (called : ℕ → ℕ → Bool) (h : Atom) (i : ℕ) → held h (index_writes called (variable i)) ≡ h
unfolding writes
held-variable called (number v) i = refl
held-variable called (word j) i = refl
held-variable called top i = refl

-- ---- by whether it is copied, as 1 or 0

pub held-by : (h : Atom) (W : ℕ → Bool) → held h W ≡ held_by (copied h W) h
held-by (number v) W = refl
held-by (word i) W = by_cases (W i) (λ e. rw e) (λ e. rw e)
held-by top W = refl

pub hold-by : (S t : ℕ) (h : Atom) (W : ℕ → Bool) → hold_code S t h W ≡ hold_by S t (copied h W) h
hold-by S t (number v) W = refl
hold-by S t (word i) W = by_cases (W i) (λ e. rw e) (λ e. rw e)
hold-by S t top W = refl
