-- The walk over pairs: those before `i` are stored.
use mathlib.Core.Path.{◌≡◌, refl, sym, ap, ◌∙◌}
use mathlib.Core.List.{List, [], ◌∷◌}
use Prim.Native.Nat.{ℕ, suc, ◌+◌, ◌≤◌, ◌<◌}
use native.Mathlib.Omega.{arith}
use lib.IntN.{ℤ, pos}
use lib.ListN.{length, drop, get_or, set, length-set, length-drop}
use lib.Seq.{drop-cons}
use Rattle.words.specs.Word.{natural}
use Rattle.day_run.specs.Days.{store_pairs}

few-stored : (pairs store : List ℤ) → length pairs ≤ 1 → store_pairs pairs store ≡ store
unfolding store_pairs
few-stored [] store h = refl
few-stored (number ∷ []) store h = refl
few-stored (number ∷ (value ∷ pairs)) store h = absurd (omega arith)

pair-stored : (pairs store : List ℤ) (i : ℕ) → i + 1 < length pairs
    → store_pairs (drop i pairs) store ≡ store_pairs (drop (i + 2) pairs) (set store (natural (get_or pairs i (pos 0))) (get_or pairs (i + 1) (pos 0)))
unfolding store_pairs
pair-stored pairs store i h =
    let next : i + 2 ≡ suc (suc i) = omega arith in
    let one : i + 1 ≡ suc i = omega arith in
    rw (next, one, drop-cons pairs i (pos 0) (omega arith), drop-cons pairs (suc i) (pos 0) (omega arith))

pub pairs-length : (pairs store : List ℤ) → length (store_pairs pairs store) ≡ length store
unfolding store_pairs
pairs-length [] store = refl
pairs-length (number ∷ []) store = refl
pairs-length (number ∷ (value ∷ pairs)) store = pairs-length pairs (set store (natural number) value) ∙ length-set store (natural number) value

pub record Stored (pairs : List ℤ) (i : ℕ) (store left : List ℤ) : Type 0 where
  pub inside : i ≤ length pairs
  pub kept : length left ≡ length store
  pub same : store_pairs pairs store ≡ store_pairs (drop i pairs) left

pub stored-start : (pairs store : List ℤ) → Stored pairs 0 store store
stored-start pairs store = record { inside = omega arith; kept = refl; same = refl }

module _ {pairs : List ℤ} {i : ℕ} {store left : List ℤ} (s : Stored pairs i store left) where
  pub stored-end : length pairs ≤ i + 1 → left ≡ store_pairs pairs store
  stored-end h = sym (s.same ∙ few-stored (drop i pairs) left (rw length-drop (omega arith)))

  pub stored_next : i + 1 < length pairs → (at : ℕ) (value : ℤ) (next : List ℤ) → at ≡ natural (get_or pairs i (pos 0)) → value ≡ get_or pairs (i + 1) (pos 0)
      → next ≡ set left at value → Stored pairs (i + 2) store next
  stored_next h at value next a v e = record {
    inside = omega arith;
    kept = ap length e ∙ length-set left at value ∙ s.kept;
    same = s.same ∙ pair-stored pairs left i h ∙ rw (e, a, v);
  }
