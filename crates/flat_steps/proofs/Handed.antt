-- Words of a line, handed on: numbers, values, targets.
use Rattle.std.specs.Prelude.{Err, Ok, Result}
use Rattle.std.specs.Result.{IsErrAnd}
use Rattle.std.proofs.lemmas.Result.{err_from_is_err_and}
use mathlib.Core.Path.{◌≡◌, refl, sym, ap, ap₂, ◌∙◌, subst}
use mathlib.Core.Bool.{true}
use mathlib.Core.List.{List}
use Prim.Native.Nat.{ℕ, suc, ◌+◌, ◌-◌, ◌^◌, ◌<◌}
use native.Mathlib.Omega.{arith}
use native.Mathlib.Numerals.{add-one}
use lib.Dec.{T}
use lib.IntN.{ℤ, pos, negsuc, nat_abs, ◌+ℤ◌}
use lib.ListN.{set}
use lib.Signed.{mag, non_neg}
use mir.Syntax.{w32, w64}
use mir.Val.{SFits, Fits, to_z, of_z}
use mir.Facts.{to_z-of_z, to_z_pos}
use borrow.Author.Tests.{le-ltb, leb-true}
use Rattle.words.specs.Laws.{back}
use Rattle.words.specs.declared.FaultSort.{FaultSort}
use Rattle.flat.specs.Lines.{Next, stored, onward}
use Rattle.flat.specs.Words.{target_of}
use Rattle.flat.specs.Refusal.{lands_inside}
use Rattle.flat_steps.specs.Steps.{Makes}

abbrev pub again : ℤ → ℤ
again z = to_z w32 (of_z w32 z)

-- what holds of a line's next holds of an equal one
pub made_so : (s : List ℤ) (r : Result ℕ FaultSort) (t : List ℤ) (n m : Next) → Makes s r t n → n ≡ m → Makes s r t m
made_so s r t n m h e = subst (λ x. Makes s r t x) e h

-- ---- a value stored, or a fault

pub assigned : (s : List ℤ) (line target : ℕ) (v : ℤ) (r : ℕ) (t : List ℤ) → (r ≡ line + 1) × (t ≡ set s target v) → Makes s (Ok r) t (onward line (stored target s (Ok v)))
assigned s line target v r t e = (ap Ok (e.0 ∙ add-one line), e.1)

-- a fault that `?` hands on
pub failed : (s : List ℤ) (r : Result ℕ FaultSort) (sort : FaultSort) → IsErrAnd r (λ q. q ≡ sort) → (n : Next) → Makes s (Err sort) s n → Makes s r s n
failed s r sort h n m = let p = err_from_is_err_and r h in rw (p.1, p.2) m

-- ---- the target of a jump: the following line's number and the distance, added at 64 bits

abbrev handed : ℤ → ℤ
handed z = to_z w64 (of_z w64 z)

module _ (line : ℕ) (small : line < 2 ^ 62) where
  abbrev following : ℤ
  following = to_z w64 line +ℤ pos 1

  number_is : to_z w64 line ≡ pos line
  number_is = to_z_pos w64 (omega arith)

  following-is : following ≡ pos (line + 1)
  following-is = ap (λ (x : ℤ). x +ℤ pos 1) number_is

  pub line-fits : SFits w64 (pos line)
  line-fits = record { sfits = omega arith }

  pub following-fits : SFits w64 following
  following-fits = subst (λ (x : ℤ). SFits w64 x) (sym following-is) (record { sfits = omega arith })

  sum_is : (lines : ℕ) (z : ℤ) → lands_inside line lines z ≡ true → pos (line + 1) +ℤ z ≡ pos (target_of line z)
  sum_is lines (pos d) l = ap pos (let e : line + 1 + d ≡ suc line + d = omega arith in e)
  sum_is lines (negsuc d) l = let e : line + 1 - suc d ≡ line - d = omega arith in rw (le-ltb (line + 1) (suc d) (omega (arith, leb-true d line l)), e)

  target_small : (z : ℤ) → mag z < 2 ^ 31 → target_of line z < 2 ^ 63
  target_small (pos d) h = omega arith
  target_small (negsuc d) h = omega arith

  -- a distance z that was read as w, and cast
  module _ (lines : ℕ) (z w : ℤ) (h : mag w < 2 ^ 31) (e : w ≡ z) (lands : lands_inside line lines z ≡ true) where
    abbrev total : ℤ
    total = handed following +ℤ handed (again w)

    distance_is : handed (again w) ≡ z
    distance_is = ap handed (back w h) ∙ to_z-of_z {w = w64} (record { sfits = omega arith }) ∙ e

    total_is : total ≡ pos (target_of line z)
    total_is = ap₂ ◌+ℤ◌ (to_z-of_z following-fits ∙ following-is) distance_is ∙ sum_is lines z lands

    target_fits : SFits w64 (pos (target_of line z))
    target_fits = record { sfits = target_small z (subst (λ (x : ℤ). mag x < 2 ^ 31) e h) }

    pub distance-fits : SFits w64 (again w)
    distance-fits = subst (λ (x : ℤ). SFits w64 x) (sym (back w h)) (record { sfits = omega arith })

    pub total-fits : SFits w64 total
    total-fits = subst (λ (x : ℤ). SFits w64 x) (sym total_is) target_fits

    handed-total : handed total ≡ pos (target_of line z)
    handed-total = to_z-of_z total-fits ∙ total_is

    pub total-casts : T (non_neg (handed total)) × Fits w64 (nat_abs (handed total))
    total-casts = subst (λ (x : ℤ). T (non_neg x) × Fits w64 (nat_abs x)) (sym handed-total) (tt, record { fits = omega (arith, target_fits.sfits) })

    pub target_is : nat_abs (handed total) ≡ target_of line z
    target_is = ap nat_abs handed-total
