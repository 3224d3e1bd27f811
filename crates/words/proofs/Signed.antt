-- Signed words as the code tests them: bits, and the number that a word names. Assumes nothing.
use mathlib.Core.Path.{◌≡◌, refl, sym, ap, ◌∙◌}
use mathlib.Core.Bool.{true, false}
use Prim.Native.Nat.{ℕ, ◌^◌, ◌<◌}
use native.Mathlib.Omega.{arith}
use lib.Dec.{T}
use lib.IntN.{ℤ, pos, negsuc, nat_abs}
use lib.Signed.{mag, lt_z, non_neg}
use mir.Syntax.{w32, w64}
use mir.Val.{SFits, Fits, to_z, of_z}
use mir.Facts.{to_z-of_z, Fits-nat_abs}
use borrow.Author.Tests.{ltb-true}
use Rattle.words.specs.Word.{natural}
use Rattle.words.specs.Laws.{back}

-- a word that went through a local or a call
abbrev pub again : ℤ → ℤ
again z = to_z w32 (of_z w32 z)

-- a test `z == n` is one of bits
pub of-bits : (z : ℤ) (n : ℕ) → SFits w32 z → of_z w32 z ≡ n → z ≡ to_z w32 n
of-bits z n h e = sym (to_z-of_z h) ∙ ap (to_z w32) e

-- ---- the number that a word names

pub record Cast (y z : ℤ) : Type 0 where
  pub fits : T (non_neg y) × Fits w64 (nat_abs y)
  pub is : nat_abs y ≡ natural z

negative-is : (z : ℤ) → lt_z z (pos 0) ≡ true → 4294967296 ≡ natural z
unfolding natural
negative-is (pos n) e = absurd (omega (arith, ltb-true n 0 e))
negative-is (negsuc n) e = refl

cast_is : (z : ℤ) → SFits w32 z → lt_z z (pos 0) ≡ false → Cast z z
unfolding natural
cast_is (pos n) h e = record { fits = (tt, Fits-nat_abs {w = w32} tt h); is = refl }
cast_is (negsuc n) h e = absurd (let w : ◌≡◌ {A = ℕ} 0 1 = cc in omega arith)

module _ {z : ℤ} (h : SFits w32 z) where
  pub natural-negative : lt_z (again z) (pos 0) ≡ true → 4294967296 ≡ natural z
  natural-negative e = negative-is z (rw (to_z-of_z {z = z} h) at e)

  pub natural-cast : lt_z (again z) (pos 0) ≡ false → Cast (again z) z
  natural-cast e = rw (to_z-of_z {z = z} h) (cast_is z h (rw (to_z-of_z {z = z} h) at e))

-- what `natural` gives for a word that was handed on to it
pub natural-again : (z : ℤ) (n : ℕ) → mag z < 2 ^ 31 → n ≡ natural (again z) → n ≡ natural z
natural-again z n h e = e ∙ ap natural (back z h)
