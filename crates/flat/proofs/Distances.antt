-- Distances: a signed distance as the code takes it apart: its sign, and how far it goes.
use mathlib.Core.Path.{◌≡◌, refl}
use mathlib.Core.Bool.{true, false, true≢false}
use Prim.Native.Nat.{ℕ, suc, ◌-◌, ◌^◌, ◌<◌}
use native.Mathlib.Omega.{arith}
use lib.Dec.{T}
use lib.IntN.{ℤ, pos, negsuc, nat_abs, ◌-ℤ◌}
use lib.Signed.{mag, lt_z, non_neg}
use mir.Syntax.{w32, w64}
use mir.Val.{SFits, Fits, to_z, of_z}
use mir.Facts.{to_z-of_z}
use borrow.Author.Tests.{ltb-true, le-ltb}

abbrev pub again : ℤ → ℤ
again z = to_z w32 (of_z w32 z)

-- −1 − z of a negative z
below-zero : (n : ℕ) → negsuc 0 -ℤ negsuc n ≡ pos n
below-zero n = let e : suc n - 1 ≡ n = omega arith in rw (le-ltb (suc n) 1 (omega arith), e)

-- a word that is cast, and goes as far as z
pub record Casts (z y : ℤ) : Type 0 where
  pub fits : T (non_neg y) × Fits w64 (nat_abs y)
  pub is : nat_abs y ≡ mag z

record Apart (z : ℤ) : Type 0 where
  pub sum_fits : SFits w32 (negsuc 0 -ℤ z)
  pub casts : Casts z (again (negsuc 0 -ℤ z))

apart-negative : (z : ℤ) → mag z < 2 ^ 31 → lt_z z (pos 0) ≡ true → Apart z
apart-negative (pos n) h e = absurd (omega (arith, ltb-true n 0 e))
apart-negative (negsuc n) h e =
    let small : SFits w32 (pos n) = record { sfits = h } in
    record { sum_fits = rw (below-zero n) small; casts = rw (below-zero n, to_z-of_z small) (record { fits = (tt, record { fits = omega arith }); is = refl }) }

cast-onward : (z : ℤ) → mag z < 2 ^ 31 → lt_z z (pos 0) ≡ false → Casts z z
cast-onward (pos n) h e = record { fits = (tt, record { fits = omega arith }); is = refl }
cast-onward (negsuc n) h e = absurd (true≢false e)

module _ {z : ℤ} (h : SFits w32 z) where
  pub backward : lt_z (again z) (pos 0) ≡ true → SFits w32 (negsuc 0 -ℤ again z) × Casts z (again (negsuc 0 -ℤ again z))
  backward e = rw (to_z-of_z {z = z} h) (let a = apart-negative z h.sfits (rw (to_z-of_z {z = z} h) at e) in (a.sum_fits, a.casts))

  pub forward : lt_z (again z) (pos 0) ≡ false → Casts z (again z)
  forward e = rw (to_z-of_z {z = z} h) (cast-onward z h.sfits (rw (to_z-of_z {z = z} h) at e))
