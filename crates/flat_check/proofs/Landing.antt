-- Landing: where a jump lands, as the code tests it.
use mathlib.Core.Path.{◌≡◌, ap, ◌∙◌}
use mathlib.Core.Bool.{true, false, true≢false}
use Prim.Native.Nat.{ℕ, suc, ◌+◌, ◌<◌}
use native.Mathlib.Omega.{arith}
use lib.Dec.{leb}
use lib.IntN.{ℤ, pos, negsuc}
use lib.Signed.{mag, lt_z}
use mir.Syntax.{w32}
use mir.Val.{SFits, to_z, of_z}
use mir.Facts.{to_z-of_z}
use borrow.Author.Tests.{ltb-true}
use Rattle.flat.specs.Refusal.{lands_inside}

module _ (line lines : ℕ) where
  back : (z : ℤ) → lt_z z (pos 0) ≡ true → (far : ℕ) → far ≡ mag z → leb far line ≡ lands_inside line lines z
  back (pos n) e far f = absurd (omega (arith, ltb-true n 0 e))
  back (negsuc n) e far f = ap (λ (d : ℕ). leb d line) f

  onward : (z : ℤ) → lt_z z (pos 0) ≡ false → (far : ℕ) → far ≡ mag z → leb (line + 1 + far) lines ≡ lands_inside line lines z
  onward (pos n) e far f = let same : line + 1 + far ≡ suc line + n = omega arith in ap (λ (d : ℕ). leb d lines) same
  onward (negsuc n) e far f = absurd (true≢false e)

-- a distance that was handed on to `magnitude`
module _ (z : ℤ) (h : SFits w32 z) where
  abbrev again : ℤ
  again = to_z w32 (of_z w32 z)

  pub far-small : (far : ℕ) → far ≡ mag again → far < 2147483648
  far-small far e = let same : far ≡ mag z = e ∙ ap mag (to_z-of_z {z = z} h) in omega (arith, h.sfits)

module _ (line lines : ℕ) (z : ℤ) (h : SFits w32 z) where
  pub lands-back : lt_z (to_z w32 (of_z w32 z)) (pos 0) ≡ true → (far : ℕ) → far ≡ mag (to_z w32 (of_z w32 z)) → leb far line ≡ lands_inside line lines z
  lands-back e far f = back line lines z (rw (to_z-of_z {z = z} h) at e) far (rw (to_z-of_z {z = z} h) at f)

  pub lands-onward : lt_z (to_z w32 (of_z w32 z)) (pos 0) ≡ false → (far : ℕ) → far ≡ mag (to_z w32 (of_z w32 z)) → leb (line + 1 + far) lines ≡ lands_inside line lines z
  lands-onward e far f = onward line lines z (rw (to_z-of_z {z = z} h) at e) far (rw (to_z-of_z {z = z} h) at f)
