-- Signed words in the code: a word from its size, and its size. A local of a signed type reads as its bits turned back.
use mathlib.Core.Path.{◌≡◌, refl, ap, ◌∙◌}
use mathlib.Core.Bool.{true, false}
use mathlib.Core.List.{◌∷◌}
use Prim.Native.Nat.{ℕ, zero, suc, ◌-◌, ◌^◌, ◌≤◌, ◌<◌}
use native.Mathlib.Omega.{arith}
use lib.IntN.{ℤ, pos, negsuc, nat_abs, ◌-ℤ◌, +ℤ_idl}
use lib.ListN.{length}
use lib.Signed.{mag, lt_z}
use mir.Syntax.{w32, w64}
use mir.Val.{SFits, to_z, of_z}
use mir.Facts.{to_z-of_z}
use borrow.Author.Tests.{ltb-true}
use Rattle.text_numbers.specs.Number.{digits, number_bytes}

-- what a local of type i32 or i64 gives back of a value that was put in
abbrev pub again : ℤ → ℤ
again z = to_z w32 (of_z w32 z)

abbrev pub again64 : ℤ → ℤ
again64 z = to_z w64 (of_z w64 z)

-- ---- a number after a minus sign: `-i64::from(value)`

pub minus : (n : ℕ) (z : ℤ) → 0 < n → n < 2 ^ 32 → z ≡ pos n → again64 (pos 0 -ℤ again64 z) ≡ negsuc (n - 1)
minus zero z h l e = absurd (omega arith)
minus (suc n) z h l e =
    let b : again64 z ≡ pos (suc n) = ap again64 e ∙ to_z-of_z {w = w64} (record { sfits = omega arith }) in
    let k : suc n - 1 ≡ n = omega arith in
    rw k (ap (λ (y : ℤ). again64 (pos 0 -ℤ y)) b ∙ ap again64 (+ℤ_idl (negsuc n)) ∙ to_z-of_z {w = w64} (record { sfits = omega arith }))

-- ---- the bytes of a word, by its size

bytes-negative-of : (z : ℤ) → lt_z z (pos 0) ≡ true → number_bytes z ≡ 45 ∷ digits (nat_abs z)
unfolding number_bytes
bytes-negative-of (pos n) e = absurd (omega (arith, ltb-true n 0 e))
bytes-negative-of (negsuc n) e = refl

pub bytes-negative : (z : ℤ) (m : ℕ) → SFits w32 z → m ≡ nat_abs (again z) → lt_z (again z) (pos 0) ≡ true → number_bytes z ≡ 45 ∷ digits m
bytes-negative z m f h e = let b : again z ≡ z = to_z-of_z f in rw (h, b) (bytes-negative-of z (rw b at e))

bytes-positive-of : (z : ℤ) → lt_z z (pos 0) ≡ false → number_bytes z ≡ digits (nat_abs z)
unfolding number_bytes
bytes-positive-of (pos n) e = refl
bytes-positive-of (negsuc n) e = absurd (let z : ◌≡◌ {A = ℕ} 0 1 = cc in omega arith)

pub bytes-positive : (z : ℤ) (m : ℕ) → SFits w32 z → m ≡ nat_abs (again z) → lt_z (again z) (pos 0) ≡ false → number_bytes z ≡ digits m
bytes-positive z m f h e = let b : again z ≡ z = to_z-of_z f in rw (h, b) (bytes-positive-of z (rw b at e))

size-of : (z : ℤ) → mag z < 2 ^ 31 → nat_abs z ≤ 2147483648
size-of (pos n) h = omega arith
size-of (negsuc n) h = omega arith

pub size_small : (z : ℤ) → SFits w32 z → nat_abs (again z) ≤ 2147483648
size_small z f = rw (to_z-of_z f) (size-of z f.sfits)

pub length-again : (z : ℤ) (n : ℕ) → SFits w32 z → n ≡ length (number_bytes (again z)) → n ≡ length (number_bytes z)
length-again z n f e = e ∙ ap (λ (y : ℤ). length (number_bytes y)) (to_z-of_z f)
