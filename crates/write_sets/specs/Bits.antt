-- Bits of a number: of a union, of one bit alone, after a shift.
use Rattle.std.specs.Prelude.{◌≡◌, refl, Bool, true, false, ◌||◌, ℕ, zero, suc, ◌+◌, ◌*◌, ◌/◌, ◌%◌, ◌^◌, ◌<◌, max, eqb}
use Rattle.std.proofs.Common.{sym, ap, ◌∙◌, arith, mod-lt, zero-lt-suc, shr-shr}
use Rattle.std.proofs.Math.Dec.{eqb-zero-suc, eqb-suc-zero, eqb-suc-suc}
use Rattle.std.specs.Int.Bits.{bit_or, or_step, shifted_half, shifted_even}

-- Bit i of n is 1.
unfoldable pub has_bit : ℕ → ℕ → Bool
has_bit n zero = eqb (n % 2) 1
has_bit n (suc i) = has_bit (n / 2) i

-- a binary digit is 0 or 1
pub two : (d : ℕ) → d < 2 → (P : ℕ → Type 0) → P 0 → P 1 → P d
two zero h P p q = p
two (suc zero) h P p q = q
two (suc (suc d)) h P p q = absurd (omega arith)

low : (n : ℕ) → n % 2 < 2
low n = mod-lt n (zero-lt-suc 1)

or-digit : (a b : ℕ) → a < 2 → b < 2 → eqb (max a b) 1 ≡ (eqb a 1 || eqb b 1)
or-digit a b h k = two a h (λ (d : ℕ). eqb (max d b) 1 ≡ (eqb d 1 || eqb b 1)) (two b k (λ (e : ℕ). eqb (max 0 e) 1 ≡ eqb e 1) refl refl) (two b k (λ (e : ℕ). eqb (max 1 e) 1 ≡ true) refl refl)

-- n = q * 2 + d
half : (q d : ℕ) → d < 2 → (q * 2 + d) / 2 ≡ q
half q d h = omega arith

digit : (q d : ℕ) → d < 2 → (q * 2 + d) % 2 ≡ d
digit q d h = omega arith

pub bit-or : (a b i : ℕ) → has_bit (bit_or a b) i ≡ (has_bit a i || has_bit b i)
unfolding has_bit
bit-or a b zero = ap (λ (n : ℕ). eqb (n % 2) 1) (or_step a b) ∙ ap (λ (n : ℕ). eqb n 1) (digit (bit_or (a / 2) (b / 2)) (max (a % 2) (b % 2)) (omega (arith, low a, low b))) ∙ or-digit (a % 2) (b % 2) (low a) (low b)
bit-or a b (suc i) = ap (λ (n : ℕ). has_bit (n / 2) i) (or_step a b) ∙ ap (λ (n : ℕ). has_bit n i) (half (bit_or (a / 2) (b / 2)) (max (a % 2) (b % 2)) (omega (arith, low a, low b))) ∙ bit-or (a / 2) (b / 2) i

pub bit-none : (i : ℕ) → has_bit 0 i ≡ false
unfolding has_bit
bit-none zero = refl
bit-none (suc i) = bit-none i

pub bit-shift : (n i : ℕ) → eqb (n / 2 ^ i % 2) 1 ≡ has_bit n i
unfolding has_bit
bit-shift n zero = ap (λ (m : ℕ). eqb (m % 2) 1) (let z : n / 1 ≡ n = omega arith in z)
bit-shift n (suc i) = ap (λ (m : ℕ). eqb (m % 2) 1) (sym (shr-shr n 1 i ∙ ap (λ (k : ℕ). n / 2 ^ k) (let z : 1 + i ≡ suc i = omega arith in z))) ∙ bit-shift (n / 2) i

-- one bit alone
pub bit-single : (j i : ℕ) → has_bit (2 ^ j) i ≡ eqb j i
unfolding has_bit
bit-single zero zero = refl
bit-single zero (suc i) = bit-none i ∙ sym (eqb-zero-suc i)
bit-single (suc j) zero = ap (λ (n : ℕ). eqb n 1) (ap (λ (n : ℕ). n % 2) (let z : 2 ^ suc j ≡ 1 * 2 ^ suc j = omega arith in z) ∙ shifted_even 1 j) ∙ sym (eqb-suc-zero j)
bit-single (suc j) (suc i) = ap (λ (n : ℕ). has_bit n i) (ap (λ (n : ℕ). n / 2) (let z : 2 ^ suc j ≡ 1 * 2 ^ suc j = omega arith in z) ∙ shifted_half 1 j ∙ (let z : 1 * 2 ^ j ≡ 2 ^ j = omega arith in z)) ∙ bit-single j i ∙ sym (eqb-suc-suc j i)
