-- Numbers: the sizes and places of an if and a while, as the code works them out.
use Rattle.std.specs.Prelude.{◌≡◌, refl, Bool, true, false, ℕ, zero, suc, ◌+◌}
use Rattle.std.proofs.Common.{sym, ◌∙◌, arith}
use Rattle.flat_fate.specs.Code.{if_lines, while_lines}
use Rattle.flat_fate.specs.Branches.{first_at, second_at, body_at}

pub lines-neither : (y z : ℕ) → y ≡ 0 → z ≡ 0 → 0 ≡ if_lines y z
lines-neither y z p q = rw (p, q)

pub lines-second : (y z : ℕ) → y ≡ 0 → (z ≡ 0 → ⊥) → 1 + z ≡ if_lines y z
lines-second y zero p q = absurd (q refl)
lines-second y (suc z) p q = rw p

pub lines-first : (y z : ℕ) → (y ≡ 0 → ⊥) → z ≡ 0 → 1 + y ≡ if_lines y z
lines-first zero z p q = absurd (p refl)
lines-first (suc y) z p q = rw q

pub lines-both : (y z : ℕ) → (y ≡ 0 → ⊥) → (z ≡ 0 → ⊥) → 2 + (y + z) ≡ if_lines y z
lines-both zero z p q = absurd (p refl)
lines-both (suc y) zero p q = absurd (q refl)
lines-both (suc y) (suc z) p q = refl

pub first-neither : (y z i : ℕ) → y ≡ 0 → z ≡ 0 → i ≡ first_at y z i
first-neither y z i p q = rw (p, q) (let e : i ≡ i + 0 = omega arith in e)

pub first-second : (y z i : ℕ) → y ≡ 0 → (z ≡ 0 → ⊥) → i + (1 + z) ≡ first_at y z i
first-second y zero i p q = absurd (q refl)
first-second y (suc z) i p q = rw p

pub first_some : (y z i : ℕ) → (y ≡ 0 → ⊥) → i + 1 ≡ first_at y z i
first_some zero z i p = absurd (p refl)
first_some (suc y) z i p = refl

pub second-neither : (y z i : ℕ) → y ≡ 0 → z ≡ 0 → i ≡ second_at y z i
second-neither y z i p q = rw (p, q) (let e : i ≡ i + 0 = omega arith in e)

pub second-only : (y z i : ℕ) → y ≡ 0 → (z ≡ 0 → ⊥) → i + 1 ≡ second_at y z i
second-only y zero i p q = absurd (q refl)
second-only y (suc z) i p q = rw p

pub second_none : (y z i : ℕ) → (y ≡ 0 → ⊥) → z ≡ 0 → i + (1 + y) ≡ second_at y z i
second_none zero z i p q = absurd (p refl)
second_none (suc y) z i p q = rw q

pub second-both : (y z i : ℕ) → (y ≡ 0 → ⊥) → (z ≡ 0 → ⊥) → i + (2 + y) ≡ second_at y z i
second-both zero z i p q = absurd (p refl)
second-both (suc y) zero i p q = absurd (q refl)
second-both (suc y) (suc z) i p q = refl

pub lines-endless : (b : Bool) (y : ℕ) → b ≡ true → y + 1 ≡ while_lines b y
lines-endless b y e = rw e

pub lines-tested : (b : Bool) (y : ℕ) → b ≡ false → y + 2 ≡ while_lines b y
lines-tested b y e = rw e

pub body-endless : (b : Bool) (i : ℕ) → b ≡ true → i ≡ body_at b i
body-endless b i e = rw e

pub body-tested : (b : Bool) (i : ℕ) → b ≡ false → i + 1 ≡ body_at b i
body-tested b i e = rw e
