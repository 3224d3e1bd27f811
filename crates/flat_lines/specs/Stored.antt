-- Stored: five words stored are a line put; a test and a jump in five words; a distance as the code works it out.
use Rattle.std.specs.Prelude.{◌≡◌, refl, List, [], ◌∷◌, ℕ, zero, suc, ◌+◌, ◌*◌, ◌-◌, ◌≤◌, ◌<◌, ℤ, pos, negsuc, ◌-ℤ◌, set}
use Rattle.std.proofs.Common.{ap, ◌∙◌, arith, SFits, to_z, lt-ltb, le-ltb}
use Rattle.std.proofs.lemmas.List.Edits.{sets}
use Rattle.std.specs.Int.{w32}
use Rattle.std.proofs.Math.Facts.{to_z_pos}
use Rattle.flat.specs.Lines.{Operand}
use Rattle.flat.specs.Words.{Parts, parts, unused, sort_of, word_of, five_words, distance}
use Rattle.flat_rows.specs.Operations.{test-five, plain-five}
use Rattle.flat_rows.specs.LinesPut.{put_line}

-- Five words stored are a line put.
pub put_as : (out after : List ℤ) (line : ℕ) (ws : List ℤ) (p : Parts) → after ≡ sets out (5 * line) ws → ws ≡ five_words p → after ≡ put_line line p out
unfolding put_line
put_as out after line ws p e f = e ∙ ap (sets out (5 * line)) f

pub five-stored : (l : List ℤ) (k : ℕ) (a b c d e f g h i j : ℤ) → a ≡ f → b ≡ g → c ≡ h → d ≡ i → e ≡ j
    → set (set (set (set (set l k a) (k + 1) b) (k + 2) c) (k + 3) d) (k + 4) e ≡ sets l k (f ∷ g ∷ h ∷ i ∷ j ∷ [])
five-stored l k a b c d e f g h i j p q r s t =
    let one_on : k + 1 ≡ suc k = omega arith in
    let two-on : k + 2 ≡ suc (suc k) = omega arith in
    let three-on : k + 3 ≡ suc (suc (suc k)) = omega arith in
    let four-on : k + 4 ≡ suc (suc (suc (suc k))) = omega arith in
    rw (p, q, r, s, t, one_on, two-on, three-on, four-on)

-- ---- distances

pub distance-onward : (i j : ℕ) → i < j → pos (j - (i + 1)) ≡ distance i j
distance-onward i j h = let e : j - (i + 1) ≡ j - suc i = omega arith in rw (lt-ltb i j h, e)

pub distance_back : (i j : ℕ) → j ≤ i → negsuc (i - j) ≡ distance i j
distance_back i j h = rw (le-ltb i j h)

minus_one : (n : ℕ) → negsuc 0 -ℤ pos n ≡ negsuc n
minus_one zero = refl
minus_one (suc n) = let e : suc (0 + n) ≡ suc n = omega arith in ap negsuc e

pub back_is : (n : ℕ) → n < 65536 → negsuc 0 -ℤ to_z w32 n ≡ negsuc n
back_is n h = rw (to_z_pos w32 {n = n} (omega arith)) (minus_one n)

pub back_fits : (n : ℕ) → n < 65536 → SFits w32 (negsuc 0 -ℤ to_z w32 n)
back_fits n h = rw (back_is n h) (record { sfits = omega arith })

pub plain-as : (out after : List ℤ) (line kind : ℕ) (d e : ℤ) → after ≡ sets out (5 * line) (pos kind ∷ pos 0 ∷ pos 0 ∷ pos 0 ∷ d ∷ []) → d ≡ e → after ≡ put_line line (parts kind 0 unused unused e) out
plain-as out after line kind d e f g = put_as out after line (pos kind ∷ pos 0 ∷ pos 0 ∷ pos 0 ∷ d ∷ []) (parts kind 0 unused unused e) f (rw g (plain-five kind e))

pub test-as : (out after : List ℤ) (line kind x : ℕ) (a : Operand) (w d e : ℤ) → after ≡ sets out (5 * line) (pos (kind + 64 * x) ∷ pos 0 ∷ w ∷ pos 0 ∷ d ∷ []) → x ≡ sort_of a → w ≡ word_of a → d ≡ e → after ≡ put_line line (parts kind 0 a unused e) out
test-as out after line kind x a w d e f g h i = put_as out after line (pos (kind + 64 * x) ∷ pos 0 ∷ w ∷ pos 0 ∷ d ∷ []) (parts kind 0 a unused e) f (rw i (test-five kind x a w e g h))
