-- Puts: the own lines of an if and of a while, put one after the other.
use Rattle.std.specs.Prelude.{◌≡◌, refl, Bool, true, false, List, [], ◌∷◌, ℕ, zero, suc, ◌+◌, ℤ}
use Rattle.flat.specs.Lines.{Operand, FlatLine, jump, jump_zero, jump_other}
use Rattle.flat.specs.Words.{parts, unused, line_parts, distance}
use Rattle.flat_rows.specs.Places.{if_own, while_own}
use Rattle.flat_rows.specs.LinesPut.{put_line, put_all}

pub puts_none : (out : List ℤ) → out ≡ put_all [] out
unfolding put_all
puts_none out = refl

pub puts_one : (out after : List ℤ) (i : ℕ) (x : FlatLine) → after ≡ put_line i (line_parts i x) out → after ≡ put_all ((i, x) ∷ []) out
unfolding put_all
puts_one out after i x e = e

pub puts-two : (out middle after : List ℤ) (i j : ℕ) (x y : FlatLine) → middle ≡ put_line i (line_parts i x) out → after ≡ put_line j (line_parts j y) middle → after ≡ put_all ((i, x) ∷ (j, y) ∷ []) out
unfolding put_all
puts-two out middle after i j x y e f = rw f (rw e)

module _ (a : Operand) (out : List ℤ) where
  pub if-neither : (y z i : ℕ) → y ≡ 0 → z ≡ 0 → out ≡ put_all (if_own a y z i) out
  if-neither y z i p q = rw (p, q) (puts_none out)

  pub if-second : (after : List ℤ) (y z i : ℕ) → y ≡ 0 → (z ≡ 0 → ⊥) → after ≡ put_line i (parts 44 0 a unused (distance i (i + (1 + z)))) out → after ≡ put_all (if_own a y z i) out
  if-second after y zero i p q e = absurd (q refl)
  if-second after y (suc z) i p q e = rw p (puts_one out after i (jump_other a (i + (1 + suc z))) e)

  pub if-first : (after : List ℤ) (y z i : ℕ) → (y ≡ 0 → ⊥) → z ≡ 0 → after ≡ put_line i (parts 43 0 a unused (distance i (i + (1 + y)))) out → after ≡ put_all (if_own a y z i) out
  if-first after zero z i p q e = absurd (p refl)
  if-first after (suc y) z i p q e = rw q (puts_one out after i (jump_zero a (i + (1 + suc y))) e)

  pub if-both : (middle after : List ℤ) (y z i : ℕ) → (y ≡ 0 → ⊥) → (z ≡ 0 → ⊥) → middle ≡ put_line i (parts 43 0 a unused (distance i (i + (2 + y)))) out
      → after ≡ put_line (i + 1 + y) (parts 52 0 unused unused (distance (i + 1 + y) (i + (2 + (y + z))))) middle → after ≡ put_all (if_own a y z i) out
  if-both middle after zero z i p q e f = absurd (p refl)
  if-both middle after (suc y) zero i p q e f = absurd (q refl)
  if-both middle after (suc y) (suc z) i p q e f = puts-two out middle after i (i + 1 + suc y) (jump_zero a (i + (2 + suc y))) (jump (i + (2 + (suc y + suc z)))) e f

  pub while-endless : (after : List ℤ) (b : Bool) (y i : ℕ) → b ≡ true → after ≡ put_line (i + y) (parts 52 0 unused unused (distance (i + y) i)) out → after ≡ put_all (while_own b a y i) out
  while-endless after b y i p e = rw p (puts_one out after (i + y) (jump i) e)

  pub while-tested : (middle after : List ℤ) (b : Bool) (y i : ℕ) → b ≡ false → middle ≡ put_line i (parts 43 0 a unused (distance i (i + (y + 2)))) out
      → after ≡ put_line (i + 1 + y) (parts 52 0 unused unused (distance (i + 1 + y) i)) middle → after ≡ put_all (while_own b a y i) out
  while-tested middle after b y i p e f = rw p (puts-two out middle after i (i + 1 + y) (jump_zero a (i + (y + 2))) (jump i) e f)
