-- A line put into a buffer, number by number.
use mathlib.Core.Path.{◌≡◌, refl, sym, ap, ◌∙◌}
use mathlib.Core.List.{List, [], ◌∷◌, ◌++◌, map, append_assoc}
use Prim.Native.Nat.{ℕ, ◌+◌, ◌-◌, ◌≤◌, ◌<◌}
use native.Mathlib.Omega.{arith}
use lib.IntN.{ℤ, pos}
use lib.ListN.{length, take, drop, set, get_or, length-append, length-drop, length-set}
use mir.Syntax.{w32}
use mir.Val.{SFits}
use mir.Facts.{to_z-of_z}
use Rattle.text_numbers.specs.Number.{number_bytes}
use Rattle.text_lines.specs.Line.{parted, line_bytes}
use Rattle.text_numbers.specs.Writer.{Put}
use Rattle.words.specs.OverLaws.{part, back_in, rest_of}
use Rattle.text_numbers.proofs.Signs.{again}
use Rattle.text_numbers.specs.PutLaws.{put_as, put-length, put_byte, put_next, put-room, put_back}

abbrev pub first : List ℤ → ℤ
first words = get_or words 0 (pos 0)

pub line-one : (words : List ℤ) → length words ≡ 1 → number_bytes (first words) ++ (10 ∷ []) ≡ line_bytes words
unfolding line_bytes parted
line-one [] h = absurd (omega arith)
line-one (z ∷ []) h = refl
line-one (z ∷ (y ∷ zs)) h = absurd (omega arith)

pub line-more : (words : List ℤ) → 1 < length words → (number_bytes (first words) ++ (9 ∷ [])) ++ line_bytes (drop 1 words) ≡ line_bytes words
unfolding line_bytes parted
line-more [] h = absurd (omega arith)
line-more (z ∷ []) h = absurd (omega arith)
line-more (z ∷ (y ∷ zs)) h =
    append_assoc (number_bytes z) (9 ∷ []) _ ∙ sym (append_assoc (number_bytes z) (9 ∷ parted (map number_bytes (y ∷ zs))) (10 ∷ []))

pub line_first : (words : List ℤ) → 0 < length words → length (number_bytes (first words)) < length (line_bytes words)
line_first [] h = absurd (omega arith)
line_first (z ∷ []) h = omega (arith, ap length (line-one (z ∷ []) refl), length-append (number_bytes z) (10 ∷ []))
line_first (z ∷ (y ∷ zs)) h =
    omega (arith, ap length (line-more (z ∷ (y ∷ zs)) (omega arith)), length-append (number_bytes z ++ (9 ∷ [])) (line_bytes (y ∷ zs)), length-append (number_bytes z) (9 ∷ []))

-- the first number of a line was put into a buffer
pub record Begun (words : List ℤ) (buffer : List ℕ) (count : ℕ) (left : List ℕ) : Type 0 where
  pub filled : 0 < length words
  pub room : length (line_bytes words) ≤ length buffer
  pub put : Put (number_bytes (first words)) buffer count left

pub begun-room : (words : List ℤ) (buffer : List ℕ) → SFits w32 (first words) → 0 < length words → length (line_bytes words) ≤ length buffer → length (number_bytes (again (first words))) ≤ length buffer
begun-room words buffer f h room = rw (to_z-of_z f) (omega (arith, line_first words h))

pub begun : (words : List ℤ) (buffer : List ℕ) (count : ℕ) (left : List ℕ) → SFits w32 (first words) → 0 < length words → length (line_bytes words) ≤ length buffer
    → Put (number_bytes (again (first words))) buffer count left → Begun words buffer count left
begun words buffer count left f h room p = record { filled = h; room = room; put = put_as (ap number_bytes (to_z-of_z f)) p }

module _ {words : List ℤ} {buffer : List ℕ} {count : ℕ} {left : List ℕ} (b : Begun words buffer count left) where
  fits : length (number_bytes (first words)) < length buffer
  fits = omega (arith, line_first words b.filled, b.room)

  pub begun-below : count < length buffer
  begun-below = omega (arith, fits, b.put.size)

  pub begun-length : length left ≡ length buffer
  begun-length = put-length b.put (omega (arith, fits))

  pub begun-set : (byte : ℕ) → length (set left count byte) ≡ length buffer
  begun-set byte = length-set left count byte ∙ begun-length

  pub begun-one : length words ≡ 1 → Put (line_bytes words) buffer (count + 1) (set left count 10)
  begun-one h = put_as (line-one words h) (put_byte b.put 10 fits)

  module _ (more : 1 < length words) where
    parting : Put (number_bytes (first words) ++ (9 ∷ [])) buffer (count + 1) (set left count 9)
    parting = put_byte b.put 9 fits

    whole : length ((number_bytes (first words) ++ (9 ∷ [])) ++ line_bytes (drop 1 words)) ≤ length buffer
    whole = rw (line-more words more) b.room

    sum : length (number_bytes (first words) ++ (9 ∷ [])) + length (line_bytes (drop 1 words)) ≤ length buffer
    sum = rw length-append at whole

    others : take (length words - 1) (drop 1 words) ≡ drop 1 words
    others = rest_of words 1

    pub others-filled : 0 < length (take (length words - 1) (drop 1 words))
    others-filled = rw (others, length-drop) (omega arith)

    pub others-fewer : length (take (length words - 1) (drop 1 words)) < length words
    others-fewer = rw (others, length-drop) (omega arith)

    pub others-room : length (line_bytes (take (length words - 1) (drop 1 words))) ≤ length (part (count + 1) (set left count 9))
    others-room = rw others (put-room parting (line_bytes (drop 1 words)) whole)

    pub others-back : (lent : List ℕ) → length lent ≡ length (part (count + 1) (set left count 9)) → length (back_in (count + 1) (set left count 9) lent) ≡ length buffer
    others-back lent e = put_back parting lent (omega (arith, sum)) e

    module _ (size : ℕ) (lent : List ℕ) (p : Put (line_bytes (take (length words - 1) (drop 1 words))) (part (count + 1) (set left count 9)) size lent) where
      pub begun_more : Put (line_bytes words) buffer (count + 1 + size) (back_in (count + 1) (set left count 9) lent)
      begun_more = put_as (line-more words more) (put_next parting (line_bytes (drop 1 words)) size lent (rw others at p))

      pub begun-total : count + 1 + size ≤ length buffer
      begun-total = omega (arith, begun_more.size, b.room)
