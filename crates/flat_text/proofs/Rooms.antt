-- The bytes that words leave of a room, counted down word by word; and whether a text fits.
use Rattle.std.specs.Prelude.{None, Option, Some}
use Rattle.std.specs.Option.{is_some}
use mathlib.Core.Path.{◌≡◌, sym, ap}
use mathlib.Core.Bool.{true, false}
use mathlib.Core.List.{List}
use Prim.Native.Nat.{ℕ, ◌+◌, ◌*◌, ◌-◌, ◌^◌, ◌≤◌, ◌<◌}
use native.Mathlib.Omega.{arith}
use lib.Dec.{leb}
use lib.IntN.{ℤ, pos}
use lib.Signed.{mag}
use lib.ListN.{length, take, drop, get_or, take-append-drop}
use borrow.Author.Tests.{le-leb, lt-leb, leb-true, leb-false}
use Rattle.words.specs.Laws.{by_cases}
use Rattle.text_numbers.specs.Number.{number_bytes}
use Rattle.text_numbers.specs.NumberLaws.{not_some}
use Rattle.text_lines.specs.Writer.{bytes_of}
use Rattle.text_lines.proofs.Sizing.{bytes-append, Summed, summed-start, summed-next, summed-end}
use Rattle.text_form.proofs.Sizing.{bytes-text}
use Rattle.flat.specs.Words.{line_count}
use Rattle.flat_text.specs.Text.{flat_bytes}
use Rattle.flat_text.specs.Writer.{left_of}

-- ---- what is left

left-enough : (room size : ℕ) → size ≤ room → Some (room - size) ≡ left_of room size
unfolding left_of
left-enough room size h = rw (le-leb size room h)

left-short : (room size : ℕ) → room < size → None ≡ left_of room size
unfolding left_of
left-short room size h = rw (lt-leb size room h)

-- so many bytes leave so many of a room
pub record Leaves (room size left : ℕ) : Type 0 where
  pub fits : size ≤ room
  pub rest : left ≡ room - size

pub leaves_of : (room size left : ℕ) → Some left ≡ left_of room size → Leaves room size left
unfolding left_of
leaves_of room size left e =
    by_cases (leb size room)
    (λ t. let same : Some left ≡ Some (room - size) = rw t at e in record { fits = leb-true _ _ t; rest = cc })
    (λ t. not_some (sym (rw t at e)))

pub short-of : (room size : ℕ) → None ≡ left_of room size → room < size
unfolding left_of
short-of room size e = by_cases (leb size room) (λ t. not_some (rw t at e)) (λ t. leb-false _ _ t)

-- ---- the walk

-- the words before the i-th leave `left` bytes of `room`
pub record Behind (words : List ℤ) (room left i : ℕ) : Type 0 where
  pub within : left ≤ room
  pub summed : Summed words (room - left) i

pub behind-start : (words : List ℤ) (room : ℕ) → Behind words room room 0
behind-start words room =
    let e : room - room ≡ 0 = omega arith in
    record { within = omega arith; summed = rw e (summed-start words) }

bytes-fewer : (n : ℕ) (words : List ℤ) → bytes_of (take n words) ≤ bytes_of words
bytes-fewer n words = omega (arith, bytes-append (take n words) (drop n words), ap bytes_of (take-append-drop n words))

module _ {words : List ℤ} {room left i : ℕ} (b : Behind words room left i) where
  pub behind-end : length words ≤ i → Some left ≡ left_of room (bytes_of words)
  behind-end h =
      let m = summed-end b.summed h in
      let e : left ≡ room - bytes_of words = omega (arith, m.sum, b.within) in
      rw e (left-enough room (bytes_of words) (omega (arith, m.sum)))

  module _ (h : i < length words) (f : mag (get_or words i (pos 0)) < 2 ^ 31) (count : ℕ) (e : count ≡ length (number_bytes (get_or words i (pos 0)))) where
    more : Summed words (room - left + (count + 1)) (i + 1)
    more = summed-next b.summed h f count e

    pub behind-short : left < count + 1 → None ≡ left_of room (bytes_of words)
    behind-short s = left-short room (bytes_of words) (omega (arith, more.sum, bytes-fewer (i + 1) words, b.within))

    pub behind-next : count + 1 ≤ left → Behind words room (left - (count + 1)) (i + 1)
    behind-next s =
        let same : room - (left - (count + 1)) ≡ room - left + (count + 1) = omega (arith, b.within) in
        record { within = omega (arith, b.within); summed = rw same more }

-- ---- whether a text fits

module _ (header list : List ℤ) (filled : 0 < length header) (whole : length list ≡ 5 * line_count list) (room : ℕ) where
  total : length (flat_bytes header list) ≡ bytes_of header + bytes_of list
  total = bytes-text 5 (line_count list) header list (omega arith) filled whole

  pub header-short : room < bytes_of header → false ≡ leb (length (flat_bytes header list)) room
  header-short h = sym (lt-leb (length (flat_bytes header list)) room (omega (arith, total)))

  module _ {left : ℕ} (l : Leaves room (bytes_of header) left) where
    list-short : left < bytes_of list → false ≡ leb (length (flat_bytes header list)) room
    list-short h = sym (lt-leb (length (flat_bytes header list)) room (omega (arith, total, l.fits, l.rest)))

    list-fits : bytes_of list ≤ left → true ≡ leb (length (flat_bytes header list)) room
    list-fits h = sym (le-leb (length (flat_bytes header list)) room (omega (arith, total, l.fits, l.rest)))

    -- whether the list leaves something of what the header left
    pub list-told : (rest : Option ℕ) → rest ≡ left_of left (bytes_of list) → is_some rest ≡ leb (length (flat_bytes header list)) room
    list-told None e = list-short (short-of left (bytes_of list) e)
    list-told (Some n) e = list-fits (leaves_of left (bytes_of list) n e).fits
