-- Rows put into a buffer, line by line, then the whole text.
use mathlib.Core.Path.{◌≡◌, sym, ap, ◌∙◌}
use mathlib.Core.List.{List, ◌++◌, append_assoc, append-nil}
use Prim.Native.Nat.{ℕ, zero, suc, ◌+◌, ◌*◌, ◌-◌, ◌≤◌, ◌<◌}
use native.Mathlib.Nat.{mul-zero, mul-suc, mul-le-mul_left, mul-le-mul_right}
use native.Mathlib.Omega.{arith}
use native.Mathlib.Numerals.{add-one}
use lib.IntN.{ℤ}
use lib.ListN.{length, take, drop, length-append, length-drop, length-take}
use lib.Seq.{drop-drop}
use Rattle.text_lines.specs.Line.{line_bytes}
use Rattle.text_form.specs.Text.{rows_bytes, table_bytes}
use Rattle.text_form.proofs.TextLaws.{row_more}
use Rattle.text_numbers.specs.Writer.{Put}
use Rattle.text_form.specs.Writer.{Fills}
use Rattle.words.specs.OverLaws.{part, back_in}
use Rattle.text_numbers.specs.PutLaws.{put-none, put_as, put-length, put_next, put-room, put-inside, put_back}

-- ---- rows

-- a row of the table, as its writer is lent it
abbrev pub row_at : ℕ → ℕ → List ℤ → List ℤ
row_at width row rows = take (width * row + width - width * row) (drop (width * row) rows)

rows-suc : (width row : ℕ) (rows : List ℤ) → rows_bytes width row rows ++ line_bytes (take width (drop (width * row) rows)) ≡ rows_bytes width (suc row) rows
unfolding rows_bytes
rows-suc width zero rows = rw (mul-zero width) (sym (append-nil _))
rows-suc width (suc row) rows =
    let e : width + width * row ≡ width * suc row = omega (arith, mul-suc width row) in
    append_assoc (line_bytes (take width rows)) (rows_bytes width row (drop width rows)) _
    ∙ ap (λ (l : List ℤ). line_bytes (take width rows) ++ (rows_bytes width row (drop width rows) ++ line_bytes (take width l))) (sym (drop-drop (width * row) width rows ∙ ap (λ (n : ℕ). drop n rows) e))
    ∙ ap (λ (l : List ℕ). line_bytes (take width rows) ++ l) (rows-suc width row (drop width rows))

rows_next : (width row : ℕ) (rows : List ℤ) → rows_bytes width row rows ++ line_bytes (row_at width row rows) ≡ rows_bytes width (row + 1) rows
rows_next width row rows =
    let e : width * row + width - width * row ≡ width = omega arith in
    rw (add-one row, e) (rows-suc width row rows)

rows-fewer : (width row count : ℕ) (rows : List ℤ) → row ≤ count → length (rows_bytes width row rows) ≤ length (rows_bytes width count rows)
unfolding rows_bytes
rows-fewer width zero count rows h = omega arith
rows-fewer width (suc row) zero rows h = absurd (omega arith)
rows-fewer width (suc row) (suc count) rows h =
    omega (
      arith,
      rows-fewer width row count (drop width rows) (omega arith),
      length-append (line_bytes (take width rows)) (rows_bytes width row (drop width rows)),
      length-append (line_bytes (take width rows)) (rows_bytes width count (drop width rows)),
    )

-- so many of the rows were put into a buffer
pub record Rowed (width : ℕ) (rows : List ℤ) (count row at : ℕ) (buffer left : List ℕ) : Type 0 where
  pub wide : 0 < width
  pub whole : length rows ≡ width * count
  pub room : length (rows_bytes width count rows) ≤ length buffer
  pub few : row ≤ count
  pub put : Put (rows_bytes width row rows) buffer at left

pub rowed-start : (width : ℕ) (rows : List ℤ) (count : ℕ) (buffer : List ℕ) → 0 < width → length rows ≡ width * count → length (rows_bytes width count rows) ≤ length buffer → Rowed width rows count 0 0 buffer buffer
unfolding rows_bytes
rowed-start width rows count buffer w e h = record { wide = w; whole = e; room = h; few = omega arith; put = put-none buffer }

module _ {width : ℕ} {rows : List ℤ} {count row at : ℕ} {buffer left : List ℕ} (b : Rowed width rows count row at buffer left) where
  fits-so-far : length (rows_bytes width row rows) ≤ length buffer
  fits-so-far = omega (arith, b.room, rows-fewer width row count rows b.few)

  pub rowed-length : length left ≡ length buffer
  rowed-length = put-length b.put fits-so-far

  pub rowed-inside : at ≤ length left
  rowed-inside = put-inside b.put fits-so-far

  pub rowed-end : count ≤ row → Put (rows_bytes width count rows) buffer at left
  rowed-end h = let e : row ≡ count = omega (arith, b.few) in put_as (ap (λ (n : ℕ). rows_bytes width n rows) e) b.put

  module _ (more : row < count) where
    -- the row lies inside the table
    pub row_inside : width * row + width ≤ length rows
    row_inside = omega (arith, b.whole, row_more width row, mul-le-mul_left width (le-row more))
      where
        le-row : row < count → row + 1 ≤ count
        le-row h = omega arith

    -- and has a lower number than the table has words
    pub row_below : row < length rows
    row_below = omega (arith, mul-le-mul_right (row + 1) b.wide, row_more width row, row_inside)

    pub row-filled : 0 < length (row_at width row rows)
    row-filled = rw (length-take, length-drop) (omega (arith, b.wide, row_inside))

    pub row_room : length (line_bytes (row_at width row rows)) ≤ length (part at left)
    row_room = put-room b.put (line_bytes (row_at width row rows)) (rw (rows_next width row rows) (omega (arith, b.room, rows-fewer width (row + 1) count rows (omega arith))))

    pub rowed-next : (size : ℕ) (lent : List ℕ) → Put (line_bytes (row_at width row rows)) (part at left) size lent → Rowed width rows count (row + 1) (at + size) buffer (back_in at left lent)
    rowed-next size lent p = record {
      wide = b.wide;
      whole = b.whole;
      room = b.room;
      few = omega arith;
      put = put_as (rows_next width row rows) (put_next b.put (line_bytes (row_at width row rows)) size lent p);
    }

-- ---- a whole text

pub text-size : (width count : ℕ) (header rows : List ℤ) → length (table_bytes width count header rows) ≡ length (line_bytes header) + length (rows_bytes width count rows)
unfolding table_bytes
text-size width count header rows = length-append (line_bytes header) (rows_bytes width count rows)

-- the header was put into a buffer, with `end` bytes
pub record Headed (width count : ℕ) (header rows : List ℤ) (buffer : List ℕ) (end : ℕ) (left : List ℕ) : Type 0 where
  pub fills : Fills width count header rows buffer
  pub put : Put (line_bytes header) buffer end left

module _ {width count : ℕ} {header rows : List ℤ} {buffer : List ℕ} {end : ℕ} {left : List ℕ} (b : Headed width count header rows buffer end left) where
  line-fits : length (line_bytes header) ≤ length buffer
  line-fits = omega (arith, b.fills.room, text-size width count header rows)

  pub headed-inside : end ≤ length left
  headed-inside = put-inside b.put line-fits

  pub headed-room : length (rows_bytes width count rows) ≤ length (part end left)
  unfolding table_bytes
  headed-room = put-room b.put (rows_bytes width count rows) b.fills.room

  pub headed-back : (lent : List ℕ) → length lent ≡ length (part end left) → length (back_in end left lent) ≡ length buffer
  headed-back lent e = put_back b.put lent line-fits e

  pub headed-rows : (size : ℕ) (lent : List ℕ) → Put (rows_bytes width count rows) (part end left) size lent → Put (table_bytes width count header rows) buffer (end + size) (back_in end left lent)
  unfolding table_bytes
  headed-rows size lent p = put_next b.put (rows_bytes width count rows) size lent p
