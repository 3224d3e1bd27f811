-- How many bytes a text takes, counted word by word; and what a writer leaves.
use Rattle.std.specs.Prelude.{Err, Ok, None, Some}
use mathlib.Core.Path.{◌≡◌, refl, sym, ap, ◌∙◌}
use mathlib.Core.Bool.{true}
use mathlib.Core.List.{List, [], ◌∷◌}
use Prim.Native.Nat.{ℕ, zero, suc, ◌+◌, ◌*◌, ◌≤◌, ◌<◌}
use native.Mathlib.Nat.{mul-zero, mul-suc}
use native.Mathlib.Omega.{arith}
use lib.Dec.{leb}
use lib.IntN.{ℤ}
use lib.ListN.{length, take, drop, length-append, length-drop, take-append-drop}
use lib.Seq.{length-take-le}
use borrow.Author.Tests.{le-leb, lt-leb}
use Rattle.words.specs.Laws.{header_fits-facts, count_fits-facts, leading-limits, row_limit-most}
use Rattle.words.specs.Table.{row_count}
use Rattle.words.specs.declared.Form.{Form}
use Rattle.text_lines.specs.Line.{line_bytes}
use Rattle.text_form.specs.Text.{rows_bytes, table_bytes, text_bytes}
use Rattle.text_form.specs.Answers.{finished, cause_of, write_bytes, write_result, Writes}
use Rattle.text_form.proofs.AnswerLaws.{cause-none}
use Rattle.text_numbers.specs.Writer.{Put}
use Rattle.text_lines.specs.Writer.{bytes_of, Measured}
use Rattle.text_form.specs.Writer.{Fills}
use Rattle.text_lines.proofs.Sizing.{bytes-append, bytes-line}
use Rattle.text_form.proofs.Shapes.{cause-some, cause-short}
use Rattle.text_form.proofs.Writing.{text-size}

-- ---- the bytes of a text

bytes-rows : (width count : ℕ) (rows : List ℤ) → 0 < width → length rows ≡ width * count → length (rows_bytes width count rows) ≡ bytes_of rows
unfolding rows_bytes bytes_of
bytes-rows width zero [] p h = refl
bytes-rows width zero (z ∷ rows) p h = absurd (omega (arith, mul-zero width))
bytes-rows width (suc count) rows p h =
    let one : length (take width rows) ≡ width = length-take-le width rows (omega (arith, mul-suc width count)) in
    let others : length (drop width rows) ≡ width * count = rw length-drop (omega (arith, mul-suc width count)) in
    length-append (line_bytes (take width rows)) (rows_bytes width count (drop width rows))
    ∙ omega (arith, bytes-line (take width rows) (omega arith), bytes-rows width count (drop width rows) p others, bytes-append (take width rows) (drop width rows), ap bytes_of (take-append-drop width rows))

pub bytes-text : (width count : ℕ) (header rows : List ℤ) → 0 < width → 0 < length header → length rows ≡ width * count → length (table_bytes width count header rows) ≡ bytes_of header + bytes_of rows
bytes-text width count header rows p h e = text-size width count header rows ∙ omega (arith, bytes-line header h, bytes-rows width count rows p e)

-- ---- what a writer leaves

-- a header and rows that no cause turns away, and the sizes of both
pub record Sized (form : Form) (header rows : List ℤ) (first others : ℕ) : Type 0 where
  pub passes : cause_of form header (length rows) true ≡ None
  pub header_size : Measured header first
  pub rows_size : Measured rows others

-- tables within their limits are small
pub record Limited (header rows : List ℤ) : Type 0 where
  pub filled : 0 < length header
  pub header_few : length header ≤ 35
  pub whole : length rows ≡ 6 * row_count rows
  pub rows_few : length rows ≤ 245880

pub limited : (form : Form) (header rows : List ℤ) → cause_of form header (length rows) true ≡ None → Limited header rows
limited form header rows e =
    let p = cause-none form header (length rows) true e in
    let h = header_fits-facts form header p.header-fits in
    let c = count_fits-facts form (length rows) p.count-fits in
    record {
      filled = omega (arith, h.least, leading-limits form);
      header_few = omega (arith, h.most, leading-limits form);
      whole = sym c.whole;
      rows_few = omega (arith, c.most, row_limit-most form);
    }

module _ {form : Form} {header rows : List ℤ} {first others : ℕ} (s : Sized form header rows first others) where
  limits : Limited header rows
  limits = limited form header rows s.passes

  total : length (text_bytes header rows) ≡ first + others
  total = bytes-text 6 (row_count rows) header rows (omega arith) limits.filled limits.whole ∙ omega (arith, s.header_size.sum, s.rows_size.sum)

  pub sized-fills : (text : List ℕ) → first + others ≤ length text → Fills 6 (row_count rows) header rows text
  sized-fills text h = record { filled = limits.filled; wide = omega arith; whole = limits.whole; room = omega (arith, total) }

  pub writes_short : (text : List ℕ) → length text < first + others → Writes (write_result form header rows text) (Err (record { number = 10; place = 0 })) text
  unfolding write_result write_bytes
  writes_short text h =
      rw (lt-leb (length (text_bytes header rows)) (length text) (omega (arith, total)), cause-short form header (length rows) s.passes)
      (record { outcome = refl; text_left = refl })

  pub writes-all : (text : List ℕ) → first + others ≤ length text → (count : ℕ) (left : List ℕ) → Put (text_bytes header rows) text count left
      → Writes (write_result form header rows text) (Ok count) left
  unfolding write_result write_bytes
  writes-all text h count left p =
      rw (le-leb (length (text_bytes header rows)) (length text) (omega (arith, total)), s.passes)
      (record { outcome = ap (λ (n : ℕ). finished (n ∷ [])) p.size; text_left = p.written })

pub writes-cause : (form : Form) (header rows : List ℤ) (text : List ℕ) (number : ℕ) → cause_of form header (length rows) true ≡ Some number
    → Writes (write_result form header rows text) (Err (record { number = number; place = 0 })) text
unfolding write_result write_bytes
writes-cause form header rows text number e =
    rw (cause-some form header (length rows) number (leb (length (text_bytes header rows)) (length text)) e)
    (record { outcome = refl; text_left = refl })
