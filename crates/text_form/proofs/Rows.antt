-- The walk over the lines of the rows: which lines are passed, and which words they gave.
use Rattle.std.specs.Prelude.{None, Option, Some}
use mathlib.Core.Path.{◌≡◌, refl, sym, ap, ◌∙◌}
use mathlib.Core.Bool.{Bool, true, false}
use mathlib.Core.List.{List, [], ◌∷◌, ◌++◌, append_assoc, append-nil}
use Prim.Native.Nat.{ℕ, ◌+◌, ◌*◌, ◌-◌, ◌≤◌, ◌<◌}
use native.Mathlib.Nat.{mul-zero}
use native.Mathlib.Omega.{arith}
use lib.Dec.{eqb}
use lib.IntN.{ℤ}
use lib.ListN.{length, take, drop, length-drop, length-append, drop_of_length-le}
use lib.Seq.{length-take-le}
use borrow.Author.Tests.{eqb-true, lt-leb, le-leb}
use Rattle.words.specs.Word.{pick}
use Rattle.words.specs.Layout.{leading}
use Rattle.words.specs.declared.Form.{Form}
use Rattle.text_lines.specs.Line.{TextLine, ended, unended, lines_of, fields_of, numbers_of, line_numbers}
use Rattle.text_form.specs.Text.{keep, header_sized, header_line, row_sized, row_line, Parsed, parsed, malformed, with_row, rows_from}
use Rattle.text_lines.specs.LineLaws.{line-few}
use Rattle.text_form.proofs.TextLaws.{keep-is, keep-not, keep-none, keep-reads, with_none, rows_next, row_more}
use Rattle.text_lines.specs.Reader.{number_count}
use Rattle.text_form.specs.Reader.{is_found, words_of}
use Rattle.std.specs.Option.{option_eq}
use Rattle.text_lines.specs.CountLaws.{Sized, size_none, size-some}
use Rattle.text_lines.proofs.Pieces.{Piece, lines_step, lines-last}

-- ---- how many numbers a line has

module _ (form : Form) (line : List ℕ) where
  pub header-none : numbers_of (fields_of line) ≡ None → None ≡ number_count (header_line form (ended line))
  unfolding header_line line_numbers
  header-none e = rw (e, keep-none (header_sized form))

  module _ {count : ℕ} (s : Sized (numbers_of (fields_of line)) count) where
    header-kept : (test : Bool) → header_sized form s.numbers ≡ test → header_line form (ended line) ≡ pick test (Some s.numbers) None
    unfolding header_line line_numbers
    header-kept true t = rw s.is (keep-is (header_sized form) s.numbers t)
    header-kept false t = rw s.is (keep-not (header_sized form) s.numbers t)

    pub header_few : count < leading form → None ≡ number_count (header_line form (ended line))
    header_few h = sym (ap number_count (header-kept false (rw (lt-leb _ _ (few h)))))
      where
        few : count < leading form → length s.numbers < leading form
        few h = omega (arith, s.size)

    pub header-many : leading form ≤ count → leading form + 32 < count → None ≡ number_count (header_line form (ended line))
    header-many l h = sym (ap number_count (header-kept false (rw (le-leb _ _ (least l), lt-leb _ _ (most h)))))
      where
        least : leading form ≤ count → leading form ≤ length s.numbers
        least l = omega (arith, s.size)

        most : leading form + 32 < count → leading form + 32 < length s.numbers
        most h = omega (arith, s.size)

    pub header-sized : leading form ≤ count → count ≤ leading form + 32 → Some count ≡ number_count (header_line form (ended line))
    header-sized l h = sym (ap number_count (header-kept true (rw (le-leb _ _ (least l), le-leb _ _ (most h)))) ∙ ap Some s.size)
      where
        least : leading form ≤ count → leading form ≤ length s.numbers
        least l = omega (arith, s.size)

        most : count ≤ leading form + 32 → length s.numbers ≤ leading form + 32
        most h = omega (arith, s.size)

pub row-none : (width : ℕ) (line : List ℕ) → numbers_of (fields_of line) ≡ None → false ≡ is_found (row_line width (ended line))
unfolding row_line line_numbers
row-none width line e = rw (e, keep-none (row_sized width))

found-kept : (test : Bool) (numbers : List ℤ) → test ≡ is_found (pick test (Some numbers) None)
found-kept true numbers = refl
found-kept false numbers = refl

pub row-sized : (width : ℕ) (line : List ℕ) {count : ℕ} → Sized (numbers_of (fields_of line)) count → eqb count width ≡ is_found (row_line width (ended line))
unfolding row_line line_numbers keep
row-sized width line s = rw (s.is, ← s.size) (found-kept (eqb (length s.numbers) width) s.numbers)

pub record Found (read : Option (List ℤ)) : Type 0 where
  pub row : List ℤ
  pub is : read ≡ Some row

pub found-row : (read : Option (List ℤ)) → is_found read ≡ true → Found read
found-row None e = absurd (let z : ◌≡◌ {A = ℕ} 0 1 = cc in omega arith)
found-row (Some row) e = record { row = row; is = refl }

pub found_none : (read : Option (List ℤ)) → is_found read ≡ false → read ≡ None
found_none None e = refl
found_none (Some row) e = absurd (let z : ◌≡◌ {A = ℕ} 0 1 = cc in omega arith)

-- a row's line has as many numbers as the row has words, and at least as many bytes, its newline counted
pub record RowNumbers (width : ℕ) (line : List ℕ) (row : List ℤ) : Type 0 where
  pub read : numbers_of (fields_of line) ≡ Some row
  pub size : length row ≡ width
  pub long : width ≤ length line + 1

pub row-numbers : (width : ℕ) (line : List ℕ) (row : List ℤ) → row_line width (ended line) ≡ Some row → RowNumbers width line row
unfolding row_line line_numbers
row-numbers width line row e =
    let k = keep-reads (row_sized width) (numbers_of (fields_of line)) row e in
    let size : length row ≡ width = eqb-true (length row) width k.passes in
    record { read = k.same; size = size; long = omega (arith, line-few line row k.same) }

-- ---- the lines that are left

unended-none : (width : ℕ) (line : List ℕ) → row_line width (unended line) ≡ None
unfolding row_line line_numbers keep
unended-none width line = refl

rows-unended : (width number : ℕ) (line : List ℕ) → rows_from width number (unended line ∷ []) ≡ malformed number
rows-unended width number line = rows_next width number (unended line) [] ∙ rw (unended-none width line) (with_none number _)

rows-bad : (width number : ℕ) (line : List ℕ) (lines : List TextLine) → row_line width (ended line) ≡ None → rows_from width number (ended line ∷ lines) ≡ malformed number
rows-bad width number line lines e = rows_next width number (ended line) lines ∙ rw e (with_none number _)

-- ---- the words that were read

-- words, and then those that are left
unfoldable pub behind : List ℤ → Parsed (List ℤ) → Parsed (List ℤ)
behind before (parsed others) = parsed (before ++ others)
behind before (malformed line) = malformed line

pub behind-nil : (read : Parsed (List ℤ)) → read ≡ behind [] read
unfolding behind
behind-nil (parsed words) = refl
behind-nil (malformed line) = refl

behind-malformed : (before : List ℤ) (line : ℕ) → behind before (malformed line) ≡ malformed line
unfolding behind
behind-malformed before line = refl

behind_more : (before row : List ℤ) (number : ℕ) (read : Parsed (List ℤ)) → behind before (with_row number (Some row) read) ≡ behind (before ++ row) read
unfolding behind with_row
behind_more before row number (parsed words) = ap parsed (sym (append_assoc before row words))
behind_more before row number (malformed line) = refl

-- the lines before byte `at` gave `count` rows
pub record Walked (width : ℕ) (text : List ℕ) (at count : ℕ) : Type 0 where
  pub inside : at ≤ length text
  pub fewer : width * count ≤ at
  pub many : count ≤ at
  pub before : List ℤ
  pub size : length before ≡ width * count
  pub same : rows_from width 2 (lines_of text) ≡ behind before (rows_from width (count + 2) (lines_of (drop at text)))

pub walked_start : (width : ℕ) (text : List ℕ) → Walked width text 0 0
walked_start width text = record {
  inside = omega arith;
  fewer = omega (arith, mul-zero width);
  many = omega arith;
  before = [];
  size = sym (mul-zero width);
  same = behind-nil (rows_from width 2 (lines_of text));
}

pub start-before : (width : ℕ) (text : List ℕ) → (walked_start width text).before ≡ []
unfolding walked_start
start-before width text = refl

rows_end : (width number : ℕ) (text : List ℕ) (at : ℕ) → length text ≤ at → rows_from width number (lines_of (drop at text)) ≡ parsed []
unfolding rows_from lines_of
rows_end width number text at h = rw (drop_of_length-le text {i = at} h)

module _ {width : ℕ} {text : List ℕ} {at count : ℕ} (w : Walked width text at count) where
  pub walked_end : length text ≤ at → rows_from width 2 (lines_of text) ≡ parsed w.before
  unfolding behind
  walked_end h = w.same ∙ rw (rows_end width (count + 2) text at h) (ap parsed (append-nil w.before))

  pub walked-says : length text ≤ at → parsed (width * count) ≡ words_of (rows_from width 2 (lines_of text))
  walked-says h = rw (walked_end h) (ap parsed (sym w.size))

  malformed-at : rows_from width (count + 2) (lines_of (drop at text)) ≡ malformed (count + 2) → rows_from width 2 (lines_of text) ≡ malformed (count + 2)
  malformed-at e = w.same ∙ ap (behind w.before) e ∙ behind-malformed w.before (count + 2)

  module _ {end : ℕ} (p : Piece 10 text at end) (more : at < length text) where
    pub walked-unended : length text ≤ end → rows_from width 2 (lines_of text) ≡ malformed (count + 2)
    walked-unended h = malformed-at (ap (rows_from width (count + 2)) (lines-last p more h) ∙ rows-unended width (count + 2) _)

    module _ (h : end < length text) where
      pub walked-bad : row_line width (ended (take (end - at) (drop at text))) ≡ None → rows_from width 2 (lines_of text) ≡ malformed (count + 2)
      walked-bad e = malformed-at (ap (rows_from width (count + 2)) (lines_step p h) ∙ rows-bad width (count + 2) _ _ e)

      module _ (row : List ℤ) (e : row_line width (ended (take (end - at) (drop at text))) ≡ Some row) where
        next-same : rows_from width 2 (lines_of text) ≡ behind (w.before ++ row) (rows_from width (count + 1 + 2) (lines_of (drop (end + 1) text)))
        next-same =
            let n : count + 2 + 1 ≡ count + 1 + 2 = omega arith in
            w.same ∙ ap (λ (lines : List TextLine). behind w.before (rows_from width (count + 2) lines)) (lines_step p h)
            ∙ ap (behind w.before) (rows_next width (count + 2) _ _) ∙ rw e (behind_more w.before row (count + 2) _)
            ∙ ap (λ (number : ℕ). behind (w.before ++ row) (rows_from width number (lines_of (drop (end + 1) text)))) n

        pub walked_next : Walked width text (end + 1) (count + 1)
        walked_next =
            let s = row-numbers width _ row e in
            let long : length (take (end - at) (drop at text)) ≡ end - at = length-take-le (end - at) (drop at text) (rw length-drop (omega arith)) in
            record {
              inside = omega arith;
              fewer = omega (arith, w.fewer, s.long, p.from, row_more width count);
              many = omega (arith, w.many, p.from);
              before = w.before ++ row;
              size = length-append w.before row ∙ omega (arith, w.size, s.size, row_more width count);
              same = next-same;
            }

        pub next-before : walked_next.before ≡ w.before ++ row
        unfolding walked_next
        next-before = refl

-- a line with as many numbers as a row has words
pub row-counted : (width : ℕ) (line : List ℕ) (count : Option ℕ) → count ≡ number_count (numbers_of (fields_of line)) → option_eq eqb count (Some width) ≡ is_found (row_line width (ended line))
row-counted width line None e = row-none _ _ (size_none _ e)
row-counted width line (Some count) e = row-sized _ _ (size-some _ _ e)
