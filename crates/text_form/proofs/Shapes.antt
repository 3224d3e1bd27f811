-- Whole texts: the ways that reading one can go, by its first line and its rows.
use Rattle.std.specs.Prelude.{Err, Ok, None, Option, Some}
use mathlib.Core.Path.{◌≡◌, refl, sym, ap, ◌∙◌}
use mathlib.Core.Bool.{Bool, true, false}
use mathlib.Core.List.{List, []}
use Prim.Native.Nat.{ℕ, ◌+◌, ◌-◌, ◌≤◌, ◌<◌}
use native.Mathlib.Omega.{arith}
use lib.Dec.{leb, ltb}
use lib.IntN.{ℤ}
use lib.ListN.{length, take, drop}
use borrow.Author.Tests.{leb-true, le-leb, lt-leb, ltb-true, ltb-false}
use Rattle.words.specs.Layout.{leading, header_fits, count_fits}
use Rattle.words.specs.Laws.{by_cases, leading-limits}
use Rattle.words.specs.declared.Form.{Form}
use Rattle.text_lines.specs.Line.{ended, unended, lines_of, fields_of, numbers_of, line_numbers}
use Rattle.text_form.specs.Text.{keep, header_sized, header_line, Parsed, parsed, malformed, rows_from, with_header, program_of, parse_table, parse}
use Rattle.words.specs.Over.{over}
use Rattle.text_form.specs.Answers.{cause_unless, cause_of, read_refused, read_program, tables_hold, read_parsed, read_result, Reads}
use Rattle.text_numbers.specs.NumberLaws.{not_some}
use Rattle.text_lines.specs.LineLaws.{lines_none}
use Rattle.text_form.proofs.TextLaws.{not-parsed, Kept, keep-reads, program-first}
use Rattle.text_form.specs.Reader.{words_of, HasLines, or_short, read_by}
use Rattle.words.specs.OverLaws.{first_of, rest_of}
use Rattle.text_lines.proofs.Pieces.{Piece, lines_step, lines-last}
use Rattle.text_lines.specs.CountLaws.{Sized}

-- ---- the rows' answers

pub words-malformed : (read : Parsed (List ℤ)) (line : ℕ) → malformed line ≡ words_of read → read ≡ malformed line
words-malformed (parsed words) line e = not-parsed e
words-malformed (malformed other) line e = ap malformed (let same : other ≡ line = cc in same)

pub record SizedRows (read : Parsed (List ℤ)) (count : ℕ) : Type 0 where
  pub words : List ℤ
  pub is : read ≡ parsed words
  pub size : length words ≡ count

pub words-parsed : (read : Parsed (List ℤ)) (count : ℕ) → parsed count ≡ words_of read → SizedRows read count
words-parsed (parsed words) count e = record { words = words; is = refl; size = cc }
words-parsed (malformed line) count e = not-parsed (sym e)

-- ---- the shape of a text

header-unended : (form : Form) (line : List ℕ) → header_line form (unended line) ≡ None
unfolding header_line line_numbers keep
header-unended form line = refl

with_none : (others : Parsed (List ℤ)) → with_header None others ≡ malformed 1
unfolding with_header
with_none others = refl

program-none : (width : ℕ) (form : Form) → program_of width form [] ≡ malformed 1
unfolding program_of
program-none width form = refl

module _ (width : ℕ) (form : Form) {text : List ℕ} {end : ℕ} (p : Piece 10 text 0 end) where
  -- the first line lacks its newline, or there is none
  pub shape-unended : length text ≤ end → parse_table width form text ≡ malformed 1
  unfolding parse_table
  shape-unended h =
      by_cases (ltb 0 (length text))
      (λ t. ap (program_of width form) (lines-last p (ltb-true _ _ t) h) ∙ program-first width form _ _ ∙ rw (header-unended form _) (with_none _))
      (λ t. ap (program_of width form) (lines_none text (omega (arith, ltb-false 0 (length text) t))) ∙ program-none width form)

  module _ (h : end < length text) where
    first : parse_table width form text ≡ with_header (header_line form (ended (take (end - 0) text))) (rows_from width 2 (lines_of (drop (end + 1) text)))
    unfolding parse_table
    first = ap (program_of width form) (lines_step p h) ∙ program-first width form _ _

    pub shape-bad : header_line form (ended (take (end - 0) text)) ≡ None → parse_table width form text ≡ malformed 1
    shape-bad e = first ∙ rw e (with_none _)

    module _ {numbers : ℕ} (s : Sized (header_line form (ended (take (end - 0) text))) numbers) where
      pub shape-rows : (line : ℕ) → rows_from width 2 (lines_of (drop (end + 1) text)) ≡ malformed line → parse_table width form text ≡ malformed line
      unfolding with_header
      shape-rows line e = first ∙ rw (s.is, e)

      kept : Kept (header_sized form) (numbers_of (fields_of (take (end - 0) text))) s.numbers
      unfolding header_line line_numbers
      kept = keep-reads (header_sized form) (numbers_of (fields_of (take (end - 0) text))) s.numbers s.is

      sized-few : header_sized form s.numbers ≡ true → numbers ≤ 35
      sized-few t =
          by_cases (leb (length s.numbers) (leading form + 32))
          (λ b. omega (arith, leb-true (length s.numbers) (leading form + 32) b, leading-limits form, s.size))
          (λ b. absurd (by_cases (leb (leading form) (length s.numbers))
          (λ a. let f : false ≡ true = rw (a, b) at t in let z : ◌≡◌ {A = ℕ} 0 1 = cc in omega arith)
          (λ a. let f : false ≡ true = rw a at t in let z : ◌≡◌ {A = ℕ} 0 1 = cc in omega arith)))

      pub shape-lines : {words : ℕ} → SizedRows (rows_from width 2 (lines_of (drop (end + 1) text))) words → HasLines width form text end numbers words
      unfolding with_header
      shape-lines r = record {
        program = record { header = s.numbers; rows = r.words };
        inside = h;
        first-line = rw first_of at kept.same;
        other_lines = r.is;
        header_size = s.size;
        rows_size = r.size;
        few = sized-few kept.passes;
        parses = first ∙ rw (s.is, r.is);
      }

-- what the rows were counted of
pub rows_behind : (width : ℕ) (text : List ℕ) (k : ℕ) (said : Parsed ℕ) → said ≡ words_of (rows_from width 2 (lines_of (take (length text - k) (drop k text)))) → said ≡ words_of (rows_from width 2 (lines_of (drop k text)))
rows_behind width text k said e = rw (rest_of text k) at e

-- ---- what a reader leaves

pub cause-some : (form : Form) (header : List ℤ) (words number : ℕ) (room : Bool) → cause_of form header words true ≡ Some number → cause_of form header words room ≡ Some number
unfolding cause_of cause_unless
cause-some form header words number room e =
    by_cases (header_fits form header)
    (λ h. by_cases (count_fits form words)
    (λ c. not_some (rw (h, c) at e))
    (λ c. rw (h, c) (rw (h, c) at e)))
    (λ h. rw h (rw h at e))

pub cause-short : (form : Form) (header : List ℤ) (words : ℕ) → cause_of form header words true ≡ None → cause_of form header words false ≡ Some 10
unfolding cause_of cause_unless
cause-short form header words e =
    by_cases (header_fits form header)
    (λ h. by_cases (count_fits form words)
    (λ c. rw (h, c))
    (λ c. not_some (sym (rw (h, c) at e))))
    (λ h. not_some (sym (rw h at e)))

pub reads-malformed : (form : Form) (text : List ℕ) (header rows : List ℤ) (line : ℕ) → parse form text ≡ malformed line
    → Reads (read_result form text header rows) (Err (record { number = 14; place = line })) header rows
unfolding read_result read_parsed read_refused
reads-malformed form text header rows line e = rw e (record { outcome = refl; header_left = refl; rows-left = refl })

-- 10 comes after the other causes
cause-by : (form : Form) (header : List ℤ) (words : ℕ) (room : Bool) (before : Option ℕ) → cause_of form header words true ≡ before → cause_of form header words room ≡ or_short before room
unfolding or_short cause_unless
cause-by form header words room (Some number) e = cause-some form header words number room e
cause-by form header words true None e = e
cause-by form header words false None e = cause-short form header words e

module _ {width : ℕ} {form : Form} {text : List ℕ} {end numbers words : ℕ} (l : HasLines width form text end numbers words) (header rows : List ℤ) where
  read_is : (before : Option ℕ) → read_by before (parse_table width form text) header rows ≡ read_program (or_short before (tables_hold l.program header rows)) l.program header rows
  unfolding read_by
  read_is before = rw l.parses

  refuses : (before : Option ℕ) (number : ℕ) → or_short before (tables_hold l.program header rows) ≡ Some number
      → Reads (read_by before (parse_table width form text) header rows) (Err (record { number = number; place = 0 })) header rows
  unfolding read_program read_refused
  refuses before number e = rw (read_is before, e) (record { outcome = refl; header_left = refl; rows-left = refl })

  pub reads-cause : (before : Option ℕ) (number : ℕ) → before ≡ Some number → Reads (read_by before (parse_table width form text) header rows) (Err (record { number = number; place = 0 })) header rows
  unfolding or_short
  reads-cause before number e = refuses before number (rw e)

  module _ {before : Option ℕ} (passes : before ≡ None) where
    short : tables_hold l.program header rows ≡ false → Reads (read_by before (parse_table width form text) header rows) (Err (record { number = 10; place = 0 })) header rows
    unfolding or_short cause_unless
    short t = refuses before 10 (rw (passes, t))

    pub reads-short-header : length header < numbers → Reads (read_by before (parse_table width form text) header rows) (Err (record { number = 10; place = 0 })) header rows
    reads-short-header h = short (rw (l.header_size, lt-leb numbers (length header) h))

    module _ (header_room : numbers ≤ length header) where
      pub reads-short-rows : length rows < words → Reads (read_by before (parse_table width form text) header rows) (Err (record { number = 10; place = 0 })) header rows
      reads-short-rows h = short (rw (l.header_size, l.rows_size, le-leb numbers (length header) header_room, lt-leb words (length rows) h))

      pub reads_all : words ≤ length rows → (headerWritten rowsWritten : List ℤ) → headerWritten ≡ over l.program.header header → rowsWritten ≡ over l.program.rows rows
          → Reads (read_by before (parse_table width form text) header rows) (Ok (numbers, words)) headerWritten rowsWritten
      unfolding read_program or_short cause_unless
      reads_all h headerWritten rowsWritten e f =
          let room : tables_hold l.program header rows ≡ true = rw (l.header_size, l.rows_size, le-leb numbers (length header) header_room, le-leb words (length rows) h) in
          let cause : or_short before (tables_hold l.program header rows) ≡ None = rw (passes, room) in
          rw (read_is before, cause) (record { outcome = rw (l.header_size, l.rows_size); header_left = e; rows-left = f })

-- what the reader of programs gives, by the first of the causes 1 and 2
pub reads-by : {form : Form} {text : List ℕ} {end numbers words : ℕ} (l : HasLines 6 form text end numbers words) (header rows : List ℤ) (before : Option ℕ)
    → cause_of form l.program.header words true ≡ before → read_result form text header rows ≡ read_by before (parse form text) header rows
unfolding read_result read_parsed read_by
reads-by {form = form} {words = words} l header rows before e =
    rw l.parses
    (ap (λ (cause : Option ℕ). read_program cause l.program header rows)
    (ap (λ (count : ℕ). cause_of form l.program.header count (tables_hold l.program header rows)) l.rows_size
    ∙ cause-by form l.program.header words (tables_hold l.program header rows) before e))
