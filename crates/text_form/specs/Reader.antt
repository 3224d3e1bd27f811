-- Reader: what its inner functions answer, in terms of the definition of texts.
use Rattle.std.specs.Prelude.{◌≡◌, Bool, true, false, List, [], ℕ, ◌+◌, ◌≤◌, ◌<◌, ℤ, length, take, drop, Err, None, Ok, Result, Some, Option}
use Rattle.words.specs.declared.Form.{Form}
use Rattle.text_lines.specs.Line.{fields_of, lines_of, numbers_of}
use Rattle.text_lines.specs.Reader.{numbers_in}
use Rattle.words.specs.Causes.{cause_number}
use Rattle.words.specs.declared.Cause.{Cause}
use Rattle.text_form.specs.Answers.{cause_unless, ReadResult, read_refused, read_program, tables_hold}
use Rattle.text_form.specs.Text.{Parsed, parsed, malformed, rows_from, Program, parse_table}

-- ---- lines

-- So many numbers were read, at most 35.
pub record HoldsExactly (read : Option (List ℤ)) (count : ℕ) : Type 0 where
  pub well_formed : read ≡ Some (numbers_in read)
  pub size : length (numbers_in read) ≡ count
  pub few : count ≤ 35

abbrev pub is_found : Option (List ℤ) → Bool
is_found None = false
is_found (Some numbers) = true

-- ---- texts

abbrev pub cause_says : Option Cause → Option ℕ
cause_says (Some cause) = Some (cause_number cause)
cause_says None = None

abbrev pub rows_say : Result ℕ ℕ → Parsed ℕ
rows_say (Ok words) = parsed words
rows_say (Err line) = malformed line

-- How many words were read.
abbrev pub words_of : Parsed (List ℤ) → Parsed ℕ
words_of (parsed words) = parsed (length words)
words_of (malformed line) = malformed line

abbrev pub words_in : Parsed (List ℤ) → List ℤ
words_in (parsed words) = words
words_in (malformed line) = []

-- Rows were read, and a table has room for them.
pub record HoldsRows (read : Parsed (List ℤ)) (table : List ℤ) : Type 0 where
  pub well_formed : read ≡ parsed (words_in read)
  pub room : length (words_in read) ≤ length table

-- A text of rows of `width` words is well formed: its first line, of so many bytes, gives so many header words, and the others so many row words.
pub record HasLines (width : ℕ) (form : Form) (text : List ℕ) (end headerWords row_words : ℕ) : Type 0 where
  pub program : Program
  pub inside : end < length text
  pub first-line : numbers_of (fields_of (take end text)) ≡ Some program.header
  pub other_lines : rows_from width 2 (lines_of (drop (end + 1) text)) ≡ parsed program.rows
  pub header_size : length program.header ≡ headerWords
  pub rows_size : length program.rows ≡ row_words
  pub few : headerWords ≤ 35
  pub parses : parse_table width form text ≡ parsed program

abbrev pub Shaped : ℕ → Form → List ℕ → Result (ℕ × ℕ × ℕ) ℕ → Type 0
Shaped width form text (Ok (end, headerWords, row_words)) = HasLines width form text end headerWords row_words
Shaped width form text (Err line) = parse_table width form text ≡ malformed line

-- The first cause, where `before` is the first of those before 10.
unfoldable pub or_short : Option ℕ → Bool → Option ℕ
or_short (Some number) room = Some number
or_short None room = cause_unless room 10 None

-- What a reader gives of a text by its first cause between 14 and 10.
unfoldable pub read_by : Option ℕ → Parsed Program → List ℤ → List ℤ → ReadResult
read_by before (malformed line) header rows = read_refused 14 line header rows
read_by before (parsed program) header rows = read_program (or_short before (tables_hold program header rows)) program header rows
