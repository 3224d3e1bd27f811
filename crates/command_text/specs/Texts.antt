-- Texts: what is printed for a text, in tables and a buffer of these sizes.
use Rattle.std.specs.Prelude.{◌≡◌, true, List, ℕ, ◌+◌, ◌*◌, ◌≤◌, ◌<◌, ℤ, length, None, Option, Some}
use Rattle.words.specs.Layout.{leading, row_limit}
use Rattle.words.specs.declared.Form.{Form}
use Rattle.text_form.specs.Text.{Parsed, parsed, malformed, Program, parse}
use Rattle.text_form.specs.Answers.{cause_of}
use Rattle.text_form.specs.Passing.{Passes}
use Rattle.text_report.specs.Lines.{refused_line}

-- ---- limits

-- Bytes of a text. Every text that a check accepts is shorter: a row takes at most 34 bytes.
abbrev pub text_limit : ℕ
text_limit = 2097152

-- Bytes of a store file: 16,448 words of at most eleven bytes, each with a byte that parts it from the next. Every source text that the reader
-- does not refuse is shorter.
abbrev pub store_limit : ℕ
store_limit = 197376

-- Words of a store, of every program that the reader does not refuse: those of the header, and at most as many declarations as rows.
abbrev pub most_store : ℕ
most_store = 16448

-- Bytes that every output has room in: twelve for each of the 35 words of a kernel header and the 245,880 of kernel rows.
abbrev pub output_room : ℕ
output_room = 2950980

-- Tables as long as a legal program of the form needs; those for a kernel program serve either.
pub record Roomy (form : Form) (header rows : List ℤ) : Type 0 where
  pub header_room : leading form + 32 ≤ length header
  pub rows_room : 6 * row_limit form ≤ length rows

-- A header and `count` rows of `width` words whose text has room: a word takes at most twelve bytes.
pub record Tabled (width count : ℕ) (header rows : List ℤ) : Type 0 where
  pub filled : 0 < length header
  pub header_few : length header ≤ 35
  pub wide : 0 < width
  pub whole : length rows ≡ width * count
  pub rows_few : length rows ≤ 245880

-- A program whose text can be written, of either form: the writer has no cause but 10.
pub record Printable (header rows : List ℤ) : Type 0 where
  pub form : Form
  pub passes : Passes form header (length rows)

-- ---- a text

unfoldable pub program_output : Option ℕ → Program → (List ℤ → List ℤ → List ℕ) → List ℕ
program_output (Some number) program output = refused_line number 0
program_output None program output = output program.header program.rows

unfoldable pub parsed_output : Form → Parsed Program → (List ℤ → List ℤ → List ℕ) → List ℕ
parsed_output form (malformed line) output = refused_line 14 line
parsed_output form (parsed program) output = program_output (cause_of form program.header (length program.rows) true) program output

-- "The reader tests 14 first, then 1, 2": its refusal, or what is printed for the header and rows. The tables are as long as a legal
-- program needs, so that 10 does not arise.
unfoldable pub text_output : Form → List ℕ → (List ℤ → List ℤ → List ℕ) → List ℕ
text_output form text output = parsed_output form (parse form text) output
