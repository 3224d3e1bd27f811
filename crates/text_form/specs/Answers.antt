-- Answers: what reader and writer return and leave, refusals included.
use Rattle.std.specs.Prelude.{◌≡◌, Bool, ◌&&◌, List, [], ◌∷◌, ℕ, leb, ℤ, length, Err, Ok, Result, None, Option, Some}
use Rattle.words.specs.Refusals.{NumberedRefusal}
use Rattle.words.specs.Word.{pick}
use Rattle.words.specs.Over.{over}
use Rattle.words.specs.Layout.{header_fits, count_fits}
use Rattle.words.specs.declared.Form.{Form}
use Rattle.text_form.specs.Text.{text_bytes, Parsed, parsed, malformed, Program, parse}

-- What an answer says: how much was read or written, or document 01's number of the cause and the place.
pub data TextOutcome : Type 0 where
  finished : List ℕ → TextOutcome
  refused : (number place : ℕ) → TextOutcome

-- A text that was read has so many header words and row words.
abbrev pub read_outcome : Result (ℕ × ℕ) NumberedRefusal → TextOutcome
read_outcome (Ok (headerWords, row_words)) = finished (headerWords ∷ row_words ∷ [])
read_outcome (Err refusal) = refused refusal.number refusal.place

-- A text that was written has so many bytes.
abbrev pub write_outcome : Result ℕ NumberedRefusal → TextOutcome
write_outcome (Ok bytes) = finished (bytes ∷ [])
write_outcome (Err refusal) = refused refusal.number refusal.place

unfoldable pub cause_unless : Bool → ℕ → Option ℕ → Option ℕ
cause_unless holds number others = pick holds others (Some number)

-- "Then 1, 2 and 10": the number of the first cause that turns a header and so many row words away. Both reader and writer
-- test these; `room` says whether the output is long enough.
unfoldable pub cause_of : Form → List ℤ → ℕ → Bool → Option ℕ
cause_of form header row_words room = cause_unless (header_fits form header) 1 (cause_unless (count_fits form row_words) 2 (cause_unless room 10 None))

-- ---- the reader

pub record ReadResult : Type 0 where
  pub outcome : TextOutcome
  pub header : List ℤ
  pub rows : List ℤ

-- Left as it was: "all".
unfoldable pub read_refused : ℕ → ℕ → List ℤ → List ℤ → ReadResult
read_refused number place header rows = record { outcome = refused number place; header = header; rows = rows }

unfoldable pub read_program : Option ℕ → Program → List ℤ → List ℤ → ReadResult
read_program (Some number) program header rows = read_refused number 0 header rows
read_program None program header rows = record {
  outcome = finished (length program.header ∷ length program.rows ∷ []);
  header = over program.header header;
  rows = over program.rows rows;
}

abbrev pub tables_hold : Program → List ℤ → List ℤ → Bool
tables_hold program header rows = leb (length program.header) (length header) && leb (length program.rows) (length rows)

-- "The reader tests 14 first, then 1, 2 and 10".
unfoldable pub read_parsed : Form → Parsed Program → List ℤ → List ℤ → ReadResult
read_parsed form (malformed line) header rows = read_refused 14 line header rows
read_parsed form (parsed program) header rows =
    read_program (cause_of form program.header (length program.rows) (tables_hold program header rows)) program header rows

-- What reading a text gives, where the tables hold `header` and `rows`.
unfoldable pub read_result : Form → List ℕ → List ℤ → List ℤ → ReadResult
read_result form text header rows = read_parsed form (parse form text) header rows

-- A reader's answer and the tables that it leaves are those of a result.
pub record Reads (result : ReadResult) (answer : Result (ℕ × ℕ) NumberedRefusal) (header rows : List ℤ) : Type 0 where
  pub outcome : read_outcome answer ≡ result.outcome
  pub header_left : header ≡ result.header
  pub rows-left : rows ≡ result.rows

-- ---- the writer

pub record WriteResult : Type 0 where
  pub outcome : TextOutcome
  pub text : List ℕ

unfoldable pub write_bytes : Option ℕ → List ℕ → List ℕ → WriteResult
write_bytes (Some number) bytes text = record { outcome = refused number 0; text = text }
write_bytes None bytes text = record { outcome = finished (length bytes ∷ []); text = over bytes text }

-- "The writer tests 1, 2 and 10": what writing a header and rows gives, where the buffer holds `text`.
unfoldable pub write_result : Form → List ℤ → List ℤ → List ℕ → WriteResult
write_result form header rows text =
    let bytes = text_bytes header rows in
    write_bytes (cause_of form header (length rows) (leb (length bytes) (length text))) bytes text

-- A writer's answer and the buffer that it leaves are those of a result.
pub record Writes (result : WriteResult) (answer : Result ℕ NumberedRefusal) (text : List ℕ) : Type 0 where
  pub outcome : write_outcome answer ≡ result.outcome
  pub text_left : text ≡ result.text
