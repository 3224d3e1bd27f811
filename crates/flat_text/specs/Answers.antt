-- Answers: what reader and writer of flat texts return and leave, refusals included.
use Rattle.std.specs.Prelude.{Bool, List, ℕ, ◌%◌, leb, eqb, ℤ, length, None, Option}
use Rattle.words.specs.Layout.{header_fits}
use Rattle.words.specs.declared.Form.TheVariants.{Kernel}
use Rattle.text_form.specs.Text.{Parsed, parsed, malformed, Program}
use Rattle.text_form.specs.Answers.{cause_unless, ReadResult, read_refused, read_program, tables_hold, WriteResult, write_bytes}
use Rattle.flat_text.specs.Text.{flat_bytes, parse_flat}

-- 1, then 10. The words are a multiple of five, and no number of lines is too great.
unfoldable pub flat_cause : List ℤ → Bool → Option ℕ
flat_cause header room = cause_unless (header_fits Kernel header) 1 (cause_unless room 10 None)

-- 14 first.
unfoldable pub flat_parsed : Parsed Program → List ℤ → List ℤ → ReadResult
flat_parsed (malformed line) header list = read_refused 14 line header list
flat_parsed (parsed program) header list = read_program (flat_cause program.header (tables_hold program header list)) program header list

-- What reading a text gives, where the tables hold `header` and `list`.
unfoldable pub flat_read_result : List ℕ → List ℤ → List ℤ → ReadResult
flat_read_result text header list = flat_parsed (parse_flat text) header list

-- 1, then 2 where the words are no multiple of five, then 10.
unfoldable pub flat_write_cause : (header list : List ℤ) → Bool → Option ℕ
flat_write_cause header list room = cause_unless (header_fits Kernel header) 1 (cause_unless (eqb (length list % 5) 0) 2 (cause_unless room 10 None))

-- What writing a header and a list gives, where the buffer holds `text`.
unfoldable pub flat_write_result : (header list : List ℤ) → List ℕ → WriteResult
flat_write_result header list text =
    let bytes = flat_bytes header list in
    write_bytes (flat_write_cause header list (leb (length bytes) (length text))) bytes text
