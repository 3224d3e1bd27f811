-- Laws of answers: what is known where the reader accepted a text, or the writer a header and rows.
use Rattle.std.specs.Prelude.{◌≡◌, Bool, true, false, ◌&&◌, List, [], ◌∷◌, ℕ, ◌≤◌, leb, ℤ, take, Ok, None, Option, Some}
use Rattle.std.proofs.Math.Path.{refl}
use Rattle.std.proofs.Common.{sym, ap, arith}
use Rattle.std.proofs.Math.ListN.{length}
use borrow.Author.Tests.{leb-true, le-leb}
use Rattle.words.specs.Layout.{header_fits, count_fits}
use Rattle.words.specs.declared.Form.{Form}
use Rattle.text_form.specs.Text.{text_bytes, Parsed, parsed, malformed, Program, parse}
use Rattle.words.specs.Over.{over}
use Rattle.words.specs.Laws.{by_cases}
use Rattle.words.specs.OverLaws.{take-over}
use Rattle.text_form.specs.Answers.{finished, refused, cause_unless, cause_of, read_refused, read_program, tables_hold, read_parsed, read_result, Reads, write_bytes, write_result, Writes}
use Rattle.text_form.proofs.TextLaws.{IsText, text-reads}
use Rattle.text_form.specs.Passing.{Passes}

-- ---- the causes

some-none : {G : Type 0} {number : ℕ} → Some number ≡ None → G
some-none {number = number} e = absurd (let z : ◌≡◌ {A = ℕ} 0 1 = cc in omega arith)

pub cause-none : (form : Form) (header : List ℤ) (row_words : ℕ) (room : Bool) → cause_of form header row_words room ≡ None → Passes form header row_words
unfolding cause_of cause_unless
cause-none form header row_words room e =
    by_cases (header_fits form header)
    (λ h. by_cases (count_fits form row_words)
    (λ c. record { header-fits = h; count-fits = c })
    (λ c. some-none (rw (h, c) at e)))
    (λ h. some-none (rw h at e))

pub passes-cause : (form : Form) (header : List ℤ) (row_words : ℕ) (room : Bool) → Passes form header row_words → room ≡ true → cause_of form header row_words room ≡ None
unfolding cause_of cause_unless
passes-cause form header row_words room p r = rw (p.header-fits, p.count-fits, r)

pub cause-room : (form : Form) (header : List ℤ) (row_words : ℕ) (room : Bool) → cause_of form header row_words room ≡ None → room ≡ true
unfolding cause_of cause_unless
cause-room form header row_words true e = refl
cause-room form header row_words false e =
    let p = cause-none form header row_words false e in
    some-none (rw (p.header-fits, p.count-fits) at e)

pub refused-finished : {G : Type 0} {number place : ℕ} {counts : List ℕ} → refused number place ≡ finished counts → G
refused-finished {number = number} {place = place} {counts = counts} e = absurd (let z : ◌≡◌ {A = ℕ} 0 1 = cc in omega arith)

both_hold : (a b c d : ℕ) → (leb a b && leb c d) ≡ true → (a ≤ b) × (c ≤ d)
both_hold a b c d e =
    by_cases (leb a b)
    (λ t. (leb-true a b t, leb-true c d (rw t at e)))
    (λ t. absurd (let f : false ≡ true = rw t at e in let z : ◌≡◌ {A = ℕ} 0 1 = cc in omega arith))

-- ---- a text that nothing turns away

-- It is read into any tables that hold its words.
pub read-passing : (form : Form) (text : List ℕ) (program : Program) → parse form text ≡ parsed program → Passes form program.header (length program.rows)
    → (header rows : List ℤ) → length program.header ≤ length header → length program.rows ≤ length rows
    → read_result form text header rows
    ≡ record { outcome = finished (length program.header ∷ length program.rows ∷ []); header = over program.header header; rows = over program.rows rows }
unfolding read_result read_parsed read_program
read-passing form text program parses p header rows h r =
    let room : tables_hold program header rows ≡ true = rw (le-leb _ _ h, le-leb _ _ r) in
    rw (parses, passes-cause form program.header (length program.rows) (tables_hold program header rows) p room)

-- ---- a text that was accepted

-- The program that it holds, and the tables as the reader left them.
pub record Accepted (form : Form) (text : List ℕ) (header rows : List ℤ) (headerWords row_words : ℕ) : Type 0 where
  pub program : Program
  pub is_text : IsText form text program
  pub passes : Passes form program.header (length program.rows)
  pub header_size : length program.header ≡ headerWords
  pub rows_size : length program.rows ≡ row_words
  pub header_room : headerWords ≤ length header
  pub rows_room : row_words ≤ length rows
  pub header_read : take headerWords (read_result form text header rows).header ≡ program.header
  pub rows_read : take row_words (read_result form text header rows).rows ≡ program.rows

module _ (form : Form) (text : List ℕ) (header rows : List ℤ) (headerWords row_words : ℕ) where
  accepted-program : (cause : Option ℕ) (program : Program) → parse form text ≡ parsed program
      → cause_of form program.header (length program.rows) (tables_hold program header rows) ≡ cause
      → read_result form text header rows ≡ read_program cause program header rows
      → (read_program cause program header rows).outcome ≡ finished (headerWords ∷ row_words ∷ []) → Accepted form text header rows headerWords row_words
  unfolding read_program read_refused
  accepted-program (Some number) program e c s f = refused-finished f
  accepted-program None program e c s f =
      let first : length program.header ≡ headerWords = cc in
      let second : length program.rows ≡ row_words = cc in
      let room = both_hold (length program.header) (length header) (length program.rows) (length rows) (cause-room form program.header (length program.rows) _ c) in
      record {
        program = program;
        is_text = text-reads form text program e;
        passes = cause-none form program.header (length program.rows) _ c;
        header_size = first;
        rows_size = second;
        header_room = omega (arith, room.0);
        rows_room = omega (arith, room.1);
        header_read = rw (s, ← first) (take-over program.header header);
        rows_read = rw (s, ← second) (take-over program.rows rows);
      }

  accepted-parsed : (read : Parsed Program) → parse form text ≡ read → (read_parsed form read header rows).outcome ≡ finished (headerWords ∷ row_words ∷ [])
      → Accepted form text header rows headerWords row_words
  unfolding read_parsed read_refused read_result
  accepted-parsed (malformed line) e f = refused-finished f
  accepted-parsed (parsed program) e f =
      accepted-program _ program e refl (ap (λ (read : Parsed Program). read_parsed form read header rows) e) f

  pub accepted : (read_result form text header rows).outcome ≡ finished (headerWords ∷ row_words ∷ []) → Accepted form text header rows headerWords row_words
  unfolding read_result
  accepted f = accepted-parsed (parse form text) refl f

  -- of an answer of the reader, and the tables that it left
  pub read-accepted : (headerLeft rows_left : List ℤ) → Reads (read_result form text header rows) (Ok (headerWords, row_words)) headerLeft rows_left → Accepted form text header rows headerWords row_words
  read-accepted headerLeft rows_left r = accepted (sym r.outcome)

-- ---- a header and rows that were written

-- Their text, at the start of the buffer as the writer left it.
pub record WrittenText (form : Form) (header rows : List ℤ) (buffer : List ℕ) (bytes : ℕ) : Type 0 where
  pub passes : Passes form header (length rows)
  pub size : length (text_bytes header rows) ≡ bytes
  pub room : bytes ≤ length buffer
  pub text_written : take bytes (write_result form header rows buffer).text ≡ text_bytes header rows

module _ (form : Form) (header rows : List ℤ) (buffer : List ℕ) (bytes : ℕ) where
  written-by : (cause : Option ℕ) → cause_of form header (length rows) (leb (length (text_bytes header rows)) (length buffer)) ≡ cause
      → write_result form header rows buffer ≡ write_bytes cause (text_bytes header rows) buffer
      → (write_bytes cause (text_bytes header rows) buffer).outcome ≡ finished (bytes ∷ []) → WrittenText form header rows buffer bytes
  unfolding write_bytes
  written-by (Some number) c s f = refused-finished f
  written-by None c s f =
      let same : length (text_bytes header rows) ≡ bytes = cc in
      record {
        passes = cause-none form header (length rows) _ c;
        size = same;
        room = omega (arith, leb-true (length (text_bytes header rows)) (length buffer) (cause-room form header (length rows) _ c));
        text_written = rw (s, ← same) (take-over (text_bytes header rows) buffer);
      }

  pub written : (write_result form header rows buffer).outcome ≡ finished (bytes ∷ []) → WrittenText form header rows buffer bytes
  unfolding write_result
  written f = written-by _ refl refl f

  -- of an answer of the writer, and the buffer that it left
  pub write-written : (left : List ℕ) → Writes (write_result form header rows buffer) (Ok bytes) left → WrittenText form header rows buffer bytes
  write-written left w = written (sym w.outcome)
