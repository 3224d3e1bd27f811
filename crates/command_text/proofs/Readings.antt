-- What is printed for a text that the reader refused or read, into tables as long as a legal program needs.
use Rattle.std.specs.Prelude.{Err, Ok, Result, None, Option, Some}
use mathlib.Core.Path.{◌≡◌, refl, sym}
use mathlib.Core.Bool.{true}
use mathlib.Core.List.{List, [], ◌∷◌}
use Prim.Native.Nat.{ℕ, ◌≤◌}
use native.Mathlib.Omega.{arith}
use lib.IntN.{ℤ}
use lib.ListN.{length}
use borrow.Author.Tests.{le-leb}
use Rattle.words.specs.Layout.{header_fits, count_fits, store_words}
use Rattle.words.specs.Over.{over}
use Rattle.words.specs.Laws.{header_fits-facts, count_fits-facts}
use Rattle.words.specs.OverLaws.{length_over, written-part}
use Rattle.words.specs.StoreLaws.{declarations-few, kernel-store, source-small, kernel-small}
use Rattle.words.specs.declared.Form.{Form}
use Rattle.words.specs.declared.Form.TheVariants.{Source, Kernel}
use Rattle.words.specs.Refusals.{NumberedRefusal}
use Rattle.text_form.specs.Text.{Parsed, parsed, malformed, Program, parse}
use Rattle.text_form.specs.Answers.{finished, refused, cause_of, tables_hold, read_refused, read_program, read_parsed, read_result, Reads}
use Rattle.text_form.proofs.AnswerLaws.{cause-none, refused-finished}
use Rattle.text_form.proofs.Shapes.{cause-some}
use Rattle.text_report.specs.Lines.{refused_line}
use Rattle.command_text.specs.Texts.{most_store, Roomy, program_output, parsed_output, text_output}
use Rattle.command_text.specs.Read.{ReadText, ReadFor}

-- ---- a program that the tables take in, whatever its causes are

pub record Taken (form : Form) (program : Program) (header rows : List ℤ) : Type 0 where
  pub fits : header_fits form program.header ≡ true
  pub small : store_words form program.header program.rows ≤ most_store
  pub header_room : length program.header ≤ length header
  pub rows_room : length program.rows ≤ length rows

-- a refusal and its line
pub refused-line : {number place cause line : ℕ} → refused number place ≡ refused cause line → refused_line number place ≡ refused_line cause line
refused-line {number} {place} {cause} {line} e = let n : number ≡ cause = cc in let p : place ≡ line = cc in rw (n, p)

module _ {form : Form} {program : Program} {header rows : List ℤ} (t : Taken form program header rows) where
  words-read : (numbers words : ℕ) (headerLeft rows_left : List ℤ) → finished (numbers ∷ words ∷ []) ≡ finished (length program.header ∷ length program.rows ∷ [])
      → headerLeft ≡ over program.header header → rows_left ≡ over program.rows rows → ReadText (program_output None program) form headerLeft rows_left numbers words
  unfolding program_output
  words-read numbers words headerLeft rows_left e h g =
      let n : numbers ≡ length program.header = cc in
      let w : words ≡ length program.rows = cc in
      let first = written-part program.header header headerLeft numbers n h in
      let others = written-part program.rows rows rows_left words w g in
      record {
        header_inside = omega (arith, n, length_over program.header header headerLeft h t.header_room, t.header_room);
        rows_inside = omega (arith, w, length_over program.rows rows rows_left g t.rows_room, t.rows_room);
        fits = rw first t.fits;
        small = rw (first, others) t.small;
        is = λ output. rw (first, others);
      }

module _ {form : Form} {program : Program} {header rows : List ℤ} where
  pub read-by : (cause : Option ℕ) → (cause ≡ None → Taken form program header rows) → (answer : Result (ℕ × ℕ) NumberedRefusal) {headerLeft rows_left : List ℤ}
      → Reads (read_program cause program header rows) answer headerLeft rows_left → ReadFor (program_output cause program) form answer headerLeft rows_left
  unfolding read_program read_refused program_output
  read-by (Some number) t (Err refusal) s = λ output. refused-line s.outcome
  read-by (Some number) t (Ok (numbers, words)) s = refused-finished (sym s.outcome)
  read-by None t (Err refusal) s = λ output. refused-finished s.outcome
  read-by None t (Ok (numbers, words)) s = words-read (t refl) numbers words _ _ s.outcome s.header_left s.rows-left

-- a malformed text
pub malformed-by : (form : Form) (line : ℕ) (header rows : List ℤ) (answer : Result (ℕ × ℕ) NumberedRefusal) {headerLeft rows_left : List ℤ} → Reads (read_refused 14 line header rows) answer headerLeft rows_left
    → ReadFor (λ output. refused_line 14 line) form answer headerLeft rows_left
unfolding read_refused
malformed-by form line header rows (Err refusal) s = λ output. refused-line s.outcome
malformed-by form line header rows (Ok (numbers, words)) s = refused-finished (sym s.outcome)

-- ---- a program of a form

-- S is at most 8,192, and a row is at most one declaration; the kernel's header gives all
small_store : (form : Form) (program : Program) → header_fits form program.header ≡ true → count_fits form (length program.rows) ≡ true
    → store_words form program.header program.rows ≤ most_store
small_store Source program h c =
    let f = count_fits-facts Source (length program.rows) c in
    omega (arith, source-small program.header program.rows h, declarations-few program.rows, f.most)
small_store Kernel program h c = omega (arith, kernel-store program.header program.rows, kernel-small program.header h)

module _ (form : Form) (program : Program) {header rows : List ℤ} (r : Roomy form header rows) where
  takes : cause_of form program.header (length program.rows) true ≡ None → Taken form program header rows
  takes e =
      let p = cause-none form program.header (length program.rows) true e in
      record {
        fits = p.header-fits;
        small = small_store form program p.header-fits p.count-fits;
        header_room = omega (arith, (header_fits-facts form program.header p.header-fits).most, r.header_room);
        rows_room = omega (arith, (count_fits-facts form (length program.rows) p.count-fits).most, r.rows_room);
      }

  -- cause 10 does not arise
  room-enough : (cause : Option ℕ) → cause_of form program.header (length program.rows) true ≡ cause
      → cause_of form program.header (length program.rows) (tables_hold program header rows) ≡ cause
  room-enough (Some number) e = cause-some form program.header (length program.rows) number _ e
  room-enough None e =
      let t = takes e in
      rw (le-leb (length program.header) (length header) t.header_room, le-leb (length program.rows) (length rows) t.rows_room) e

module _ (form : Form) (text : List ℕ) {header rows : List ℤ} (r : Roomy form header rows) where
  read-parsed : (read : Parsed Program) (answer : Result (ℕ × ℕ) NumberedRefusal) {headerLeft rows_left : List ℤ} → Reads (read_parsed form read header rows) answer headerLeft rows_left
      → ReadFor (parsed_output form read) form answer headerLeft rows_left
  unfolding read_parsed parsed_output
  read-parsed (malformed line) answer s = malformed-by form line header rows answer s
  read-parsed (parsed program) answer s = read-by _ (takes form program r) answer (rw (room-enough form program r _ refl) at s)

  pub read-for : (answer : Result (ℕ × ℕ) NumberedRefusal) (headerLeft rows_left : List ℤ) → Reads (read_result form text header rows) answer headerLeft rows_left
      → ReadFor (text_output form text) form answer headerLeft rows_left
  unfolding read_result text_output
  read-for answer headerLeft rows_left s = read-parsed (parse form text) answer s

  -- the line of a refusal
  pub refused-text : (refusal : NumberedRefusal) (headerLeft rows_left : List ℤ) → Reads (read_result form text header rows) (Err refusal) headerLeft rows_left
      → (output : List ℤ → List ℤ → List ℕ) → refused_line refusal.number refusal.place ≡ text_output form text output
  refused-text refusal headerLeft rows_left s = read-for (Err refusal) headerLeft rows_left s

  pub read-text : {numbers words : ℕ} {headerLeft rows_left : List ℤ} → Reads (read_result form text header rows) (Ok (numbers, words)) headerLeft rows_left
      → ReadText (text_output form text) form headerLeft rows_left numbers words
  read-text {numbers} {words} {headerLeft} {rows_left} s = read-for (Ok (numbers, words)) headerLeft rows_left s
