-- What is printed for the text of a list that the reader refused or read, into the first words of a table.
use Rattle.std.specs.Prelude.{Err, Ok, Result, None, Option, Some}
use Rattle.words.specs.Refusals.{NumberedRefusal}
use mathlib.Core.Path.{◌≡◌, refl, sym, ap, ◌∙◌}
use mathlib.Core.Bool.{Bool, true, false}
use mathlib.Core.List.{List, ◌++◌}
use Prim.Native.Nat.{ℕ, ◌-◌, ◌≤◌}
use native.Mathlib.Omega.{arith}
use lib.Dec.{leb}
use lib.IntN.{ℤ}
use lib.ListN.{length, take, drop, length-append}
use lib.Seq.{take-append-le}
use borrow.Author.Tests.{le-leb, leb-true}
use borrow.Rule.Slice.PartMut.{put_mid}
use Rattle.words.specs.Word.{pick}
use Rattle.words.specs.Layout.{header_fits}
use Rattle.words.specs.Laws.{by_cases, header_fits-facts}
use Rattle.words.specs.StoreLaws.{kernel-store, kernel-small}
use Rattle.words.specs.declared.Form.TheVariants.{Kernel}
use Rattle.text_form.specs.Text.{Parsed, parsed, malformed, Program}
use Rattle.text_form.specs.Answers.{cause_unless, tables_hold, Reads}
use Rattle.flat_text.specs.Text.{parse_flat}
use Rattle.flat_text.specs.Answers.{flat_cause, flat_parsed, flat_read_result}
use Rattle.command_text.specs.Read.{ReadText, ReadFor}
use Rattle.command_text.proofs.Readings.{Taken, read-by, malformed-by}
use Rattle.command_flat.specs.Lists.{list_room, parsed_list, list_output}

-- a test, and one that is made where it holds
none_said : (holds : Bool) (number : ℕ) (others : Option ℕ) → cause_unless holds number others ≡ None → (holds ≡ true) × (others ≡ None)
unfolding cause_unless
none_said true number others e = (refl, e)
none_said false number others e = absurd (let z : ◌≡◌ {A = ℕ} 0 1 = cc in omega arith)

module _ (program : Program) (header list : List ℤ) (h : 35 ≤ length header) (l : length list ≡ list_room) where
  header-short : header_fits Kernel program.header ≡ true → length program.header ≤ length header
  header-short f = omega (arith, (header_fits-facts Kernel program.header f).most, h)

  takes : flat_cause program.header (leb (length program.rows) list_room) ≡ None → Taken Kernel program header list
  unfolding flat_cause
  takes e =
      let f = none_said (header_fits Kernel program.header) 1 _ e in
      let r = none_said (leb (length program.rows) list_room) 10 None f.1 in
      record {
        fits = f.0;
        small = omega (arith, kernel-store program.header program.rows, kernel-small program.header f.0);
        header_room = header-short f.0;
        rows_room = omega (arith, leb-true (length program.rows) list_room r.0, l);
      }

  -- the header has room wherever it is within its limits
  same-cause : flat_cause program.header (tables_hold program header list) ≡ flat_cause program.header (leb (length program.rows) list_room)
  unfolding flat_cause cause_unless
  same-cause =
      by_cases (header_fits Kernel program.header)
      (λ f. rw (l, le-leb (length program.header) (length header) (header-short f)))
      (λ f. rw f)

module _ (text : List ℕ) (header list : List ℤ) (h : 35 ≤ length header) (l : length list ≡ list_room) where
  list-parsed : (read : Parsed Program) (answer : Result (ℕ × ℕ) NumberedRefusal) {headerLeft listLeft : List ℤ} → Reads (flat_parsed read header list) answer headerLeft listLeft
      → ReadFor (parsed_list read) Kernel answer headerLeft listLeft
  unfolding flat_parsed parsed_list
  list-parsed (malformed line) answer s = malformed-by Kernel line header list answer s
  list-parsed (parsed program) answer s = read-by _ (takes program header list h l) answer (rw (same-cause program header list h l) at s)

  pub list-for : (answer : Result (ℕ × ℕ) NumberedRefusal) (headerLeft listLeft : List ℤ) → Reads (flat_read_result text header list) answer headerLeft listLeft → ReadFor (list_output text) Kernel answer headerLeft listLeft
  unfolding flat_read_result list_output
  list-for answer headerLeft listLeft s = list-parsed (parse_flat text) answer s

-- the same where the part is back in its table
pub whole-table : (printed : (List ℤ → List ℤ → List ℕ) → List ℕ) (answer : Result (ℕ × ℕ) NumberedRefusal) (headerLeft table lent : List ℤ) (size : ℕ)
    → ReadFor printed Kernel answer headerLeft lent → ReadFor printed Kernel answer headerLeft (put_mid 0 (size - 0) table lent)
whole-table printed (Err refusal) headerLeft table lent size r = r
whole-table printed (Ok (numbers, words)) headerLeft table lent size r =
    let same : take (words - 0) (put_mid 0 (size - 0) table lent) ≡ take (words - 0) lent = take-append-le (words - 0) lent (drop (size - 0) table) (omega (arith, r.rows_inside)) in
    record {
      header_inside = r.header_inside;
      rows_inside = omega (arith, r.rows_inside, length-append lent (drop (size - 0) table));
      fits = r.fits;
      small = rw same r.small;
      is = λ output. rw same (r.is output);
    }
