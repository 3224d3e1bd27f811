-- What the printer wrote into a page of so much room, or refused, is what is printed.
use Rattle.std.specs.Prelude.{Err, Ok, Result, None}
use mathlib.Core.Path.{◌≡◌, refl, sym, ap, subst, ◌∙◌}
use mathlib.Core.Bool.{Bool, true, false}
use mathlib.Core.List.{List, [], ◌∷◌}
use Prim.Native.Nat.{ℕ, ◌-◌, ◌≤◌}
use native.Mathlib.Omega.{arith}
use lib.Dec.{leb}
use lib.IntN.{ℤ}
use lib.ListN.{length}
use borrow.Author.Tests.{leb-true}
use borrow.Rule.Slice.PartMut.{mid_of, put_mid, mid_len, put_same}
use Rattle.words.specs.Word.{pick}
use Rattle.words.specs.Over.{over}
use Rattle.words.specs.Laws.{by_cases}
use Rattle.words.specs.declared.Form.TheVariants.{Kernel}
use Rattle.words.specs.Refusals.{NumberedRefusal}
use Rattle.text_form.specs.Answers.{finished, refused, cause_unless, WriteResult, write_bytes, Writes}
use Rattle.text_form.proofs.AnswerLaws.{refused-finished}
use Rattle.text_numbers.specs.Writer.{Put}
use Rattle.text_report.specs.Lines.{refused_line}
use Rattle.page.specs.Tables.{table_page}
use Rattle.page_printer.specs.Pages.{print_accepted}
use Rattle.program_runs.specs.Runs.{refusal_of}
use Rattle.clight.specs.Prints.{print_after, print_result}
use Rattle.command_text.specs.Texts.{output_room}
use Rattle.command_text.proofs.Printing.{put_first}
use Rattle.command_text.proofs.Readings.{refused-line}
use Rattle.command_questions.specs.Pages.{accepted_page, verdict_page, kernel_page}

-- bytes that were put, and that there was room for them
pub record Filled (bytes page : List ℕ) (size : ℕ) (left : List ℕ) : Type 0 where
  pub put : Put bytes page size left
  pub room : length bytes ≤ length page

module _ (header rows : List ℤ) (page : List ℕ) (whole : length page ≡ output_room) where
  abbrev bytes : List ℕ
  bytes = table_page header rows

  whole-page : {size : ℕ} {left : List ℕ} → leb (length bytes) output_room ≡ true → finished (size ∷ []) ≡ finished (length bytes ∷ []) → left ≡ over bytes page → Filled bytes page size left
  whole-page {size} {left} e f w =
      let same : size ≡ length bytes = cc in
      record { put = record { size = same; written = w }; room = omega (arith, leb-true (length bytes) output_room e, whole) }

  written-if : (fits : Bool) → leb (length bytes) output_room ≡ fits → {size : ℕ} {left : List ℕ} → Writes (write_bytes (cause_unless fits 10 None) bytes page) (Ok size) left
      → Filled (pick fits bytes (refused_line 10 0)) page size left
  unfolding write_bytes cause_unless
  written-if true e w = whole-page e w.outcome w.text_left
  written-if false e w = refused-finished (sym w.outcome)

  refused-if : (fits : Bool) {refusal : NumberedRefusal} {left : List ℕ} → Writes (write_bytes (cause_unless fits 10 None) bytes page) (Err refusal) left
      → refused_line refusal.number refusal.place ≡ pick fits bytes (refused_line 10 0)
  unfolding write_bytes cause_unless
  refused-if true w = refused-finished w.outcome
  refused-if false w = refused-line w.outcome

  printed-by : (verdict : Result (Unit {0}) NumberedRefusal) {size : ℕ} {left : List ℕ} → Writes (print_after verdict header rows page) (Ok size) left → Filled (verdict_page verdict header rows) page size left
  unfolding print_accepted
  printed-by (Ok tt) w = written-if (leb (length bytes) output_room) refl (rw whole at w)
  printed-by (Err refusal) w = refused-finished (sym w.outcome)

  refused-by : (verdict : Result (Unit {0}) NumberedRefusal) {refusal : NumberedRefusal} {left : List ℕ} → Writes (print_after verdict header rows page) (Err refusal) left
      → refused_line refusal.number refusal.place ≡ verdict_page verdict header rows
  unfolding print_accepted
  refused-by (Ok tt) w = refused-if (leb (length bytes) output_room) (rw whole at w)
  refused-by (Err other) w = refused-line w.outcome

  left-if : (fits : Bool) {refusal : NumberedRefusal} {left : List ℕ} → Writes (write_bytes (cause_unless fits 10 None) bytes page) (Err refusal) left → left ≡ page
  unfolding write_bytes cause_unless
  left-if true w = refused-finished w.outcome
  left-if false w = w.text_left

  left-by : (verdict : Result (Unit {0}) NumberedRefusal) {refusal : NumberedRefusal} {left : List ℕ} → Writes (print_after verdict header rows page) (Err refusal) left → left ≡ page
  unfolding print_accepted
  left-by (Ok tt) w = left-if (leb (length bytes) (length page)) w
  left-by (Err other) w = w.text_left

  pub printed : {size : ℕ} {left : List ℕ} → Writes (print_result header rows page) (Ok size) left → Filled (kernel_page header rows) page size left
  unfolding print_result
  printed w = printed-by (refusal_of Kernel header rows) w

  pub refused-page : {refusal : NumberedRefusal} {left : List ℕ} → Writes (print_result header rows page) (Err refusal) left
      → refused_line refusal.number refusal.place ≡ kernel_page header rows
  unfolding print_result
  refused-page w = refused-by (refusal_of Kernel header rows) w

  -- a refusal changes no byte
  pub refused-leaves : {refusal : NumberedRefusal} {left : List ℕ} → Writes (print_result header rows page) (Err refusal) left → left ≡ page
  unfolding print_result
  refused-leaves w = left-by (refusal_of Kernel header rows) w

-- the page is the start of the output
pub page-size : (out : List ℕ) (size : ℕ) → size ≡ output_room → output_room ≤ length out → length (mid_of 0 (size - 0) out) ≡ output_room
page-size out size e o = omega (arith, e, mid_len 0 size out (omega (arith, e, o)))

-- and was left as it was
pub put-after : {bytes : List ℕ} (out lent : List ℕ) (size : ℕ) {count : ℕ} {left : List ℕ} → lent ≡ mid_of 0 (size - 0) out → Put bytes (put_mid 0 (size - 0) out lent) count left → Put bytes out count left
put-after {bytes} out lent size {count} {left} e p = subst (λ (l : List ℕ). Put bytes l count left) (ap (λ (m : List ℕ). put_mid 0 (size - 0) out m) e ∙ put_same 0 (size - 0) out) p
