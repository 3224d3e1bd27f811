-- Translations: what the translator wrote is a kernel program whose text has room.
use Rattle.std.specs.Prelude.{Err, Ok, Result}
use mathlib.Core.Path.{◌≡◌, sym, ap}
use mathlib.Core.List.{List}
use Prim.Native.Nat.{ℕ, ◌-◌, ◌≤◌}
use native.Mathlib.Omega.{arith}
use lib.IntN.{ℤ}
use lib.ListN.{length, take}
use Rattle.words.specs.Laws.{header_fits-facts, count_fits-facts}
use Rattle.words.specs.declared.Form.TheVariants.{Kernel}
use Rattle.words.specs.Refusals.{NumberedRefusal}
use Rattle.text_form.specs.Passing.{Passes}
use Rattle.text_report.specs.Lines.{refused_line}
use Rattle.check_source.specs.Refusal.{refusal as source_refusal}
use Rattle.translation_fate.specs.KernelForms.{kernel_header_of, kernel_rows_of, HasKernelForm}
use Rattle.translator.specs.Translation.{answer_and_tables, translate_result}
use Rattle.translator.proofs.TranslationLaws.{HasRoom, translation-made, translation-refused}
use Rattle.program_runs.proofs.AcceptedLaws.{accepted-header, accepted-count}
use Rattle.command_request.specs.declared.request.Sheet.{Sheet}
use Rattle.command_text.specs.Texts.{Roomy, Printable}
use Rattle.command_questions.specs.Translations.{sheet_of, verdict_sheet, translation_sheet}

-- a program that was translated: the tables as they stand after it
pub record TranslatedTables (header rows headerLeft rows_left : List ℤ) (numbers words : ℕ) : Type 0 where
  pub header_inside : numbers ≤ length headerLeft
  pub rows_inside : words ≤ length rows_left
  pub accepted : source_refusal header rows ≡ (Ok tt)
  pub header_is : take (numbers - 0) headerLeft ≡ kernel_header_of header rows
  pub rows_is : take (words - 0) rows_left ≡ kernel_rows_of header rows
  pub printable : Printable (take (numbers - 0) headerLeft) (take (words - 0) rows_left)
  pub is : (sheet : Sheet) → sheet_of sheet (take (numbers - 0) headerLeft) (take (words - 0) rows_left) ≡ translation_sheet sheet header rows

module _ (header rows : List ℤ) {headerTable rowsTable : List ℤ} (r : Roomy Kernel headerTable rowsTable) (k : HasKernelForm header rows) where
  kernel-passes : source_refusal header rows ≡ (Ok tt) → Passes Kernel (kernel_header_of header rows) (length (kernel_rows_of header rows))
  kernel-passes a = record { header-fits = accepted-header Kernel _ _ (k a).accepted; count-fits = accepted-count Kernel _ _ (k a).accepted }

  has-room : source_refusal header rows ≡ (Ok tt) → HasRoom header rows headerTable rowsTable
  has-room a =
      let p = kernel-passes a in
      record {
        header_room = omega (arith, (header_fits-facts Kernel (kernel_header_of header rows) p.header-fits).most, r.header_room);
        rows_room = omega (arith, (count_fits-facts Kernel (length (kernel_rows_of header rows)) p.count-fits).most, r.rows_room);
      }

  pub refused-source : (refusal : NumberedRefusal) (headerLeft rows_left : List ℤ) → answer_and_tables (Err refusal) headerLeft rows_left ≡ translate_result header rows headerTable rowsTable
      → source_refusal header rows ≡ Err refusal
  refused-source refusal headerLeft rows_left e = translation-refused header rows headerTable rowsTable headerLeft rows_left refusal has-room e

  -- the line of a refusal
  pub refused-translation : (sheet : Sheet) (refusal : NumberedRefusal) (headerLeft rows_left : List ℤ) → answer_and_tables (Err refusal) headerLeft rows_left ≡ translate_result header rows headerTable rowsTable
      → refused_line refusal.number refusal.place ≡ translation_sheet sheet header rows
  refused-translation sheet refusal headerLeft rows_left e =
      ap (λ (v : Result (Unit {0}) NumberedRefusal). verdict_sheet sheet v header rows) (sym (refused-source refusal headerLeft rows_left e))

  pub translated : {numbers words : ℕ} {headerLeft rows_left : List ℤ} → answer_and_tables (Ok (numbers, words)) headerLeft rows_left ≡ translate_result header rows headerTable rowsTable
      → length headerLeft ≡ length headerTable → length rows_left ≡ length rowsTable → TranslatedTables header rows headerLeft rows_left numbers words
  translated {numbers} {words} {headerLeft} {rows_left} e h g =
      let made = translation-made header rows headerTable rowsTable headerLeft rows_left numbers words e in
      record {
        header_inside = omega (arith, made.header_room, h);
        rows_inside = omega (arith, made.rows_room, g);
        accepted = made.accepted;
        header_is = made.header-written;
        rows_is = made.rows_written;
        printable = record { form = Kernel; passes = rw (made.header-written, made.rows_written) (kernel-passes made.accepted) };
        is = λ sheet. rw (made.header-written, made.rows_written) (ap (λ (v : Result (Unit {0}) NumberedRefusal). verdict_sheet sheet v header rows) (sym made.accepted));
      }
