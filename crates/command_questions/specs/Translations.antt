-- Translations: what `translate` and `translate-page` print.
use Rattle.std.specs.Prelude.{List, ℕ, ℤ, Err, Ok, Result}
use Rattle.words.specs.Refusals.{NumberedRefusal}
use Rattle.words.specs.declared.Form.TheVariants.{Source}
use Rattle.text_form.specs.Text.{text_bytes}
use Rattle.text_report.specs.Lines.{refused_line}
use Rattle.translation_fate.specs.KernelForms.{kernel_header_of, kernel_rows_of}
use Rattle.program_runs.specs.Runs.{refusal_of}
use Rattle.command_request.specs.declared.request.Sheet.{Sheet}
use Rattle.command_request.specs.declared.request.Sheet.TheVariants.{Text, Page}
use Rattle.command_text.specs.Texts.{text_output}
use Rattle.command_questions.specs.Pages.{kernel_page}

-- How a kernel program is shown: "translate (prints the kernel text)", or its page.
abbrev pub sheet_of : Sheet → (header rows : List ℤ) → List ℕ
sheet_of Text = text_bytes
sheet_of Page = kernel_page

-- A source program's translation, or its refusal.
abbrev pub verdict_sheet : Sheet → Result (Unit {0}) NumberedRefusal → (header rows : List ℤ) → List ℕ
verdict_sheet sheet (Err refusal) header rows = refused_line refusal.number refusal.place
verdict_sheet sheet (Ok tt) header rows = sheet_of sheet (kernel_header_of header rows) (kernel_rows_of header rows)

abbrev pub translation_sheet : Sheet → (header rows : List ℤ) → List ℕ
translation_sheet sheet header rows = verdict_sheet sheet (refusal_of Source header rows) header rows

unfoldable pub translation_output : Sheet → List ℕ → List ℕ
translation_output sheet text = text_output Source text (translation_sheet sheet)
