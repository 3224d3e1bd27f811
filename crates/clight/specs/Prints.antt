-- Prints: what the printing of a kernel program answers, and what it leaves in the page. Change 6.
use Rattle.std.specs.Prelude.{List, ℕ, ℤ, Err, Ok, Result}
use Rattle.words.specs.Refusals.{NumberedRefusal}
use Rattle.words.specs.declared.Form.TheVariants.{Kernel}
use Rattle.text_form.specs.Answers.{refused, WriteResult}
use Rattle.page_printer.specs.Pages.{print_accepted}
use Rattle.program_runs.specs.Runs.{refusal_of}

-- The kernel check's causes first; then 10. A refusal leaves the page as it was.
abbrev pub print_after : Result (Unit {0}) NumberedRefusal → List ℤ → List ℤ → List ℕ → WriteResult
print_after (Err refusal) header rows page = record { outcome = refused refusal.number refusal.place; text = page }
print_after (Ok tt) header rows page = print_accepted header rows page

unfoldable pub print_result : List ℤ → List ℤ → List ℕ → WriteResult
print_result header rows page = print_after (refusal_of Kernel header rows) header rows page
