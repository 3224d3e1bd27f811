-- Pages: the page of a kernel program. Change 6.
use Rattle.std.specs.Prelude.{List, ℕ, leb, ℤ, length, Err, Ok, Result}
use Rattle.words.specs.Refusals.{NumberedRefusal}
use Rattle.words.specs.Word.{pick}
use Rattle.words.specs.declared.Form.TheVariants.{Kernel}
use Rattle.text_report.specs.Lines.{refused_line}
use Rattle.page.specs.Tables.{table_page}
use Rattle.program_runs.specs.Runs.{refusal_of}
use Rattle.command_text.specs.Texts.{output_room}

-- "A short page buffer gets 10": a page has the room that every output has.
abbrev pub accepted_page : (header rows : List ℤ) → List ℕ
accepted_page header rows = pick (leb (length (table_page header rows)) output_room) (table_page header rows) (refused_line 10 0)

-- The page of a kernel program, or its refusal.
abbrev pub verdict_page : Result (Unit {0}) NumberedRefusal → (header rows : List ℤ) → List ℕ
verdict_page (Err refusal) header rows = refused_line refusal.number refusal.place
verdict_page (Ok tt) header rows = accepted_page header rows

abbrev pub kernel_page : (header rows : List ℤ) → List ℕ
kernel_page header rows = verdict_page (refusal_of Kernel header rows) header rows
