-- Lists: what is printed for the text of a flat list. Change 10.
use Rattle.std.specs.Prelude.{List, ℕ, leb, ℤ, length}
use Rattle.text_form.specs.Text.{Parsed, parsed, malformed, Program}
use Rattle.text_report.specs.Lines.{refused_line}
use Rattle.flat.specs.Refusal.{refusal as flat_refusal}
use Rattle.flat.specs.Results.{FlatResult, flat_result}
use Rattle.flat_text.specs.Text.{parse_flat}
use Rattle.flat_text.specs.Answers.{flat_cause}
use Rattle.command_lines.specs.Lines.{verdict_line, run_line}
use Rattle.command_text.specs.Texts.{program_output}

-- Words of a list that is read: those of 49,176 lines. No list of a kernel program has as many.
abbrev pub list_room : ℕ
list_room = 245880

unfoldable pub parsed_list : Parsed Program → (List ℤ → List ℤ → List ℕ) → List ℕ
parsed_list (malformed line) output = refused_line 14 line
parsed_list (parsed program) output = program_output (flat_cause program.header (leb (length program.rows) list_room)) program output

-- The reader's refusal, 14, then 1 and 10; or what is printed for the header and the list.
unfoldable pub list_output : List ℕ → (List ℤ → List ℤ → List ℕ) → List ℕ
list_output text output = parsed_list (parse_flat text) output

-- ---- flat-check

abbrev pub list_check_line : (header list : List ℤ) → List ℕ
list_check_line header list = verdict_line (flat_refusal header list)

-- ---- flat-run

abbrev pub flat_line : FlatResult → List ℕ
flat_line result = run_line result.answer result.store

-- The line of a run from this store: ending, count of lines made, and the store's words.
abbrev pub list_run_line : ℕ → (store header list : List ℤ) → List ℕ
list_run_line budget store header list = flat_line (flat_result header list budget store)
