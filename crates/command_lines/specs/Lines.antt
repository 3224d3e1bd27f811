-- Lines: the lines that the command prints beside those of `text_report`.
use Rattle.std.specs.Prelude.{List, [], ◌∷◌, map, ℕ, ℤ, Err, Ok, Result}
use Rattle.words.specs.declared.RunAnswer.{RunAnswer}
use Rattle.words.specs.Refusals.{NumberedRefusal}
use Rattle.words.specs.Answers.{ending_name}
use Rattle.words.specs.declared.Ending.{Ending}
use Rattle.text_numbers.specs.Number.{digits, number_bytes}
use Rattle.text_report.specs.Lines.{line_of, refused_line, kernel_line}
use Rattle.command_request.specs.Ascii.{ascii}

-- A check prints `ok`, or its refusal in the trial's manner.
unfoldable pub verdict_line : Result (Unit {0}) NumberedRefusal → List ℕ
verdict_line (Ok tt) = ascii "ok\n"
verdict_line (Err refusal) = refused_line refusal.number refusal.place

-- A run prints "ending, count and the store's words", parted by single blanks.
unfoldable pub ended_line : Ending → ℕ → List ℤ → List ℕ
ended_line ending count words = line_of (ending_name ending) (digits count ∷ map number_bytes words)

unfoldable pub run_line : Result RunAnswer NumberedRefusal → List ℤ → List ℕ
run_line (Ok answer) store = ended_line answer.ending answer.count store
run_line (Err refusal) store = refused_line refusal.number refusal.place

-- A dispatcher's run prints the trial's kernel line: the ending and the S words.
unfoldable pub dispatcher_line : Result Ending NumberedRefusal → List ℤ → List ℕ
dispatcher_line (Ok ending) words = kernel_line ending words
dispatcher_line (Err refusal) words = refused_line refusal.number refusal.place

-- "A wrong argument, an unreadable file, too long an input give one clear line."
abbrev pub usage_line : List ℕ
usage_line = ascii "misuse: command check | run BUDGET [STORE] | preview BUDGET [STORE] | translate | kernel-check | kernel-run BUDGET [STORE] | dispatcher-run BUDGET [STORE] | writes | join SECOND | page | translate-page | flatten | flat-check | flat-run BUDGET [STORE]\n"

abbrev pub wrong_budget_line : List ℕ
wrong_budget_line = ascii "misuse: the budget is no number from 0 to 4294967295\n"

abbrev pub long_text_line : List ℕ
long_text_line = ascii "misuse: the input is over 2097152 bytes\n"

abbrev pub long_store_line : List ℕ
long_store_line = ascii "misuse: the file is over 197376 bytes\n"

abbrev pub unreadable_text_line : List ℕ
unreadable_text_line = ascii "misuse: the input is unreadable\n"

abbrev pub unreadable_store_line : List ℕ
unreadable_store_line = ascii "misuse: the file is unreadable\n"

abbrev pub malformed_name : List ℕ
malformed_name = ascii "misuse: malformed word in the store file, number"

-- The number, from 1, of a store file's first malformed word.
unfoldable pub malformed_line : ℕ → List ℕ
malformed_line number = line_of malformed_name (digits number ∷ [])
