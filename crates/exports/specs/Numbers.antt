-- Numbers: each answer as a caller in another language gets it.
use Rattle.std.specs.Prelude.{◌≡◌, List, ℕ, ℤ, get_or, Err, Ok, Result}
use Rattle.words.specs.declared.RunAnswer.{RunAnswer}
use Rattle.words.specs.Refusals.{NumberedRefusal}
use Rattle.words.specs.Numbers.{Numbers, done, refused, verdict_numbers, run_numbers}
use Rattle.text_form.specs.Answers.{TextOutcome, finished, refused as text_refused}
use Rattle.translator.specs.Translation.{translate_numbers, WroteKernelForm}
use Rattle.joiner.specs.Joining.{join_numbers, WroteJoin}
use Rattle.flattener.specs.Flattening.{flatten_numbers, WroteList}
use Rattle.page_reader.specs.Reads.{page_numbers}
use Rattle.exports.specs.declared.Answer.{Answer}
use Rattle.exports.specs.declared.PreviewAnswer.{PreviewAnswer}

abbrev pub answer_of : Numbers → Answer
answer_of numbers = record { cause = numbers.cause; first = numbers.first; second = numbers.second }

abbrev pub verdict_answer : Result (Unit {0}) NumberedRefusal → Answer
verdict_answer verdict = answer_of (verdict_numbers verdict)

abbrev pub run_answer : Result RunAnswer NumberedRefusal → Answer
run_answer verdict = answer_of (run_numbers verdict)

-- One size, or two, or the refusal.
abbrev pub size_answer : Result ℕ NumberedRefusal → Answer
size_answer (Ok size) = answer_of (done size 0)
size_answer (Err refusal) = answer_of (refused refusal.number refusal.place)

abbrev pub sizes_answer : Result (ℕ × ℕ) NumberedRefusal → Answer
sizes_answer (Ok (first, second)) = answer_of (done first second)
sizes_answer (Err refusal) = answer_of (refused refusal.number refusal.place)

-- A preview: the numbers of the run, and how many store words would differ.
abbrev pub preview_answer : Numbers → ℕ → PreviewAnswer
preview_answer numbers tally = record { cause = numbers.cause; first = numbers.first; second = numbers.second; differing = tally }

-- A reader: the header words and the row words. A writer: the bytes, and 0. Or the refusal.
abbrev pub outcome_numbers : TextOutcome → Numbers
outcome_numbers (finished values) = done (get_or values 0 0) (get_or values 1 0)
outcome_numbers (text_refused number place) = refused number place

abbrev pub outcome_answer : TextOutcome → Answer
outcome_answer outcome = answer_of (outcome_numbers outcome)

abbrev pub translate_answer : Result (ℕ × ℕ) NumberedRefusal → Answer
translate_answer answer = answer_of (translate_numbers answer)

-- Demands 2 and 3 and Change 14 about what stands in both tables after a translation whose answer has no cause.
abbrev pub WritesIfDone : (header rows : List ℤ) → Answer → (headerLeft rows_left : List ℤ) → Type 0
WritesIfDone header rows answer headerLeft rows_left = answer.cause ≡ 0 → WroteKernelForm header rows answer.first answer.second headerLeft rows_left

abbrev pub join_answer : Result ℕ NumberedRefusal → Answer
join_answer answer = answer_of (join_numbers answer)

-- What stands in the table after a join whose answer has no cause: a legal program that runs the first, then the second.
abbrev pub JoinsIfDone : (header first second : List ℤ) → Answer → (left : List ℤ) → Type 0
JoinsIfDone header first second answer left = answer.cause ≡ 0 → WroteJoin header first second answer.first left

abbrev pub flatten_answer : Result ℕ NumberedRefusal → Answer
flatten_answer answer = answer_of (flatten_numbers answer)

-- What stands in the output after a flattening whose answer has no cause: a legal list that shares the kernel program's fate.
abbrev pub ListsIfDone : (header rows : List ℤ) → Answer → (left : List ℤ) → Type 0
ListsIfDone header rows answer left = answer.cause ≡ 0 → WroteList header rows answer.first left

-- A page that was read: the words of its rows.
abbrev pub page_answer : Result ℕ NumberedRefusal → Answer
page_answer answer = answer_of (page_numbers answer)
