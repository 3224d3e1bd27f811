-- Dispatcher runs: what the dispatcher's run of a kernel program answers, and what it leaves in the words. Change 9.
use Rattle.std.specs.Prelude.{List, ◌++◌, ℕ, eqb, ℤ, length, Err, Ok, Result}
use Rattle.words.specs.declared.Ending.{Ending}
use Rattle.words.specs.Word.{pick}
use Rattle.words.specs.Answers.{ending_number}
use Rattle.words.specs.Numbers.{Numbers, done, refused}
use Rattle.words.specs.Layout.{layout_of, store_size, behind_of, zeros}
use Rattle.words.specs.declared.Form.TheVariants.{Kernel}
use Rattle.words.specs.Refusals.{NumberedRefusal}
use Rattle.language_programs.specs.Program.{run_program}
use Rattle.translation_fate.specs.Views.{DispatcherView, dispatcher_view}
use Rattle.program_runs.specs.Runs.{refusal_of}

-- The answer in numbers: the ending's, and no count.
abbrev pub dispatcher_numbers : Result Ending NumberedRefusal → Numbers
dispatcher_numbers (Ok ending) = done (ending_number ending) 0
dispatcher_numbers (Err refusal) = refused refusal.number refusal.place

-- What the dispatcher's run gives: its answer, that answer in numbers, and the words that it leaves.
pub record DispatcherResult : Type 0 where
  pub answer : Result Ending NumberedRefusal
  pub numbers : Numbers
  pub words : List ℤ

-- An answer and the words that it leaves.
abbrev pub answer_and_words : Result Ending NumberedRefusal → List ℤ → DispatcherResult
answer_and_words answer words = record { answer = answer; numbers = dispatcher_numbers answer; words = words }

-- A refusal leaves the words as they were.
abbrev pub dispatcher_refused : NumberedRefusal → List ℤ → DispatcherResult
dispatcher_refused refusal words = answer_and_words (Err refusal) words

abbrev pub shown : DispatcherView → DispatcherResult
shown view = answer_and_words (Ok view.ending) view.words

-- The dispatcher's view of a kernel run on these words, whose declared words and temporaries begin as zeros.
abbrev pub view_of_run : List ℤ → List ℤ → ℕ → List ℤ → DispatcherView
view_of_run header rows budget words = dispatcher_view (store_size (layout_of Kernel header)) (run_program Kernel header rows budget (words ++ zeros (behind_of Kernel header)))

-- The check's causes first; then 11, not S words; then the run.
abbrev pub dispatcher_after : Result (Unit {0}) NumberedRefusal → List ℤ → List ℤ → ℕ → List ℤ → DispatcherResult
dispatcher_after (Err refusal) header rows budget words = dispatcher_refused refusal words
dispatcher_after (Ok tt) header rows budget words =
    pick (eqb (length words) (store_size (layout_of Kernel header))) (shown (view_of_run header rows budget words)) (dispatcher_refused (record { number = 11; place = 0 }) words)

unfoldable pub dispatcher_result : List ℤ → List ℤ → ℕ → List ℤ → DispatcherResult
dispatcher_result header rows budget words = dispatcher_after (refusal_of Kernel header rows) header rows budget words
