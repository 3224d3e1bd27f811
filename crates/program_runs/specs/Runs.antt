-- Runs: the answers of run and kernel run, and what they leave in the store.
use Rattle.std.specs.Prelude.{List, ℕ, eqb, ℤ, length, Err, Ok, Result}
use Rattle.words.specs.declared.RunAnswer.{RunAnswer}
use Rattle.words.specs.Word.{pick}
use Rattle.words.specs.Numbers.{Numbers, run_numbers}
use Rattle.words.specs.Layout.{store_words}
use Rattle.words.specs.declared.Form.{Form}
use Rattle.words.specs.declared.Form.TheVariants.{Source, Kernel}
use Rattle.words.specs.Refusals.{NumberedRefusal}
use Rattle.language.specs.Program.{Finished}
use Rattle.language_programs.specs.Program.{run_program}
use Rattle.check_source.specs.Refusal.{refusal as source_refusal}
use Rattle.check_kernel.specs.Refusal.{refusal as kernel_refusal}

-- The check of a form.
abbrev pub refusal_of : Form → List ℤ → List ℤ → Result (Unit {0}) NumberedRefusal
refusal_of Source header rows = source_refusal header rows
refusal_of Kernel header rows = kernel_refusal header rows

-- What a run gives: its answer, that answer in numbers, and the store that it leaves.
pub record RunResult : Type 0 where
  pub answer : Result RunAnswer NumberedRefusal
  pub numbers : Numbers
  pub store : List ℤ

-- An answer and the store that it leaves.
abbrev pub answer_and_store : Result RunAnswer NumberedRefusal → List ℤ → RunResult
answer_and_store answer store = record { answer = answer; numbers = run_numbers answer; store = store }

-- A refusal leaves the store as it was.
abbrev pub run_refused : NumberedRefusal → List ℤ → RunResult
run_refused refusal store = answer_and_store (Err refusal) store

abbrev pub ran : Finished → RunResult
ran finished = answer_and_store (Ok (record { ending = finished.ending; count = finished.count })) finished.store

-- The check's causes first; then 11, "store not S (source) or S+T (kernel) words", where Change 11 "reads S+D and S+D+T"; then the run.
abbrev pub run_after : Result (Unit {0}) NumberedRefusal → Form → List ℤ → List ℤ → ℕ → List ℤ → RunResult
run_after (Err refusal) form header rows budget store = run_refused refusal store
run_after (Ok tt) form header rows budget store =
    pick (eqb (length store) (store_words form header rows)) (ran (run_program form header rows budget store)) (run_refused (record { number = 11; place = 0 }) store)

unfoldable pub run_result : Form → List ℤ → List ℤ → ℕ → List ℤ → RunResult
run_result form header rows budget store = run_after (refusal_of form header rows) form header rows budget store
