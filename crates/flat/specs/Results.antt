-- Results: the run of a flat list, what a flat run answers, and what it leaves in the store.
use Rattle.std.specs.Prelude.{List, ℕ, eqb, ℤ, length, Err, Ok, Result}
use Rattle.words.specs.declared.RunAnswer.{RunAnswer}
use Rattle.words.specs.Word.{pick}
use Rattle.words.specs.Numbers.{Numbers, run_numbers}
use Rattle.words.specs.Layout.{layout_of, header_store}
use Rattle.words.specs.declared.Form.TheVariants.{Kernel}
use Rattle.words.specs.Refusals.{NumberedRefusal}
use Rattle.language.specs.Program.{Finished}
use Rattle.flat.specs.Lines.{run_from}
use Rattle.flat.specs.Words.{lines_of}
use Rattle.flat.specs.Refusal.{refusal}

-- The run of a list with a budget, any natural number, from line 0.
unfoldable pub run_list : List ℤ → List ℤ → ℕ → List ℤ → Finished
run_list header list budget store = run_from (layout_of Kernel header) (lines_of list) budget 0 0 store

-- What a flat run gives: its answer, that answer in numbers, and the store that it leaves.
pub record FlatResult : Type 0 where
  pub answer : Result RunAnswer NumberedRefusal
  pub numbers : Numbers
  pub store : List ℤ

abbrev pub answer_and_store : Result RunAnswer NumberedRefusal → List ℤ → FlatResult
answer_and_store answer store = record { answer = answer; numbers = run_numbers answer; store = store }

-- A refusal leaves the store as it was.
abbrev pub flat_refused : NumberedRefusal → List ℤ → FlatResult
flat_refused refusal store = answer_and_store (Err refusal) store

abbrev pub flat_ran : Finished → FlatResult
flat_ran finished = answer_and_store (Ok (record { ending = finished.ending; count = finished.count })) finished.store

-- The list's own check first; "then 11 store"; then the run.
abbrev pub flat_after : Result (Unit {0}) NumberedRefusal → List ℤ → List ℤ → ℕ → List ℤ → FlatResult
flat_after (Err refusal) header list budget store = flat_refused refusal store
flat_after (Ok tt) header list budget store =
    pick (eqb (length store) (header_store Kernel header)) (flat_ran (run_list header list budget store)) (flat_refused (record { number = 11; place = 0 }) store)

unfoldable pub flat_result : List ℤ → List ℤ → ℕ → List ℤ → FlatResult
flat_result header list budget store = flat_after (refusal header list) header list budget store
