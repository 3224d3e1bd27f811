-- Previews: what a preview answers, and what it leaves in the store and in the scratch.
use Rattle.std.specs.Prelude.{◌≡◌, Bool, true, false, List, ℕ, zero, suc, ◌+◌, ◌≤◌, leb, ℤ, pos, length, get_or, take, Err, Ok, Result}
use Rattle.words.specs.Word.{same_word}
use Rattle.words.specs.Over.{over}
use Rattle.words.specs.Numbers.{Numbers, run_numbers}
use Rattle.words.specs.Layout.{store_words}
use Rattle.words.specs.declared.Form.TheVariants.{Source}
use Rattle.words.specs.Refusals.{NumberedRefusal}
use Rattle.words.specs.declared.RunAnswer.{RunAnswer}
use Rattle.language.specs.Program.{Finished}
use Rattle.program_runs.specs.Runs.{RunResult, run_after, run_result}
use Rattle.program_previews.specs.declared.PreviewAnswer.{PreviewAnswer}
use Rattle.language_programs.specs.Program.{source_size}

-- 1 for two words that differ, 0 for equal ones.
abbrev pub one_unless : Bool → ℕ
one_unless true = 0
one_unless false = 1

unfoldable pub difference : ℤ → ℤ → ℕ
difference before after = one_unless (same_word before after)

-- "How many store words would differ": the places among the first n that hold unequal words, written or not.
unfoldable pub differences : ℕ → List ℤ → List ℤ → ℕ
differences zero before after = 0
differences (suc n) before after = differences n before after + difference (get_or before n (pos 0)) (get_or after n (pos 0))

-- The run's answer that a preview tells, and the tally beside it: 0 with a refusal.
abbrev pub told_run : Result PreviewAnswer NumberedRefusal → Result RunAnswer NumberedRefusal
told_run (Ok preview) = Ok (record { ending = preview.ending; count = preview.count })
told_run (Err refusal) = Err refusal

abbrev pub tally_of : Result PreviewAnswer NumberedRefusal → ℕ
tally_of (Ok preview) = preview.differing
tally_of (Err refusal) = 0

-- What a preview gives: its answer, that answer in numbers, and the words that it leaves.
pub record PreviewResult : Type 0 where
  pub answer : Result PreviewAnswer NumberedRefusal
  pub numbers : Numbers
  pub tally : ℕ
  pub store : List ℤ
  pub scratch : List ℤ

-- An answer and the words that it leaves.
abbrev pub answer_and_words : Result PreviewAnswer NumberedRefusal → List ℤ → List ℤ → PreviewResult
answer_and_words answer store scratch = record {
  answer = answer;
  numbers = run_numbers (told_run answer);
  tally = tally_of answer;
  store = store;
  scratch = scratch;
}

-- "A refusal changes no word of the scratch."
abbrev pub preview_refused : NumberedRefusal → List ℤ → List ℤ → PreviewResult
preview_refused refusal store scratch = answer_and_words (Err refusal) store scratch

-- "The ending, the count and how many store words would differ".
abbrev pub preview_of : RunAnswer → ℕ → PreviewAnswer
preview_of run tally = record { ending = run.ending; count = run.count; differing = tally }

-- "Leaves the would-be store in the first S words of the scratch. The rest of the scratch and the store keep their content. .. Shorter
-- scratch gets 15, place 0." With Change 11 it "needs and gets all S+D words; its tally of differences" is "over the first S".
abbrev pub preview_if : Bool → RunAnswer → (size : ℕ) → List ℤ → List ℤ → List ℤ → PreviewResult
preview_if true run size left store scratch = answer_and_words (Ok (preview_of run (differences size store left))) store (over left scratch)
preview_if false run size left store scratch = preview_refused (record { number = 15; place = 0 }) store scratch

-- "After all other causes".
abbrev pub preview_after : Result RunAnswer NumberedRefusal → (size words : ℕ) → List ℤ → List ℤ → List ℤ → PreviewResult
preview_after (Err refusal) size words left store scratch = preview_refused refusal store scratch
preview_after (Ok run) size words left store scratch = preview_if (leb words (length scratch)) run size left store scratch

-- The preview of a run: what it leaves goes into the scratch, in place of the store.
abbrev pub preview_of_run : RunResult → (size words : ℕ) → List ℤ → List ℤ → PreviewResult
preview_of_run run size words store scratch = preview_after run.answer size words run.store store scratch

-- "It equals running the rule on a copy of the store, spent and faulted runs included."
unfoldable pub preview_result : List ℤ → List ℤ → ℕ → List ℤ → List ℤ → PreviewResult
preview_result header rows budget store scratch = preview_of_run (run_result Source header rows budget store) (source_size header) (store_words Source header rows) store scratch

-- The same of an accepted program.
abbrev pub accepted_preview : List ℤ → List ℤ → ℕ → List ℤ → List ℤ → PreviewResult
accepted_preview header rows budget store scratch = preview_of_run (run_after (Ok tt) Source header rows budget store) (source_size header) (store_words Source header rows) store scratch

-- A run was made on a copy of the store: its answer with the tally, and what the copy holds.
pub record Foretells (size : ℕ) (finished : Finished) (store : List ℤ) (preview : PreviewAnswer) (copy : List ℤ) : Type 0 where
  pub told : preview ≡ preview_of (record { ending = finished.ending; count = finished.count }) (differences size store finished.store)
  pub holds : copy ≡ finished.store

-- The tally of words before and after is 0 exactly where they are equal.
pub record NoneIfEqual (before after : List ℤ) (tally : ℕ) : Type 0 where
  pub none_equal : tally ≡ 0 → before ≡ after
  pub equal_none : before ≡ after → tally ≡ 0

-- A preview that is not refused: the store had its size and the scratch room for it; the run gives the ending, the count and the words
-- that were told, and first S words that are as they were where none would differ.
pub record RunAsPreviewed (run : RunResult) (size words : ℕ) (store : List ℤ) (preview : PreviewAnswer) (scratch : List ℤ) : Type 0 where
  pub store-size : length store ≡ words
  pub scratch_room : words ≤ length scratch
  pub same_answer : run.answer ≡ Ok (record { ending = preview.ending; count = preview.count })
  pub same_words : run.store ≡ take words scratch
  pub tally_right : NoneIfEqual (take size store) (take size run.store) preview.differing
