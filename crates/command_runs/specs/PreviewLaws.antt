-- Laws of a preview's lines: they tell the answer of the run that they are about.
use Rattle.std.specs.Prelude.{◌≡◌, refl, Bool, List, ℕ, ℤ, pos, length, Err, Ok, Result}
use Rattle.words.specs.declared.RunAnswer.{RunAnswer}
use Rattle.words.specs.Refusals.{NumberedRefusal}
use Rattle.std.proofs.Common.{ap, arith, le-leb}
use Rattle.std.proofs.lemmas.List.{length-replicate}
use Rattle.words.specs.Layout.{store_words, zeros}
use Rattle.words.specs.declared.Form.TheVariants.{Source}
use Rattle.program_runs.specs.Runs.{run_result}
use Rattle.language_programs.specs.Program.{source_size}
use Rattle.program_previews.specs.Previews.{told_run, preview_if, preview_after, preview_result}

-- The ending and count of the run, or its refusal: in a scratch of as many words as the store 15 does not arise.
pub told-as-run : (header rows : List ℤ) (budget : ℕ) (store : List ℤ)
    → told_run (preview_result header rows budget store (zeros (store_words Source header rows))).answer ≡ (run_result Source header rows budget store).answer
unfolding preview_result
told-as-run header rows budget store = by (run_result Source header rows budget store).answer
  where
    by : (answer : Result RunAnswer NumberedRefusal) → told_run (preview_after answer (source_size header) (store_words Source header rows) (run_result Source header rows budget store).store store (zeros (store_words Source header rows))).answer ≡ answer
    by (Ok run) =
        ap (λ (room : Bool). told_run (preview_if room run (source_size header) (run_result Source header rows budget store).store store (zeros (store_words Source header rows))).answer)
        (le-leb (store_words Source header rows) (length (zeros (store_words Source header rows))) (omega (arith, length-replicate (store_words Source header rows) (pos 0))))
    by (Err refusal) = refl
