-- ListNumbersLaws: a flattening whose answer has no cause was made, since every cause of the kernel check, 25 and 10 have a number but 0.
use Rattle.std.specs.Prelude.{◌≡◌, Bool, true, false, List, ℕ, leb, ℤ, length, Err, Ok, Result}
use Rattle.std.proofs.Math.Path.{refl, ap}
use Rattle.std.proofs.Common.{sym, ◌∙◌, arith}
use Rattle.std.proofs.Math.Logic.{⊎_elim}
use Rattle.words.specs.Word.{pick}
use Rattle.words.specs.Over.{over}
use Rattle.words.specs.declared.Form.TheVariants.{Kernel}
use Rattle.words.specs.Refusals.{NumberedRefusal}
use Rattle.check_plain.specs.Refusal.{plain_refusal}
use Rattle.check_plain.specs.Accepts.{refused-plain}
use Rattle.program_runs.specs.Runs.{refusal_of}
use Rattle.flat_fate.specs.FlatWords.{flattened}
use Rattle.flattener.specs.Flattening.{FlattenResult, answer_and_list, flatten_after, flatten_result, WritesList}
use Rattle.exports.specs.declared.Answer.{Answer}
use Rattle.exports.specs.Numbers.{flatten_answer, ListsIfDone}
use Rattle.exports.specs.NumbersLaws.{check-caused}

module _ (header rows out left : List ℤ) where
  ten-caused : (refusal : NumberedRefusal) (room : Bool)
      → answer_and_list (Err refusal) left
      ≡ pick room (answer_and_list (Ok (length (flattened rows))) (over (flattened rows) out)) (answer_and_list (Err (record { number = 10; place = 0 })) out)
      → refusal.number ≡ 0 → ⊥
  ten-caused refusal true e none =
      let told : ◌≡◌ {A = Result ℕ NumberedRefusal} (Err refusal) (Ok (length (flattened rows))) = ap (λ (result : FlattenResult). result.answer) e in
      let z : ◌≡◌ {A = ℕ} 0 1 = cc in
      omega arith
  ten-caused refusal false e none =
      let told : ◌≡◌ {A = Result ℕ NumberedRefusal} (Err refusal) (Err (record { number = 10; place = 0 })) = ap (λ (result : FlattenResult). result.answer) e in
      let same : refusal ≡ record { number = 10; place = 0 } = cc in
      omega (arith, none, ap (λ (r : NumberedRefusal). r.number) same)

  list-caused : (refusal : NumberedRefusal) → answer_and_list (Err refusal) left ≡ flatten_result header rows out → refusal.number ≡ 0 → ⊥
  unfolding flatten_result
  list-caused refusal e none = go (plain_refusal header rows) refl e
    where
      go : (verdict : Result (Unit {0}) NumberedRefusal) → plain_refusal header rows ≡ verdict → answer_and_list (Err refusal) left ≡ flatten_after verdict rows out → ⊥
      go (Err other) told e =
          let answers : ◌≡◌ {A = Result ℕ NumberedRefusal} (Err refusal) (Err other) = ap (λ (result : FlattenResult). result.answer) e in
          let same : refusal ≡ other = cc in
          let number : other.number ≡ 0 = ap (λ (r : NumberedRefusal). r.number) (sym same) ∙ none in
          ⊎_elim (λ (checked : refusal_of Kernel header rows ≡ Err other). check-caused Kernel header rows other checked number)
          (λ (functions : other.number ≡ 25). omega arith) (refused-plain header rows other told)
      go (Ok tt) told e = ten-caused refusal (leb (length (flattened rows)) (length out)) e none

  pub lists-if-done : (answer : Result ℕ NumberedRefusal) (given : Answer) → given ≡ flatten_answer answer → answer_and_list answer left ≡ flatten_result header rows out → WritesList header rows answer left → ListsIfDone header rows given left
  lists-if-done (Ok words) given told e writes none = rw (ap (λ (a : Answer). a.first) told) writes
  lists-if-done (Err refusal) given told e writes none = absurd (list-caused refusal e (sym (ap (λ (a : Answer). a.cause) told) ∙ none))
