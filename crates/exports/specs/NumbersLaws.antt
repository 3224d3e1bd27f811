-- NumbersLaws: a translation whose answer has no cause was made, so that a kernel form stands in both tables.
use Rattle.std.specs.Prelude.{◌≡◌, Bool, true, false, ◌&&◌, List, ℕ, ℤ, length, Err, Ok, Result}
use Rattle.std.proofs.Math.Path.{refl, ap}
use Rattle.std.proofs.Common.{sym, ◌∙◌, arith}
use Rattle.std.proofs.Math.Dec.{leb}
use Rattle.words.specs.Word.{pick}
use Rattle.words.specs.Over.{over}
use Rattle.words.specs.Numbers.{verdict_numbers}
use Rattle.words.specs.declared.Form.{Form}
use Rattle.words.specs.declared.Form.TheVariants.{Source}
use Rattle.words.specs.Refusals.{NumberedRefusal}
use Rattle.translation_fate.specs.KernelForms.{kernel_header_of, kernel_rows_of}
use Rattle.translator.specs.Translation.{TranslateResult, answer_and_tables, translate_after, translate_result, WritesKernelForm}
use Rattle.program_runs.proofs.AcceptanceLaws.{check-accepts-legal, check-no-cause-if-legal}
use Rattle.program_runs.specs.Runs.{refusal_of}
use Rattle.exports.specs.declared.Answer.{Answer}
use Rattle.exports.specs.Numbers.{translate_answer, WritesIfDone}

-- the check's refusals have a cause
pub check-caused : (form : Form) (header rows : List ℤ) (refusal : NumberedRefusal) → refusal_of form header rows ≡ Err refusal → refusal.number ≡ 0 → ⊥
check-caused form header rows refusal told none =
    let legal = (check-no-cause-if-legal form header rows).no_cause_legal (ap (λ (v : Result (Unit {0}) NumberedRefusal). (verdict_numbers v).cause) told ∙ none) in
    let both : Err refusal ≡ (Ok tt) = sym told ∙ (check-accepts-legal form header rows (refusal_of form header rows) refl).legal_accepted legal in
    let z : ◌≡◌ {A = ℕ} 0 1 = cc in
    omega arith

module _ (header rows outHeader outRows headerLeft rows_left : List ℤ) where
  abbrev kernel_header : List ℤ
  kernel_header = kernel_header_of header rows

  abbrev kernel_rows : List ℤ
  kernel_rows = kernel_rows_of header rows

  -- so has number 10
  ten-caused : (refusal : NumberedRefusal) (room : Bool)
      → answer_and_tables (Err refusal) headerLeft rows_left
      ≡ pick room (answer_and_tables (Ok ((length kernel_header), (length kernel_rows))) (over kernel_header outHeader) (over kernel_rows outRows)) (answer_and_tables (Err (record { number = 10; place = 0 })) outHeader outRows)
      → refusal.number ≡ 0 → ⊥
  ten-caused refusal true e none =
      let told : ◌≡◌ {A = Result (ℕ × ℕ) NumberedRefusal} (Err refusal) (Ok (length kernel_header, length kernel_rows)) = ap (λ (result : TranslateResult). result.answer) e in
      let z : ◌≡◌ {A = ℕ} 0 1 = cc in
      omega arith
  ten-caused refusal false e none =
      let told : ◌≡◌ {A = Result (ℕ × ℕ) NumberedRefusal} (Err refusal) (Err (record { number = 10; place = 0 })) = ap (λ (result : TranslateResult). result.answer) e in
      let same : refusal ≡ record { number = 10; place = 0 } = cc in
      omega (arith, none, ap (λ (r : NumberedRefusal). r.number) same)

  translation-caused : (refusal : NumberedRefusal) → answer_and_tables (Err refusal) headerLeft rows_left ≡ translate_result header rows outHeader outRows → refusal.number ≡ 0 → ⊥
  unfolding translate_result
  translation-caused refusal e none = go (refusal_of Source header rows) refl e
    where
      go : (verdict : Result (Unit {0}) NumberedRefusal) → refusal_of Source header rows ≡ verdict → answer_and_tables (Err refusal) headerLeft rows_left ≡ translate_after verdict header rows outHeader outRows → ⊥
      go (Err other) told e =
          let answers : ◌≡◌ {A = Result (ℕ × ℕ) NumberedRefusal} (Err refusal) (Err other) = ap (λ (result : TranslateResult). result.answer) e in
          let same : refusal ≡ other = cc in
          check-caused Source header rows other told (ap (λ (r : NumberedRefusal). r.number) (sym same) ∙ none)
      go (Ok tt) told e = ten-caused refusal (leb (length kernel_header) (length outHeader) && leb (length kernel_rows) (length outRows)) e none

  pub writes-if-done : (answer : Result (ℕ × ℕ) NumberedRefusal) (given : Answer) → given ≡ translate_answer answer
      → answer_and_tables answer headerLeft rows_left ≡ translate_result header rows outHeader outRows → WritesKernelForm header rows answer headerLeft rows_left
      → WritesIfDone header rows given headerLeft rows_left
  writes-if-done (Ok (headerWords, row_words)) given told e writes none = rw (ap (λ (a : Answer). a.first) told, ap (λ (a : Answer). a.second) told) writes
  writes-if-done (Err refusal) given told e writes none = absurd (translation-caused refusal e (sym (ap (λ (a : Answer). a.cause) told) ∙ none))
