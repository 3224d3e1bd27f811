-- Laws of acceptance: what the checks answer of the legal programs and of no others.
use Rattle.std.specs.Prelude.{◌≡◌, refl, Bool, true, false, List, ℕ, ◌≤◌, ℤ, Err, None, Ok, Option, Result, Some}
use Rattle.words.specs.Refusals.{NumberedRefusal}
use Rattle.std.proofs.Common.{sym, ap, ◌∙◌, arith}
use Rattle.words.specs.Numbers.{verdict_numbers}
use Rattle.words.specs.declared.Form.{Form}
use Rattle.words.specs.declared.Form.TheVariants.{Source, Kernel}
use Rattle.check_structure.specs.Refusal.{at, unless, ◌next◌, row_causes, structural_refusal}
use Rattle.check_declaration_causes.specs.Causes.{declaration_refusal}
use Rattle.check_function_causes.specs.Causes.{function_refusal}
use Rattle.check_source.specs.Refusal.{later_refusal, refusal as source_refusal}
use Rattle.check_kernel.specs.Refusal.{form_causes, kernel_causes, refusal as kernel_refusal}
use Rattle.check_source.proofs.AcceptsLegal.{accepts-legal as source-accepts}
use Rattle.check_kernel.specs.Accepts.{accepts-legal as kernel-accepts}
use Rattle.program_runs.specs.Acceptance.{AcceptsLegal, NoCauseIfLegal}
use Rattle.program_runs.specs.Runs.{refusal_of}

-- Whatever the check refuses has a cause.
abbrev Caused : Result (Unit {0}) NumberedRefusal → Type 0
Caused (Ok tt) = Unit {0}
Caused (Err refusal) = 1 ≤ refusal.number

at-caused : (cause : ℕ) (found : Option ℕ) → 1 ≤ cause → Caused (at cause found)
unfolding at
at-caused cause (Some row) h = h
at-caused cause None h = tt

unless-caused : (test : Bool) (cause : ℕ) → 1 ≤ cause → Caused (unless test cause)
unfolding unless
unless-caused true cause h = tt
unless-caused false cause h = h

next-caused : (first rest : Result (Unit {0}) NumberedRefusal) → Caused first → Caused rest → Caused (first next rest)
unfolding ◌next◌
next-caused (Ok tt) rest f r = r
next-caused (Err refusal) rest f r = f

structural-caused : (form : Form) (header rows : List ℤ) → Caused (structural_refusal form header rows)
unfolding structural_refusal row_causes
structural-caused form header rows =
    next-caused _ _ (unless-caused _ 1 (omega arith)) (next-caused _ _ (unless-caused _ 2 (omega arith)) (next-caused _ _ (at-caused 3 _ (omega arith))
    (next-caused _ _ (at-caused 4 _ (omega arith)) (next-caused _ _ (at-caused 5 _ (omega arith)) (at-caused 6 _ (omega arith))))))

function-caused : (rows : List ℤ) → Caused (function_refusal rows)
unfolding function_refusal
function-caused rows = next-caused _ _ (at-caused 23 _ (omega arith)) (at-caused 24 _ (omega arith))

refusal-caused : (form : Form) (header rows : List ℤ) → Caused (refusal_of form header rows)
unfolding source_refusal later_refusal declaration_refusal kernel_refusal kernel_causes form_causes
refusal-caused Source header rows =
    next-caused _ _ (structural-caused Source header rows)
    (next-caused _ _ (at-caused 7 _ (omega arith)) (next-caused _ _ (at-caused 8 _ (omega arith)) (next-caused _ _ (at-caused 9 _ (omega arith))
    (next-caused _ _ (next-caused _ _ (at-caused 18 _ (omega arith)) (next-caused _ _ (at-caused 19 _ (omega arith)) (at-caused 20 _ (omega arith)))) (function-caused rows)))))
refusal-caused Kernel header rows =
    next-caused _ _ (structural-caused Kernel header rows)
    (next-caused _ _ (at-caused 7 _ (omega arith))
    (next-caused _ _ (next-caused _ _ (at-caused 9 _ (omega arith)) (next-caused _ _ (at-caused 12 _ (omega arith)) (at-caused 13 _ (omega arith))))
    (next-caused _ _ (at-caused 19 _ (omega arith)) (function-caused rows))))

no-cause-accepted : (verdict : Result (Unit {0}) NumberedRefusal) → Caused verdict → (verdict_numbers verdict).cause ≡ 0 → verdict ≡ (Ok tt)
no-cause-accepted (Ok tt) h e = refl
no-cause-accepted (Err refusal) h e = absurd (omega (arith, h, e))

pub check-accepts-legal : (form : Form) (header rows : List ℤ) (verdict : Result (Unit {0}) NumberedRefusal) → verdict ≡ refusal_of form header rows → AcceptsLegal form header rows verdict
check-accepts-legal Source header rows verdict told = record {
  legal_accepted = λ legal. told ∙ (source-accepts header rows).1 legal;
  no_others = λ accepted. (source-accepts header rows).0 (sym told ∙ accepted);
}
check-accepts-legal Kernel header rows verdict told = record {
  legal_accepted = λ legal. told ∙ (kernel-accepts header rows).1 legal;
  no_others = λ accepted. (kernel-accepts header rows).0 (sym told ∙ accepted);
}

-- The cause of the check's answer.
pub check-no-cause-if-legal : (form : Form) (header rows : List ℤ) → NoCauseIfLegal form header rows (verdict_numbers (refusal_of form header rows)).cause
check-no-cause-if-legal form header rows = record {
  legal_no_cause = λ legal. ap (λ (v : Result (Unit {0}) NumberedRefusal). (verdict_numbers v).cause) (accepts.legal_accepted legal);
  no_cause_legal = λ none. accepts.no_others (no-cause-accepted (refusal_of form header rows) (refusal-caused form header rows) none);
}
  where
    accepts : AcceptsLegal form header rows (refusal_of form header rows)
    accepts = check-accepts-legal form header rows (refusal_of form header rows) refl
