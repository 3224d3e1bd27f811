-- Acceptance: the second promise of check and kernel check, and the same in numbers.
use Rattle.std.specs.Prelude.{◌≡◌, List, ℕ, ℤ, Ok, Result}
use Rattle.words.specs.Refusals.{NumberedRefusal}
use Rattle.words.specs.declared.Form.{Form}
use Rattle.words.specs.declared.Form.TheVariants.{Source, Kernel}
use Rattle.check_source.specs.Legal.{Legal as SourceLegal}
use Rattle.check_kernel.specs.Legal.{Legal as KernelLegal}

-- The legal programs of a form.
abbrev pub LegalProgram : Form → List ℤ → List ℤ → Type 0
LegalProgram Source header rows = SourceLegal header rows
LegalProgram Kernel header rows = KernelLegal header rows

-- Demand 2: "The check accepts the legal programs of document 01 and no others."
pub record AcceptsLegal (form : Form) (header rows : List ℤ) (verdict : Result (Unit {0}) NumberedRefusal) : Type 0 where
  pub legal_accepted : LegalProgram form header rows → verdict ≡ (Ok tt)
  pub no_others : verdict ≡ (Ok tt) → LegalProgram form header rows

-- The same in numbers: cause 0, which is none, for the legal programs and for no others.
pub record NoCauseIfLegal (form : Form) (header rows : List ℤ) (cause : ℕ) : Type 0 where
  pub legal_no_cause : LegalProgram form header rows → cause ≡ 0
  pub no_cause_legal : cause ≡ 0 → LegalProgram form header rows
