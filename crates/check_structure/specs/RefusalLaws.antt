-- Laws of refusals: a chain of causes, one at a time; and where a whole chain accepts.
use Rattle.std.specs.Prelude.{◌≡◌, refl, Bool, true, false, ℕ, Err, None, Ok, Option, Result, Some}
use Rattle.words.specs.Refusals.{NumberedRefusal}
use Rattle.std.proofs.Common.{arith, ap, ◌∙◌}
use Rattle.std.specs.Result.{IsErrAnd}
use Rattle.std.proofs.lemmas.Result.{err_from_is_err_and}
use Rattle.check_structure.specs.Refusal.{at, unless, ◌next◌}

-- ---- as the code goes: what a search found decides the verdict, or hands on to the causes that follow

-- a found row ends the chain
pub ends : (cause row : ℕ) (found by : Option ℕ) (rest : Result (Unit {0}) NumberedRefusal) → found ≡ Some row → found ≡ by → Err (record { number = cause; place = row }) ≡ (at cause by next rest)
unfolding at ◌next◌
ends cause row found by rest e f = rw (← f, e)

-- nothing found: the rest decides
pub goes_on : (cause : ℕ) (found by : Option ℕ) (rest : Result (Unit {0}) NumberedRefusal) → found ≡ None → found ≡ by → (at cause by next rest) ≡ rest
unfolding at ◌next◌
goes_on cause found by rest e f = rw (← f, e)

-- the last cause has no rest
pub last : (cause : ℕ) (found by : Option ℕ) (verdict : Result (Unit {0}) NumberedRefusal) → verdict ≡ at cause found → found ≡ by → verdict ≡ at cause by
last cause found by verdict e f = rw (← f) e

-- ---- as `?` goes: it hands a refusal on, and else the causes that follow decide

module _ (result by rest : Result (Unit {0}) NumberedRefusal) where
  pub refused : (refusal : NumberedRefusal) → IsErrAnd result (λ r. r ≡ refusal) → ◌≡◌ {A = Result (Unit {0}) NumberedRefusal} (Err refusal) by → result ≡ (by next rest)
  unfolding ◌next◌
  refused refusal h e = let p = err_from_is_err_and result h in rw (p.1, p.2, ← e)

  pub passed : ◌≡◌ {A = Result (Unit {0}) NumberedRefusal} (Ok tt) by → result ≡ rest → result ≡ (by next rest)
  unfolding ◌next◌
  passed e f = rw (← e) f

-- the same, for the row that a search found
module _ (result rest : Result (Unit {0}) NumberedRefusal) (cause : ℕ) (found by : Option ℕ) where
  pub refused-at : (refusal : NumberedRefusal) → IsErrAnd result (λ r. r ≡ refusal) → ◌≡◌ {A = Result (Unit {0}) NumberedRefusal} (Err refusal) (at cause found) → found ≡ by → result ≡ (at cause by next rest)
  refused-at refusal h e f = refused result (at cause by) rest refusal h (e ∙ ap (at cause) f)

  pub passed-at : ◌≡◌ {A = Result (Unit {0}) NumberedRefusal} (Ok tt) (at cause found) → found ≡ by → result ≡ rest → result ≡ (at cause by next rest)
  passed-at e f g = passed result (at cause by) rest (e ∙ ap (at cause) f) g

-- ---- a chain accepts where each of its causes does

pub next-accepts : (verdict rest : Result (Unit {0}) NumberedRefusal) → (verdict next rest) ≡ (Ok tt) → (verdict ≡ (Ok tt)) × (rest ≡ (Ok tt))
unfolding ◌next◌
next-accepts (Ok tt) rest e = (refl, e)
next-accepts (Err refusal) rest e = absurd (let z : ◌≡◌ {A = ℕ} 0 1 = cc in omega arith)

pub accepts-next : (verdict rest : Result (Unit {0}) NumberedRefusal) → verdict ≡ (Ok tt) → rest ≡ (Ok tt) → (verdict next rest) ≡ (Ok tt)
unfolding ◌next◌
accepts-next verdict rest e f = rw (e, f)

pub at-accepts : (cause : ℕ) (found : Option ℕ) → at cause found ≡ (Ok tt) → found ≡ None
unfolding at
at-accepts cause (Some row) e = absurd (let z : ◌≡◌ {A = ℕ} 0 1 = cc in omega arith)
at-accepts cause None e = refl

pub accepts-at : (cause : ℕ) (found : Option ℕ) → found ≡ None → at cause found ≡ (Ok tt)
unfolding at
accepts-at cause found e = rw e

pub unless-accepts : (test : Bool) (cause : ℕ) → unless test cause ≡ (Ok tt) → test ≡ true
unfolding unless
unless-accepts true cause e = refl
unless-accepts false cause e = absurd (let z : ◌≡◌ {A = ℕ} 0 1 = cc in omega arith)

pub accepts-unless : (test : Bool) (cause : ℕ) → test ≡ true → unless test cause ≡ (Ok tt)
unfolding unless
accepts-unless test cause e = rw e
