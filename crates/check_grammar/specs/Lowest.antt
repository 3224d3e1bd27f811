-- Searches by a test: the lowest number that the test is true of, said of whatever it may answer.
use Rattle.std.specs.Prelude.{◌≡◌, ℕ, ◌<◌, Bool, true, false, Option, None, Some}

pub record IsLowest (Answers : ℕ → Bool → Type 0) (count : ℕ) (result : Option ℕ) : Type 0 where
  pub none : result ≡ None → (row : ℕ) → row < count → Answers row false
  pub below : (found : ℕ) → result ≡ Some found → found < count
  pub true_there : (found : ℕ) → result ≡ Some found → Answers found true
  pub false_before : (found : ℕ) → result ≡ Some found → (row : ℕ) → row < found → Answers row false
