-- A rule on the shelf: a program as rows, with a start, a budget, and what its run comes to. Its rows are put together by `row`, `constant` and `case`.
use Rattle.std.specs.Prelude.{List, [], ◌∷◌, ℕ, ℤ, pos}
use Rattle.language.specs.Program.{Finished}

pub record Rule : Type 0 where
  pub header : List ℤ
  pub rows : List ℤ
  pub store : List ℤ
  pub budget : ℕ
  pub comes_to : Finished

-- A row of numbers; the row of a constant; the row of a case and the item behind it.
abbrev pub row : ℕ → ℕ → ℕ → ℕ → ℕ → ℕ → List ℤ
row kind a b c d next = pos kind ∷ pos a ∷ pos b ∷ pos c ∷ pos d ∷ pos next ∷ []

abbrev pub constant : ℤ → List ℤ
constant v = pos 1 ∷ v ∷ pos 0 ∷ pos 0 ∷ pos 0 ∷ pos 0 ∷ []

abbrev pub case : ℤ → ℕ → List ℤ
case v next = pos 48 ∷ v ∷ pos 0 ∷ pos 0 ∷ pos 0 ∷ pos next ∷ []
