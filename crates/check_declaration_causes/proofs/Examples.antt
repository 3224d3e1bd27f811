-- Examples: what the causes answer to small tables, by computing.
use Rattle.std.specs.Prelude.{◌≡◌, refl, List, [], ◌∷◌, ℕ, zero, suc, ℤ, pos, None, Option, Some}
use Rattle.words.specs.Word.{natural}
use Rattle.words.specs.Table.{word_at, number_at}
use Rattle.words.specs.Search.{lowest, lowest_row}
use Rattle.words.specs.Declarations.{is_declaration, declarations_before}
use Rattle.check_declaration_causes.specs.Causes.{one_too_many}

-- A row and the rows behind it.
abbrev row : ℕ → ℕ → ℕ → ℕ → ℕ → ℕ → List ℤ → List ℤ
row kind a b c d following rest = pos kind ∷ pos a ∷ pos b ∷ pos c ∷ pos d ∷ pos following ∷ rest

-- ---- 20

-- So many declarations, and the rows behind them.
abbrev declarations : ℕ → List ℤ → List ℤ
declarations zero rest = rest
declarations (suc more) rest = row 58 0 0 0 0 0 (declarations more rest)

abbrev too_many : List ℤ → Option ℕ
too_many rows = lowest_row rows (one_too_many rows)

-- in row order, whatever stands between
pub count-answers : too_many (declarations 64 []) ∷ too_many (declarations 66 []) ∷ too_many (declarations 30 (row 40 0 0 0 0 0 (declarations 35 []))) ∷ []
    ≡ None ∷ Some 64 ∷ Some 65 ∷ []
unfolding lowest_row lowest one_too_many declarations_before is_declaration number_at natural word_at
count-answers = refl
