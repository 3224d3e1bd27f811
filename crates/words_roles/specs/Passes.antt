-- Passes: what the pass that marks the parameters computes: each row marks the row that it makes a parameter, before that row's turn comes.
use Rattle.std.specs.Prelude.{◌≡◌, Bool, ◌&&◌, List, ℕ, ◌<◌, ◌≤◌, min, ltb, eqb, ℤ, length, get_or, set}
use Rattle.words.specs.Word.{pick, one}
use Rattle.words.specs.Table.{row_count, number_at}
use Rattle.words.specs.Search.{some}
use Rattle.words.specs.Declarations.{is_declaration}
use Rattle.words_roles.specs.Roles.{is_definition, links_parameter, is_parameter}

-- The row that a row makes a parameter, if it is a later one of kind 58; `parameter` says whether the row is one itself.
unfoldable pub parameter_link : Bool → List ℤ → ℕ → ℕ
parameter_link parameter rows row = pick (is_definition rows row) (number_at rows row 2) (pick parameter (number_at rows row 5) 0)

-- That row is marked by 1.
unfoldable pub marked_link : List ℤ → ℕ → ℕ → List ℕ → List ℕ
marked_link rows row linked marks =
    pick (ltb row linked && (ltb linked (row_count rows) && is_declaration rows linked)) (set marks linked 1) marks

-- A row that one of the first `turns` rows makes a parameter.
unfoldable pub made_by : List ℤ → ℕ → ℕ → Bool
made_by rows turns row =
    is_declaration rows row && some (λ owner. links_parameter (is_parameter rows owner) rows owner row) 0 (min turns row)

-- The marks after so many turns.
pub record Marking (rows : List ℤ) (turns : ℕ) (marks : List ℕ) : Type 0 where
  pub room : row_count rows ≤ length marks
  pub is : (row : ℕ) → row < row_count rows → get_or marks row 0 ≡ one (made_by rows turns row)

-- The parameters are marked, and no other row.
pub record Parameters (rows : List ℤ) (marks : List ℕ) : Type 0 where
  pub room : row_count rows ≤ length marks
  pub is : (row : ℕ) → row < row_count rows → get_or marks row 0 ≡ one (is_parameter rows row)

-- The marks at the start: there is room for every row, and none is set.
pub record Blank (rows : List ℤ) (marks : List ℕ) : Type 0 where
  pub room : row_count rows ≤ length marks
  pub none : (row : ℕ) → row < row_count rows → get_or marks row 0 ≡ 0
