-- Declarations: Change 11, names inside a block. The rows of kind 58, and how many there are.
use Rattle.std.specs.Prelude.{Bool, List, ℕ, zero, suc, ◌+◌, eqb, ℤ}
use Rattle.words.specs.Word.{one}
use Rattle.words.specs.Table.{row_count, number_at}

-- "Kind 58: a variable number below V, b initial expression." The number stands here alone.
abbrev pub declaration_kind : ℕ
declaration_kind = 58

unfoldable pub is_declaration : List ℤ → ℕ → Bool
is_declaration rows row = eqb (number_at rows row 0) declaration_kind

-- How many of the first `row` rows are declarations.
unfoldable pub declarations_before : List ℤ → ℕ → ℕ
declarations_before rows zero = 0
declarations_before rows (suc row) = declarations_before rows row + one (is_declaration rows row)

-- "There are D of them".
unfoldable pub declaration_count : List ℤ → ℕ
declaration_count rows = declarations_before rows (row_count rows)

-- "At most 64."
abbrev pub declaration_limit : ℕ
declaration_limit = 64
