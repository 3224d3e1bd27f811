-- Asks: what the writers of expressions ask of their caller.
use Rattle.std.specs.Prelude.{◌≡◌, true, false, List, ℕ, ◌+◌, ◌≤◌, ◌<◌, ℤ, None, Option, Some}
use Rattle.writers_rows.specs.declared.KernelAtom.{KernelAtom}
use Rattle.words.specs.Table.{row_count}
use Rattle.language.specs.Calls.{argument_count}
use Rattle.language.specs.Decode.{expression_at, argument_list_at, part_at}
use Rattle.translation.specs.declared.Use.{Use}
use Rattle.translation.specs.declared.Use.TheVariants.{Wanted as wanted}
use Rattle.translation.specs.Translate.{Atom as Held, number, word, top, expression_levels, operand_levels}
use Rattle.translation.specs.TranslateSize.{expression_size, operand_size}
use Rattle.language_shapes.specs.Functions.{is_call}
use Rattle.measures_table.specs.Parts.{called_in, UseFits}
use Rattle.writers_rows.specs.Room.{Room}
use Rattle.writers_rows.specs.Atoms.{AtomFits}
use Rattle.writers_rows.specs.Straight.{last_size}
use Rattle.writers_rows.specs.declared.KernelAtom.TheVariants.{Constant}
use Rattle.writers_calls.specs.Arguments.{size_by, levels_by}
use Rattle.writers_expressions.specs.Code.{last_code, chosen_code}
use Rattle.writers_expressions.specs.declared.End.{End}
use Rattle.writers_expressions.specs.declared.End.TheVariants.{Truth, Copy, Stays}
use Rattle.writers_expressions.specs.declared.Branch.{Branch}

-- An expression at a link, at a level, for a use of its value.
pub record OperandAsks (rows : List ℤ) (row : ℕ) (u : Use) (level base words : ℕ) : Type 0 where
  pub inside : row < row_count rows
  pub level_low : level + operand_levels (called_in rows) (part_at rows row) u ≤ 2048
  pub use_fits : UseFits u
  pub room : Room (operand_size (called_in rows) (part_at rows row) u) base words

-- A call, as an expression.
pub record CalledAsks (rows : List ℤ) (row : ℕ) (u : Use) (level base words : ℕ) : Type 0 where
  pub some : 0 < row
  pub inside : row < row_count rows
  pub is_call : is_call (expression_at rows row) ≡ true
  pub level_low : level + expression_levels (called_in rows) (expression_at rows row) u ≤ 2048
  pub use_fits : UseFits u
  pub room : Room (expression_size (called_in rows) (expression_at rows row) u) base words

-- The arguments from a link on.
pub record ArgumentsAsk (rows : List ℤ) (argument count copies level size base words : ℕ) : Type 0 where
  pub inside : argument < row_count rows
  pub count_is : count ≡ argument_count (argument_list_at rows argument)
  pub size_is : size ≡ size_by (called_in rows) (argument_list_at rows argument) copies
  pub level_low : level + levels_by (called_in rows) (argument_list_at rows argument) copies ≤ 2048
  pub room : Room size base words

-- What an expression that is no call does behind its first two operands.
pub record LastAsks (rows : List ℤ) (row : ℕ) (u : Use) (level base words : ℕ) : Type 0 where
  pub inside : row < row_count rows
  pub no_call : is_call (expression_at rows row) ≡ false
  pub level_low : level + expression_levels (called_in rows) (expression_at rows row) u ≤ 2048
  pub use_fits : UseFits u
  pub room : Room (last_size (called_in rows) (expression_at rows row) u) base words

-- The rows of a branch: its block, its expression, its end.
abbrev pub finish_size : End → ℕ
finish_size Truth = 6
finish_size Copy = 4
finish_size Stays = 0

abbrev pub branch_size : List ℤ → Branch → ℕ
branch_size rows branch = 1 + operand_size (called_in rows) (part_at rows branch.row) wanted + finish_size branch.end

-- How a branch of a conditional ends: a value that stands in the temporary stays.
abbrev pub end_of : Held → End
end_of (number v) = Copy
end_of (word i) = Copy
end_of top = Stays

pub record BranchInside (rows : List ℤ) (branch : Branch) : Type 0 where
  pub inside : branch.row < row_count rows
  pub atom_fits : AtomFits branch.atom

pub record BranchFits (rows : List ℤ) (branch : Branch) (level : ℕ) : Type 0 where
  pub inside : branch.row < row_count rows
  pub level_low : level + operand_levels (called_in rows) (part_at rows branch.row) wanted ≤ 2048
  pub atom_fits : AtomFits branch.atom

-- The choice of a row. A branch's row is absent or later, and its levels are among those of the whole.
abbrev pub ChoiceFits : List ℤ → ℕ → Option (KernelAtom × Branch × Branch) → Type 0
ChoiceFits rows row (Some (test, on_true, on_false)) =
    AtomFits test × BranchInside rows on_true × BranchInside rows on_false
    × (0 < on_true.row → row < on_true.row) × (0 < on_false.row → row < on_false.row)
    × ((u : Use) → last_size (called_in rows) (expression_at rows row) u ≡ 2 + branch_size rows on_true + branch_size rows on_false)
    × ((u : Use) → operand_levels (called_in rows) (part_at rows on_true.row) wanted ≤ expression_levels (called_in rows) (expression_at rows row) u)
    × ((u : Use) → operand_levels (called_in rows) (part_at rows on_false.row) wanted ≤ expression_levels (called_in rows) (expression_at rows row) u)
ChoiceFits rows row None = Unit {0}

pub record ChoiceAt (S : ℕ) (rows : List ℤ) (row level : ℕ) (choice : Option (KernelAtom × Branch × Branch)) : Type 0 where
  pub is : (u : Use) → last_code (called_in rows) S (expression_at rows row) u level ≡ chosen_code S rows choice (expression_at rows row) u level
  pub fits : ChoiceFits rows row choice

-- A branch that puts a number into the result's temporary.
abbrev pub number_branch : ℤ → Branch
number_branch v = record { row = 0; end = Copy; atom = Constant v }
