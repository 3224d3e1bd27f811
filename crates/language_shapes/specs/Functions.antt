-- Functions: what the translator asks of the functions of a table and of its calls, which the check gives.
use Rattle.std.specs.Prelude.{◌≡◌, Bool, true, false, List, ℕ, ◌<◌, ◌≤◌, ℤ}
use Rattle.words.specs.Table.{row_count, number_at}
use Rattle.words.specs.Kinds.{kind_at}
use Rattle.words.specs.declared.Kind.TheVariants.{OfExpression, OfStatement, Definition}
use Rattle.words.specs.declared.ExpressionKind.TheVariants.{Call}
use Rattle.words.specs.declared.StatementKind.TheVariants.{Block}
use Rattle.language.specs.Trees.{Expression, constant, read, minus, not, binary, and, or, comma, conditional, assign, compound, prefix, postfix, call}
use Rattle.language.specs.Decode.{argument_list_at}
use Rattle.language.specs.Functions.{function_count}
use Rattle.language.specs.Calls.{argument_count, DefinitionsFirst, CallsInOrder}
use Rattle.language.specs.Program.{contents}

-- Whether an expression is a call.
abbrev pub is_call : Expression → Bool
is_call (constant v) = false
is_call (read p) = false
is_call (minus e) = false
is_call (not e) = false
is_call (binary operator a b) = false
is_call (and a b) = false
is_call (or a b) = false
is_call (comma a b) = false
is_call (conditional c a b) = false
is_call (assign p e) = false
is_call (compound operator p e) = false
is_call (prefix operator p) = false
is_call (postfix operator p) = false
is_call (call f arguments) = true

-- "A call to no function, to its own or a higher one, or with the wrong number of arguments 24": so each call goes to a function of the program,
-- whose number is below the call's row, since its definition stands at a later row than its number and before the call; and it has as many
-- arguments as the function has parameters, which are at most 64, as they count with the declarations. "A definition out of order or not at the
-- front gets 23"; its c is a block, as row 0 is.
pub record SoundFunctions (rows : List ℤ) : Type 0 where
  pub root : kind_at rows 0 ≡ OfStatement Block
  pub order : CallsInOrder (contents rows)
  pub in_front : DefinitionsFirst (contents rows)
  pub body-block : (row : ℕ) → row < row_count rows → kind_at rows row ≡ Definition → kind_at rows (number_at rows row 3) ≡ OfStatement Block
  pub defined : (row : ℕ) → row < row_count rows → kind_at rows row ≡ OfExpression Call → number_at rows row 1 < function_count (contents rows)
  pub behind : (row : ℕ) → row < row_count rows → kind_at rows row ≡ OfExpression Call → number_at rows row 1 < row
  pub few_arguments : (row : ℕ) → row < row_count rows → kind_at rows row ≡ OfExpression Call → argument_count (argument_list_at rows (number_at rows row 2)) ≤ 64
