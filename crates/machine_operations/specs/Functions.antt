-- Functions: what a run asks of the functions of a table and of its calls.
use Rattle.std.specs.Prelude.{◌≡◌, List, ℕ, ◌<◌, ◌≤◌, ℤ, length}
use Rattle.words.specs.Table.{row_count, number_at}
use Rattle.words.specs.Kinds.{kind_at}
use Rattle.words.specs.declared.Kind.TheVariants.{OfExpression, OfStatement, OfMember, Definition}
use Rattle.words.specs.declared.ExpressionKind.TheVariants.{Call}
use Rattle.words.specs.declared.StatementKind.TheVariants.{Block}
use Rattle.words.specs.declared.MemberKind.TheVariants.{Argument}
use Rattle.language.specs.Decode.{argument_list_at, parameter_list_at, statement_at, block_items}
use Rattle.language.specs.Functions.{function_of, function_count}
use Rattle.language.specs.Calls.{argument_count, arity_in, DefinitionsFirst, CallsInOrder}
use Rattle.language.specs.Program.{contents}
use Rattle.machine_operations.specs.Bounds.{function_row_in}

-- A link to an argument leads to one.
pub record ArgumentLinks (rows : List ℤ) : Type 0 where
  pub first_argument : (row : ℕ) → row < row_count rows → kind_at rows row ≡ OfExpression Call → 0 < number_at rows row 2 → kind_at rows (number_at rows row 2) ≡ OfMember Argument
  pub next_argument : (row : ℕ) → row < row_count rows → kind_at rows row ≡ OfMember Argument → 0 < number_at rows row 5 → kind_at rows (number_at rows row 5) ≡ OfMember Argument

-- "A definition out of order or not at the front gets 23, a call to no function, to its own or a higher one, or with the wrong number of arguments
-- 24"; a definition's c is a block; the parameters are at most 64, as they count with the declarations.
pub record SoundCalls (rows : List ℤ) : Type 0 where
  pub order : CallsInOrder (contents rows)
  pub in_front : DefinitionsFirst (contents rows)
  pub arguments : ArgumentLinks rows
  pub body-block : (row : ℕ) → row < row_count rows → kind_at rows row ≡ Definition → kind_at rows (number_at rows row 3) ≡ OfStatement Block
  pub defined : (row : ℕ) → row < row_count rows → kind_at rows row ≡ OfExpression Call → number_at rows row 1 < function_count (contents rows)
  pub fitting : (row : ℕ) → row < row_count rows → kind_at rows row ≡ OfExpression Call → argument_count (argument_list_at rows (number_at rows row 2)) ≡ arity_in (contents rows) (number_at rows row 1)
  pub few_parameters : (f : ℕ) → arity_in (contents rows) f ≤ 64

-- r is the row that defines the function.
pub record FunctionAt (rows : List ℤ) (f r : ℕ) : Type 0 where
  pub below : r < row_count rows
  pub kind_is : kind_at rows r ≡ Definition
  pub function_is : function_of f (contents rows) ≡ record { parameters = parameter_list_at rows (number_at rows r 2); body = block_items (statement_at rows (number_at rows r 3)) }

-- The list has the row of each function of the table.
pub record FunctionRows (rows : List ℤ) (list : List ℕ) : Type 0 where
  pub room : function_count (contents rows) ≤ length list
  pub rows_are : (f : ℕ) → f < function_count (contents rows) → FunctionAt rows f (function_row_in list f)
