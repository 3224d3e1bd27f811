-- Definitions: the definitions at the front of a program's list, and the parameters of a definition.
use Rattle.std.specs.Prelude.{◌≡◌, Bool, true, false, List, ℕ, zero, suc, ◌<◌, ℤ}
use Rattle.words.specs.Table.{row_count, number_at}
use Rattle.words.specs.Declarations.{is_declaration}
use Rattle.words.specs.Kinds.{kind_at}
use Rattle.words.specs.declared.Kind.{Kind}
use Rattle.words.specs.declared.Kind.TheVariants.{OfExpression, OfStatement, OfMark, OfMember, Definition, Other}
use Rattle.language.specs.Decode.{block_items, statement_at, parameter_list_at}
use Rattle.language.specs.Functions.{Function, function_of, function_count}
use Rattle.language.specs.Program.{contents}

abbrev pub is_definition : Kind → Bool
is_definition (OfExpression kind) = false
is_definition (OfStatement kind) = false
is_definition (OfMark kind) = false
is_definition (OfMember kind) = false
is_definition Definition = true
is_definition Other = false

-- A link leads to a definition; to a parameter, which is a row of kind 58. 0 is absent.
abbrev pub defines : List ℤ → ℕ → Bool
defines rows zero = false
defines rows (suc link) = is_definition (kind_at rows (suc link))

abbrev pub is_parameter : List ℤ → ℕ → Bool
is_parameter rows zero = false
is_parameter rows (suc link) = is_declaration rows (suc link)

-- The parameters and the block of the definition at a row.
abbrev pub defined_at : List ℤ → ℕ → Function
defined_at rows row = record { parameters = parameter_list_at rows (number_at rows row 2); body = block_items (statement_at rows (number_at rows row 3)) }

-- The row defines the function f.
pub record FunctionHere (rows : List ℤ) (f row : ℕ) : Type 0 where
  pub inside : row < row_count rows
  pub definition : kind_at rows row ≡ Definition
  pub counted : f < function_count (contents rows)
  pub is : function_of f (contents rows) ≡ defined_at rows row
