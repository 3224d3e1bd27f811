-- Tables with functions: what legality says of definitions, parameters, calls and arguments, as far as the tree of a program rests on it.
-- Both checks give it.
use Rattle.std.specs.Prelude.{◌≡◌, true, List, ℕ, ◌<◌, ◌≤◌, ℤ}
use Rattle.words.specs.Table.{row_count, number_at}
use Rattle.words.specs.Kinds.{kind_at, is_expression_kind}
use Rattle.words.specs.Links.{link}
use Rattle.words.specs.Declarations.{is_declaration}
use Rattle.words.specs.declared.Kind.TheVariants.{OfExpression, OfStatement, OfMember, Definition}
use Rattle.words.specs.declared.ExpressionKind.TheVariants.{Call}
use Rattle.words.specs.declared.StatementKind.TheVariants.{Block}
use Rattle.words.specs.declared.MemberKind.TheVariants.{Argument}
use Rattle.check_structure.specs.Structured.{Tree}
use Rattle.check_function_causes.specs.Functions.{is_definition}
use Rattle.check_function_causes.specs.Demands.{Listed, WellCalled}
use Rattle.check_parameter_causes.specs.Demands.{Parameter}

-- "Kind 59 defines a function: .. b first parameter or 0 (kind 58, else 4 ..), c a block." "Kind 31 .. b first argument or 0; kind 32 is an
-- argument with a an expression and next (elsewhere, or another kind among arguments, 4)." "Expressions have next 0."
pub record FunctionLinks (rows : List ℤ) : Type 0 where
  pub body_there : (row : ℕ) → row < row_count rows → kind_at rows row ≡ Definition → 0 < number_at rows row 3
  pub body-block : (row : ℕ) → row < row_count rows → kind_at rows row ≡ Definition → kind_at rows (number_at rows row 3) ≡ OfStatement Block
  pub parameter : (definition row : ℕ) → Parameter rows definition row → is_declaration rows row ≡ true
  pub first_argument : (row : ℕ) → row < row_count rows → kind_at rows row ≡ OfExpression Call → 0 < number_at rows row 2 → kind_at rows (number_at rows row 2) ≡ OfMember Argument
  pub next_argument : (row : ℕ) → row < row_count rows → kind_at rows row ≡ OfMember Argument → 0 < number_at rows row 5 → kind_at rows (number_at rows row 5) ≡ OfMember Argument
  pub value_there : (row : ℕ) → row < row_count rows → kind_at rows row ≡ OfMember Argument → 0 < number_at rows row 1
  pub lone : (row : ℕ) → row < row_count rows → is_expression_kind (kind_at rows row) ≡ true → number_at rows row 5 ≡ 0

-- A tree of rows under a block, whose functions and calls are as the request demands.
pub record FunctionTable (rows : List ℤ) : Type 0 where
  pub tree : Tree rows
  pub block : number_at rows 0 0 ≡ 42
  pub links : FunctionLinks rows
  pub well_called : WellCalled rows

-- No function has more parameters than the store has room for declarations.
abbrev pub FewParameters : List ℤ → Type 0
FewParameters rows = (definition count : ℕ) → definition < row_count rows → is_definition rows definition ≡ true → Listed rows (link rows definition 2) count → count ≤ 64
