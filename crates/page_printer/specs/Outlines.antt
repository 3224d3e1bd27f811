-- Outlines: which lines an item has of its own, and where its blocks stand.
use Rattle.std.specs.Prelude.{Bool, false, List, [], ◌∷◌, ◌++◌, ℕ, zero, suc, ◌+◌, ◌<◌, ℤ, None, Option, Some}
use Rattle.words.specs.Table.{number_at}
use Rattle.words.specs.Declarations.{is_declaration}
use Rattle.language.specs.Decode.{expression_at, argument_list_at, parameter_list_at, statement_at}
use Rattle.language_shapes.specs.Shapes.{shape_at}
use Rattle.language_shapes.specs.declared.Shape.{Shape}
use Rattle.language_shapes.specs.declared.Shape.TheVariants.{OfExpression, OfStatement, OfMark, OfArm, OfArgument, OfDefinition, Other}
use Rattle.language_shapes.specs.declared.ExpressionShape.{ExpressionShape}
use Rattle.language_shapes.specs.declared.ExpressionShape.TheVariants as expression
use Rattle.language_shapes.specs.declared.OperationShape.{OperationShape}
use Rattle.language_shapes.specs.declared.OperationShape.TheVariants as operation
use Rattle.language_shapes.specs.declared.StatementShape.{StatementShape}
use Rattle.language_shapes.specs.declared.StatementShape.TheVariants as statement
use Rattle.page.specs.Lines.{Indented, indented, closes, argument_lines, definition_lines, branch_lines}
use Rattle.page_line.specs.Reads.{expression_shape_at, argument_at}
use Rattle.page_line.specs.Contents.{line_tree, LineInside}
use Rattle.page_line.specs.declared.LineAt.{LineAt}
use Rattle.page_line.specs.declared.LineAt.TheVariants.{Empty, Express, Goto, Abort, Mark, Opens, While, If, Turns, Return, OpensCall}
use Rattle.page_printer.specs.declared.Outline.{Outline}
use Rattle.page_printer.specs.declared.Outline.TheVariants.{Single, Enclosed, Split, Called, Defined, Nothing}

-- ---- the outline of an expression statement

-- A call with arguments has lines of its own; every other expression statement is one line.
abbrev pub called_outline : List ℤ → (e place f link : ℕ) → Option ℕ → Outline
called_outline rows e place f link (Some first) = Called (OpensCall place f) first (number_at rows link 5)
called_outline rows e place f link None = Single (Express e)

abbrev pub value_outline : List ℤ → (e place : ℕ) → ExpressionShape → Outline
value_outline rows e place (expression.Call f arguments) = called_outline rows e place f arguments (argument_at rows arguments)
value_outline rows e place (expression.Number v) = Single (Express e)
value_outline rows e place (expression.Read p) = Single (Express e)
value_outline rows e place (expression.Operation o) = Single (Express e)
value_outline rows e place (expression.Choice c) = Single (Express e)

abbrev pub operation_outline : List ℤ → ℕ → OperationShape → Outline
operation_outline rows e (operation.Assign place value) = value_outline rows e place (expression_shape_at rows value)
operation_outline rows e (operation.Minus a) = Single (Express e)
operation_outline rows e (operation.Not a) = Single (Express e)
operation_outline rows e (operation.Binary o a b) = Single (Express e)
operation_outline rows e (operation.Comma a b) = Single (Express e)
operation_outline rows e (operation.Compound o p a) = Single (Express e)
operation_outline rows e (operation.Prefix o p) = Single (Express e)
operation_outline rows e (operation.Postfix o p) = Single (Express e)

abbrev pub expression_outline : List ℤ → ℕ → ExpressionShape → Outline
expression_outline rows e (expression.Operation o) = operation_outline rows e o
expression_outline rows e (expression.Number v) = Single (Express e)
expression_outline rows e (expression.Read p) = Single (Express e)
expression_outline rows e (expression.Choice c) = Single (Express e)
expression_outline rows e (expression.Call f arguments) = Single (Express e)

unfoldable pub express_outline : List ℤ → ℕ → Outline
express_outline rows e = expression_outline rows e (expression_shape_at rows e)

-- The expression of an expression statement is a row of the table, of which there are `count`.
abbrev pub ExpressInside : ℕ → StatementShape → Type 0
ExpressInside count (statement.Express e) = e < count
ExpressInside count statement.Empty = Unit {0}
ExpressInside count (statement.Block list) = Unit {0}
ExpressInside count (statement.If test first second) = Unit {0}
ExpressInside count (statement.While test body) = Unit {0}
ExpressInside count (statement.Do body test) = Unit {0}
ExpressInside count (statement.For first test action body) = Unit {0}
ExpressInside count (statement.Switch e list) = Unit {0}
ExpressInside count statement.Break = Unit {0}
ExpressInside count statement.Continue = Unit {0}
ExpressInside count (statement.Goto l) = Unit {0}
ExpressInside count (statement.GuardedIf arms) = Unit {0}
ExpressInside count (statement.GuardedDo arms) = Unit {0}
ExpressInside count statement.Abort = Unit {0}
ExpressInside count (statement.Declare word e) = Unit {0}
ExpressInside count (statement.Return value) = Unit {0}

-- ---- the outline of a row

-- An if without its second block is none of the kernel's.
abbrev pub if_outline : ℕ → ℕ → ℕ → Outline
if_outline test first zero = Nothing
if_outline test first (suc second) = Split (If test) first (suc second)

module _ (rows : List ℤ) where
  abbrev pub statement_outline : ℕ → StatementShape → Outline
  statement_outline row statement.Empty = Single Empty
  statement_outline row (statement.Express e) = express_outline rows e
  statement_outline row (statement.Block list) = Enclosed Opens row
  statement_outline row (statement.If test first second) = if_outline test first second
  statement_outline row (statement.While test body) = Enclosed (While test) body
  statement_outline row (statement.Do body test) = Nothing
  statement_outline row (statement.For first test action body) = Nothing
  statement_outline row (statement.Switch e list) = Nothing
  statement_outline row statement.Break = Nothing
  statement_outline row statement.Continue = Nothing
  statement_outline row (statement.Goto l) = Single (Goto l)
  statement_outline row (statement.GuardedIf arms) = Nothing
  statement_outline row (statement.GuardedDo arms) = Nothing
  statement_outline row statement.Abort = Single Abort
  statement_outline row (statement.Declare word e) = Nothing
  statement_outline row (statement.Return value) = Single (Return value)

  abbrev pub outline_of : ℕ → Shape → Outline
  outline_of row (OfExpression e) = Single Empty
  outline_of row (OfStatement s) = statement_outline row s
  outline_of row (OfMark m) = Single (Mark m)
  outline_of row (OfArm guard body) = Single Empty
  outline_of row (OfArgument e) = Single Empty
  outline_of row (OfDefinition f words body) = Defined f words body
  outline_of row Other = Single Empty

unfoldable pub outline_at : List ℤ → ℕ → Outline
outline_at rows row = outline_of rows row (shape_at rows row)

-- ---- the list of a block

abbrev pub list_of : StatementShape → ℕ
list_of statement.Empty = 0
list_of (statement.Express e) = 0
list_of (statement.Block list) = list
list_of (statement.If test first second) = 0
list_of (statement.While test body) = 0
list_of (statement.Do body test) = 0
list_of (statement.For first test action body) = 0
list_of (statement.Switch e list) = 0
list_of statement.Break = 0
list_of statement.Continue = 0
list_of (statement.Goto l) = 0
list_of (statement.GuardedIf arms) = 0
list_of (statement.GuardedDo arms) = 0
list_of statement.Abort = 0
list_of (statement.Declare word e) = 0
list_of (statement.Return value) = 0

abbrev pub list_in : Shape → ℕ
list_in (OfExpression e) = 0
list_in (OfStatement s) = list_of s
list_in (OfMark m) = 0
list_in (OfArm guard body) = 0
list_in (OfArgument e) = 0
list_in (OfDefinition f words body) = 0
list_in Other = 0

unfoldable pub block_list : List ℤ → ℕ → ℕ
block_list rows row = list_in (shape_at rows row)

-- ---- the lines

module _ (rows : List ℤ) (level : ℕ) where
  -- A line, and the lines of a block a level deeper.
  abbrev pub enclosed : LineAt → ℕ → List Indented
  enclosed line block = indented level (line_tree rows line) ∷ branch_lines (level + 1) (statement_at rows block)

  abbrev pub outlined : Outline → List Indented
  outlined (Single line) = indented level (line_tree rows line) ∷ []
  outlined (Enclosed line block) = enclosed line block ++ (indented level closes ∷ [])
  outlined (Split line first second) = enclosed line first ++ (enclosed Turns second ++ (indented level closes ∷ []))
  outlined (Called line first link) = indented level (line_tree rows line) ∷ argument_lines level (expression_at rows first) (argument_list_at rows link)
  outlined (Defined f words body) = definition_lines level f (parameter_list_at rows words) ++ (branch_lines (level + 1) (statement_at rows body) ++ (indented level closes ∷ []))
  outlined Nothing = []

-- Its expression and its blocks are rows of the table, of which there are `count`.
abbrev pub OutlineInside : ℕ → Outline → Type 0
OutlineInside count (Single line) = LineInside count line
OutlineInside count (Enclosed line block) = LineInside count line × (block < count)
OutlineInside count (Split line first second) = LineInside count line × (first < count) × (second < count)
OutlineInside count (Called line first link) = LineInside count line × (first < count) × (link < count)
OutlineInside count (Defined f words body) = (words < count) × (body < count)
OutlineInside count Nothing = Unit {0}

-- A link that leads to a parameter.
unfoldable pub is_parameter : List ℤ → ℕ → Bool
is_parameter rows zero = false
is_parameter rows (suc link) = is_declaration rows (suc link)
