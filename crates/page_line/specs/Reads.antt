-- Reads: tables whose rows can be read, and what stands at a row.
use Rattle.std.specs.Prelude.{◌≡◌, List, ℕ, zero, suc, ◌<◌, ℤ, None, Option, Some}
use Rattle.words.specs.Table.{row_count, number_at}
use Rattle.words.specs.Layout.{Layout}
use Rattle.language.specs.Decode.{expression_at, place_of, argument_list_at}
use Rattle.language.specs.Sound.{Sound}
use Rattle.language_shapes.specs.Shapes.{shape_at, expression_in, argument_in, place_tree, expression_tree, argument_tree}
use Rattle.language_shapes.specs.declared.PlaceShape.{PlaceShape}
use Rattle.language_shapes.specs.declared.PlaceShape.TheVariants.{Variable, Element}
use Rattle.language_shapes.specs.declared.OperationShape.{OperationShape}
use Rattle.language_shapes.specs.declared.OperationShape.TheVariants.{Minus, Not, Binary, Comma, Assign, Compound, Prefix, Postfix}
use Rattle.language_shapes.specs.declared.ExpressionShape.{ExpressionShape}
use Rattle.language_shapes.specs.declared.ExpressionShape.TheVariants.{Number, Read, Operation, Choice, Call}

-- What stands at a row as an expression.
unfoldable pub expression_shape_at : List ℤ → ℕ → ExpressionShape
expression_shape_at rows row = expression_in (shape_at rows row)

-- The argument that a link leads to; 0 leads to none.
unfoldable pub argument_at : List ℤ → ℕ → Option ℕ
argument_at rows zero = None
argument_at rows (suc link) = argument_in (shape_at rows (suc link))

-- Every link leads on.
pub record Readable (rows : List ℤ) : Type 0 where
  pub layout : Layout
  pub words : ℕ
  pub sound : Sound rows layout words

-- The links of a shape lead to rows of the table, of which there are `count`.
abbrev pub PlaceInside : ℕ → PlaceShape → Type 0
PlaceInside count (Variable i) = Unit {0}
PlaceInside count (Element array index) = index < count

abbrev pub OperationInside : ℕ → OperationShape → Type 0
OperationInside count (Minus a) = a < count
OperationInside count (Not a) = a < count
OperationInside count (Binary operator a b) = (a < count) × (b < count)
OperationInside count (Comma a b) = (a < count) × (b < count)
OperationInside count (Assign p e) = (p < count) × (e < count)
OperationInside count (Compound operator p e) = (p < count) × (e < count)
OperationInside count (Prefix operator p) = p < count
OperationInside count (Postfix operator p) = p < count

abbrev pub ExpressionInside : ℕ → ExpressionShape → Type 0
ExpressionInside count (Number v) = Unit {0}
ExpressionInside count (Read p) = PlaceInside count p
ExpressionInside count (Operation o) = OperationInside count o
ExpressionInside count (Choice c) = Unit {0}
ExpressionInside count (Call f arguments) = arguments < count

abbrev pub ArgumentInside : ℕ → Option ℕ → Type 0
ArgumentInside count (Some e) = e < count
ArgumentInside count None = Unit {0}

module _ (rows : List ℤ) (row : ℕ) where
  pub record PlaceRead (shape : PlaceShape) : Type 0 where
    pub is : place_of (expression_at rows row) ≡ place_tree rows shape
    pub inside : PlaceInside (row_count rows) shape

  pub record ExpressionRead (shape : ExpressionShape) : Type 0 where
    pub is : expression_at rows row ≡ expression_tree rows shape
    pub inside : ExpressionInside (row_count rows) shape

  -- What a link leads to among arguments, and the link behind it.
  pub record ArgumentRead (shape : Option ℕ) : Type 0 where
    pub is : argument_list_at rows row ≡ argument_tree rows shape (argument_list_at rows (number_at rows row 5))
    pub inside : ArgumentInside (row_count rows) shape
    pub next_inside : number_at rows row 5 < row_count rows
    pub next-later : 0 < number_at rows row 5 → row < number_at rows row 5
