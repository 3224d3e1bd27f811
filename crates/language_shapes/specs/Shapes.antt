-- Shapes: what stands at a row, with its links. First the shape of a row of each kind, then the trees that shapes stand for, which are
-- those of decode, and that the links of a shape lead on.
use Rattle.std.specs.Prelude.{◌≡◌, List, ℕ, ◌<◌, ℤ, pos, None, Option, Some}
use Rattle.words.specs.Table.{row_count, word_at, number_at}
use Rattle.words.specs.Kinds.{kind_at}
use Rattle.words.specs.declared.Kind.{Kind}
use Rattle.words.specs.declared.Kind.TheVariants as group
use Rattle.words.specs.declared.ExpressionKind.{ExpressionKind}
use Rattle.words.specs.declared.ExpressionKind.TheVariants as expression
use Rattle.words.specs.declared.StatementKind.{StatementKind}
use Rattle.words.specs.declared.StatementKind.TheVariants as statement
use Rattle.words.specs.declared.MarkKind.{MarkKind}
use Rattle.words.specs.declared.MarkKind.TheVariants as mark
use Rattle.words.specs.declared.MemberKind.{MemberKind}
use Rattle.words.specs.declared.MemberKind.TheVariants as member
use Rattle.language.specs.Trees.{Expression, constant, read, minus, not, binary, and, or, comma, conditional, assign, compound, prefix, postfix, call, Place, variable, element, Arguments, no_more, ◌also◌, Mark as MarkTree, case, default, label, Statement, empty, express, block, while, do_while, for, switch, break, continue, goto, guarded_if, guarded_do, abort, declare, give_back, Arms, no_arm, arm, Items, ◌then◌, ◌here◌, define}
use Rattle.language.specs.Decode.{place_of, expression_at, arguments_at, if_of, block_items, statement_at, items_at, arms_at, list_at, arm_list_at, part_at, argument_list_at, parameter_list_at}
use Rattle.language_shapes.specs.declared.PlaceShape.{PlaceShape}
use Rattle.language_shapes.specs.declared.PlaceShape.TheVariants.{Variable, Element}
use Rattle.language_shapes.specs.declared.OperationShape.{OperationShape}
use Rattle.language_shapes.specs.declared.OperationShape.TheVariants.{Minus, Not, Binary, Comma, Assign, Compound, Prefix, Postfix}
use Rattle.language_shapes.specs.declared.ChoiceShape.{ChoiceShape}
use Rattle.language_shapes.specs.declared.ChoiceShape.TheVariants.{And, Or, Conditional}
use Rattle.language_shapes.specs.declared.ExpressionShape.{ExpressionShape}
use Rattle.language_shapes.specs.declared.ExpressionShape.TheVariants.{Number, Read, Operation, Choice, Call}
use Rattle.language_shapes.specs.declared.StatementShape.{StatementShape}
use Rattle.language_shapes.specs.declared.StatementShape.TheVariants.{Empty, Express, Block, If, While, Do, For, Switch, Break, Continue, Goto, GuardedIf, GuardedDo, Abort, Declare, Return}
use Rattle.language_shapes.specs.declared.MarkShape.{MarkShape}
use Rattle.language_shapes.specs.declared.MarkShape.TheVariants.{Case, Default, Label}
use Rattle.language_shapes.specs.declared.Shape.{Shape}
use Rattle.language_shapes.specs.declared.Shape.TheVariants.{OfExpression, OfStatement, OfMark, OfArm, OfArgument, OfDefinition, Other}
use Rattle.language_shapes.specs.declared.Item.{Item}
use Rattle.language_shapes.specs.declared.Item.TheVariants.{Statement as StatementItem, Mark, Definition}

-- ---- the shape of a row of a kind; v, a, b, c, d are its fields, v the word of a

abbrev pub expression_shape : ExpressionKind → ℤ → ℕ → ℕ → ℕ → ExpressionShape
expression_shape expression.Constant v a b c = Number v
expression_shape expression.Variable v a b c = Read (Variable a)
expression_shape expression.Element v a b c = Read (Element a b)
expression_shape expression.Minus v a b c = Operation (Minus a)
expression_shape expression.Not v a b c = Operation (Not a)
expression_shape (expression.Binary operator) v a b c = Operation (Binary operator a b)
expression_shape expression.And v a b c = Choice (And a b)
expression_shape expression.Or v a b c = Choice (Or a b)
expression_shape expression.Conditional v a b c = Choice (Conditional a b c)
expression_shape expression.Comma v a b c = Operation (Comma a b)
expression_shape expression.Assign v a b c = Operation (Assign a b)
expression_shape (expression.Compound operator) v a b c = Operation (Compound operator a b)
expression_shape (expression.Prefix operator) v a b c = Operation (Prefix operator a)
expression_shape (expression.Postfix operator) v a b c = Operation (Postfix operator a)
expression_shape expression.Call v a b c = Call a b

abbrev pub statement_shape : StatementKind → ℕ → ℕ → ℕ → ℕ → StatementShape
statement_shape statement.Empty a b c d = Empty
statement_shape statement.Express a b c d = Express a
statement_shape statement.Block a b c d = Block a
statement_shape statement.If a b c d = If a b c
statement_shape statement.While a b c d = While a b
statement_shape statement.Do a b c d = Do a b
statement_shape statement.For a b c d = For a b c d
statement_shape statement.Switch a b c d = Switch a b
statement_shape statement.Break a b c d = Break
statement_shape statement.Continue a b c d = Continue
statement_shape statement.Goto a b c d = Goto a
statement_shape statement.GuardedIf a b c d = GuardedIf a
statement_shape statement.GuardedDo a b c d = GuardedDo a
statement_shape statement.Abort a b c d = Abort
statement_shape statement.Declare a b c d = Declare a b
statement_shape statement.Return a b c d = Return a

abbrev pub mark_shape : MarkKind → ℤ → ℕ → MarkShape
mark_shape mark.Case v a = Case v
mark_shape mark.Default v a = Default
mark_shape mark.Label v a = Label a

abbrev pub member_shape : MemberKind → ℕ → ℕ → Shape
member_shape member.Arm a b = OfArm a b
member_shape member.Argument a b = OfArgument a

-- The same at a row of a table.
module _ (rows : List ℤ) (row : ℕ) where
  abbrev pub expression_as : ExpressionKind → ExpressionShape
  expression_as kind = expression_shape kind (word_at rows row 1) (number_at rows row 1) (number_at rows row 2) (number_at rows row 3)

  abbrev pub statement_as : StatementKind → StatementShape
  statement_as kind = statement_shape kind (number_at rows row 1) (number_at rows row 2) (number_at rows row 3) (number_at rows row 4)

  abbrev pub mark_as : MarkKind → MarkShape
  mark_as kind = mark_shape kind (word_at rows row 1) (number_at rows row 1)

  unfoldable pub member_as : MemberKind → Shape
  member_as kind = member_shape kind (number_at rows row 1) (number_at rows row 2)

  unfoldable pub definition_as : Shape
  definition_as = OfDefinition (number_at rows row 1) (number_at rows row 2) (number_at rows row 3)

  abbrev pub shape_as : Kind → Shape
  shape_as (group.OfExpression kind) = OfExpression (expression_as kind)
  shape_as (group.OfStatement kind) = OfStatement (statement_as kind)
  shape_as (group.OfMark kind) = OfMark (mark_as kind)
  shape_as (group.OfMember kind) = member_as kind
  shape_as group.Definition = definition_as
  shape_as group.Other = Other

  unfoldable pub shape_at : Shape
  shape_at = shape_as (kind_at rows row)

-- ---- what a shape is as an expression, a place, a statement, an item, an arm, an argument

abbrev pub expression_in : Shape → ExpressionShape
expression_in (OfExpression e) = e
expression_in (OfStatement s) = Number (pos 0)
expression_in (OfMark m) = Number (pos 0)
expression_in (OfArm guard body) = Number (pos 0)
expression_in (OfArgument e) = Number (pos 0)
expression_in (OfDefinition f words body) = Number (pos 0)
expression_in Other = Number (pos 0)

abbrev pub place_in : ExpressionShape → PlaceShape
place_in (Number v) = Variable 0
place_in (Read place) = place
place_in (Operation o) = Variable 0
place_in (Choice c) = Variable 0
place_in (Call f arguments) = Variable 0

abbrev pub statement_in : Shape → StatementShape
statement_in (OfExpression e) = Empty
statement_in (OfStatement s) = s
statement_in (OfMark m) = Empty
statement_in (OfArm guard body) = Empty
statement_in (OfArgument e) = Empty
statement_in (OfDefinition f words body) = Empty
statement_in Other = Empty

abbrev pub item_in : Shape → Item
item_in (OfExpression e) = StatementItem
item_in (OfStatement s) = StatementItem
item_in (OfMark m) = Mark m
item_in (OfArm guard body) = StatementItem
item_in (OfArgument e) = StatementItem
item_in (OfDefinition f words body) = Definition f words body
item_in Other = StatementItem

abbrev pub arm_in : Shape → Option (ℕ × ℕ)
arm_in (OfExpression e) = None
arm_in (OfStatement s) = None
arm_in (OfMark m) = None
arm_in (OfArm guard body) = Some (guard, body)
arm_in (OfArgument e) = None
arm_in (OfDefinition f words body) = None
arm_in Other = None

abbrev pub argument_in : Shape → Option ℕ
argument_in (OfExpression e) = None
argument_in (OfStatement s) = None
argument_in (OfMark m) = None
argument_in (OfArm guard body) = None
argument_in (OfArgument e) = Some e
argument_in (OfDefinition f words body) = None
argument_in Other = None

-- ---- links

-- A row of the table behind this row.
pub record Onward (rows : List ℤ) (row link : ℕ) : Type 0 where
  pub later : row < link
  pub inside : link < row_count rows

-- The same, or absent.
abbrev pub OptionalOnward : List ℤ → ℕ → ℕ → Type 0
OptionalOnward rows row link = 0 < link → Onward rows row link

-- The expression of a row of kind 58: a declaration has one, at a later row; a parameter has none, which counts as row 0, that of the constant 0.
pub record Initial (rows : List ℤ) (row link : ℕ) : Type 0 where
  pub onward : OptionalOnward rows row link
  pub inside : link < row_count rows
  pub absent : link ≡ 0 → expression_at rows link ≡ constant (pos 0)

module _ (rows : List ℤ) where
  -- ---- the trees

  abbrev pub place_tree : PlaceShape → Place
  place_tree (Variable i) = variable i
  place_tree (Element array index) = element array (expression_at rows index)

  abbrev pub operation_tree : OperationShape → Expression
  operation_tree (Minus a) = minus (expression_at rows a)
  operation_tree (Not a) = not (expression_at rows a)
  operation_tree (Binary operator a b) = binary operator (expression_at rows a) (expression_at rows b)
  operation_tree (Comma a b) = comma (expression_at rows a) (expression_at rows b)
  operation_tree (Assign p e) = assign (place_of (expression_at rows p)) (expression_at rows e)
  operation_tree (Compound operator p e) = compound operator (place_of (expression_at rows p)) (expression_at rows e)
  operation_tree (Prefix operator p) = prefix operator (place_of (expression_at rows p))
  operation_tree (Postfix operator p) = postfix operator (place_of (expression_at rows p))

  abbrev pub choice_tree : ChoiceShape → Expression
  choice_tree (And a b) = and (expression_at rows a) (expression_at rows b)
  choice_tree (Or a b) = or (expression_at rows a) (expression_at rows b)
  choice_tree (Conditional c a b) = conditional (expression_at rows c) (expression_at rows a) (expression_at rows b)

  abbrev pub expression_tree : ExpressionShape → Expression
  expression_tree (Number v) = constant v
  expression_tree (Read p) = read (place_tree p)
  expression_tree (Operation o) = operation_tree o
  expression_tree (Choice c) = choice_tree c
  expression_tree (Call f arguments) = call f (argument_list_at rows arguments)

  abbrev pub statement_tree : StatementShape → Statement
  statement_tree Empty = empty
  statement_tree (Express e) = express (expression_at rows e)
  statement_tree (Block list) = block (list_at rows list)
  statement_tree (If e on_true on_false) = if_of on_false (expression_at rows e) (statement_at rows on_true) (statement_at rows on_false)
  statement_tree (While e body) = while (expression_at rows e) (statement_at rows body)
  statement_tree (Do body e) = do_while (statement_at rows body) (expression_at rows e)
  statement_tree (For first test action body) = for (part_at rows first) (part_at rows test) (part_at rows action) (statement_at rows body)
  statement_tree (Switch e list) = switch (expression_at rows e) (list_at rows list)
  statement_tree Break = break
  statement_tree Continue = continue
  statement_tree (Goto l) = goto l
  statement_tree (GuardedIf arms) = guarded_if (arm_list_at rows arms)
  statement_tree (GuardedDo arms) = guarded_do (arm_list_at rows arms)
  statement_tree Abort = abort
  statement_tree (Declare i e) = declare i (expression_at rows e)
  statement_tree (Return value) = give_back (part_at rows value)

  abbrev pub mark_tree : MarkShape → MarkTree
  mark_tree (Case v) = case v
  mark_tree Default = default
  mark_tree (Label l) = label l

  -- The list from an item on: the item, where `own` is its statement, and the list behind it.
  abbrev pub item_tree : Item → Statement → Items → Items
  item_tree StatementItem own behind = own then behind
  item_tree (Mark m) own behind = mark_tree m here behind
  item_tree (Definition f words body) own behind = define f (parameter_list_at rows words) (block_items (statement_at rows body)) behind

  -- The arms from an arm on, with the arms behind it.
  abbrev pub arm_tree : Option (ℕ × ℕ) → Arms → Arms
  arm_tree (Some (guard, body)) behind = arm (expression_at rows guard) (statement_at rows body) behind
  arm_tree None behind = no_arm

  -- The arguments from an argument on, with the arguments behind it.
  abbrev pub argument_tree : Option ℕ → Arguments → Arguments
  argument_tree (Some e) behind = expression_at rows e also behind
  argument_tree None behind = no_more

  module _ (row : ℕ) where
    -- ---- the links lead on

    -- Numbers of variables are names, those of arrays below `arrays`.
    abbrev pub PlaceOnward : (ℕ → Type 0) → ℕ → PlaceShape → Type 0
    PlaceOnward name arrays (Variable i) = name i
    PlaceOnward name arrays (Element array index) = (array < arrays) × Onward rows row index

    abbrev pub OperationOnward : OperationShape → Type 0
    OperationOnward (Minus a) = Onward rows row a
    OperationOnward (Not a) = Onward rows row a
    OperationOnward (Binary operator a b) = Onward rows row a × Onward rows row b
    OperationOnward (Comma a b) = Onward rows row a × Onward rows row b
    OperationOnward (Assign p e) = Onward rows row p × Onward rows row e
    OperationOnward (Compound operator p e) = Onward rows row p × Onward rows row e
    OperationOnward (Prefix operator p) = Onward rows row p
    OperationOnward (Postfix operator p) = Onward rows row p

    abbrev pub ChoiceOnward : ChoiceShape → Type 0
    ChoiceOnward (And a b) = Onward rows row a × Onward rows row b
    ChoiceOnward (Or a b) = Onward rows row a × Onward rows row b
    ChoiceOnward (Conditional c a b) = Onward rows row c × Onward rows row a × Onward rows row b

    abbrev pub ExpressionOnward : (ℕ → Type 0) → ℕ → ExpressionShape → Type 0
    ExpressionOnward name arrays (Number v) = Unit {0}
    ExpressionOnward name arrays (Read p) = PlaceOnward name arrays p
    ExpressionOnward name arrays (Operation o) = OperationOnward o
    ExpressionOnward name arrays (Choice c) = ChoiceOnward c
    ExpressionOnward name arrays (Call f arguments) = OptionalOnward rows row arguments

    abbrev pub StatementOnward : (ℕ → Type 0) → StatementShape → Type 0
    StatementOnward name Empty = Unit {0}
    StatementOnward name (Express e) = Onward rows row e
    StatementOnward name (Block list) = OptionalOnward rows row list
    StatementOnward name (If e on_true on_false) = Onward rows row e × Onward rows row on_true × OptionalOnward rows row on_false
    StatementOnward name (While e body) = Onward rows row e × Onward rows row body
    StatementOnward name (Do body e) = Onward rows row body × Onward rows row e
    StatementOnward name (For first test action body) = OptionalOnward rows row first × OptionalOnward rows row test × OptionalOnward rows row action × Onward rows row body
    StatementOnward name (Switch e list) = Onward rows row e × OptionalOnward rows row list
    StatementOnward name Break = Unit {0}
    StatementOnward name Continue = Unit {0}
    StatementOnward name (Goto l) = Unit {0}
    StatementOnward name (GuardedIf arms) = OptionalOnward rows row arms
    StatementOnward name (GuardedDo arms) = OptionalOnward rows row arms
    StatementOnward name Abort = Unit {0}
    StatementOnward name (Declare i e) = name i × Initial rows row e
    StatementOnward name (Return value) = OptionalOnward rows row value

    abbrev pub ArmOnward : Option (ℕ × ℕ) → Type 0
    ArmOnward (Some (guard, body)) = Onward rows row guard × Onward rows row body
    ArmOnward None = Unit {0}

    -- The number of a function is no link.
    abbrev pub ItemOnward : Item → Type 0
    ItemOnward StatementItem = Unit {0}
    ItemOnward (Mark m) = Unit {0}
    ItemOnward (Definition f words body) = OptionalOnward rows row words × Onward rows row body

    abbrev pub ArgumentOnward : Option ℕ → Type 0
    ArgumentOnward (Some e) = Onward rows row e
    ArgumentOnward None = Unit {0}

    -- ---- what stands at a row

    pub record PlaceWithin (name : ℕ → Type 0) (arrays : ℕ) (place : PlaceShape) : Type 0 where
      pub is : place_of (expression_at rows row) ≡ place_tree place
      pub onward : PlaceOnward name arrays place

    pub record ExpressionWithin (name : ℕ → Type 0) (arrays : ℕ) (shape : ExpressionShape) : Type 0 where
      pub is : expression_at rows row ≡ expression_tree shape
      pub onward : ExpressionOnward name arrays shape

    pub record StatementWithin (name : ℕ → Type 0) (shape : StatementShape) : Type 0 where
      pub is : statement_at rows row ≡ statement_tree shape
      pub onward : StatementOnward name shape

    -- `next` is the row behind.
    pub record ItemAt (next : ℕ) (item : Item) : Type 0 where
      pub is : items_at rows row ≡ item_tree item (statement_at rows row) (list_at rows next)
      pub onward : OptionalOnward rows row next
      pub parts : ItemOnward item

    pub record ArmAt (next : ℕ) (shape : Option (ℕ × ℕ)) : Type 0 where
      pub is : arms_at rows row ≡ arm_tree shape (arm_list_at rows next)
      pub onward : ArmOnward shape
      pub behind : OptionalOnward rows row next

    pub record ArgumentAt (next : ℕ) (shape : Option ℕ) : Type 0 where
      pub is : arguments_at rows row ≡ argument_tree shape (argument_list_at rows next)
      pub onward : ArgumentOnward shape
      pub behind : OptionalOnward rows row next
