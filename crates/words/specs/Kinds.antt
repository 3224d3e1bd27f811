-- Kinds: the table of kinds of documents 01 and 02. First the numbers, then what a row of each kind is, what its fields hold, and in which forms the
-- kind stands.
use Rattle.std.specs.Prelude.{Bool, true, false, ◌&&◌, ◌||◌, List, [], ◌∷◌, ℕ, leb, eqb, ℤ, get_or}
use Rattle.words.specs.Word.{pick}
use Rattle.words.specs.Table.{number_at}
use Rattle.words.specs.declared.Form.{Form}
use Rattle.words.specs.declared.Form.TheVariants.{Source, Kernel}
use Rattle.words.specs.declared.Operator.{Operator}
use Rattle.words.specs.declared.Operator.TheVariants.{Add, Subtract, Multiply, Divide, Remainder, Less, Greater, LessOrEqual, GreaterOrEqual, Equal, NotEqual}
use Rattle.words.specs.declared.ExpressionKind.{ExpressionKind}
use Rattle.words.specs.declared.StatementKind.{StatementKind}
use Rattle.words.specs.declared.MarkKind.{MarkKind}
use Rattle.words.specs.declared.MemberKind.{MemberKind}
use Rattle.words.specs.declared.ExpressionKind.TheVariants.{Constant, Variable, Element, Minus, Not, Binary, And, Or, Conditional, Comma, Assign, Compound, Prefix, Postfix, Call}
use Rattle.words.specs.declared.StatementKind.TheVariants.{Empty, Express, Block, If, While, Do, For, Switch, Break, Continue, Goto, GuardedIf, GuardedDo, Abort, Declare, Return}
use Rattle.words.specs.declared.MarkKind.TheVariants.{Case, Default, Label}
use Rattle.words.specs.declared.MemberKind.TheVariants.{Arm, Argument}
use Rattle.words.specs.declared.Kind.{Kind}
use Rattle.words.specs.declared.Kind.TheVariants.{OfExpression, OfStatement, OfMark, OfMember, Definition, Other}

-- ---- numbers

unfoldable pub kinds : List (ℕ × Kind)
kinds =
    (1, OfExpression Constant) ∷  -- constant
    (2, OfExpression Variable) ∷  -- variable
    (3, OfExpression Element) ∷  -- element
    (4, OfExpression Minus) ∷  -- minus
    (5, OfExpression Not) ∷  -- not
    (6, OfExpression (Binary Add)) ∷  -- +
    (7, OfExpression (Binary Subtract)) ∷  -- −
    (8, OfExpression (Binary Multiply)) ∷  -- ×
    (9, OfExpression (Binary Divide)) ∷  -- /
    (10, OfExpression (Binary Remainder)) ∷  -- %
    (11, OfExpression (Binary Less)) ∷  -- <
    (12, OfExpression (Binary Greater)) ∷  -- >
    (13, OfExpression (Binary LessOrEqual)) ∷  -- <=
    (14, OfExpression (Binary GreaterOrEqual)) ∷  -- >=
    (15, OfExpression (Binary Equal)) ∷  -- ==
    (16, OfExpression (Binary NotEqual)) ∷  -- !=
    (17, OfExpression And) ∷  -- and
    (18, OfExpression Or) ∷  -- or
    (19, OfExpression Conditional) ∷  -- conditional
    (20, OfExpression Comma) ∷  -- comma
    (21, OfExpression Assign) ∷  -- assign
    (22, OfExpression (Compound Add)) ∷  -- +=
    (23, OfExpression (Compound Subtract)) ∷  -- −=
    (24, OfExpression (Compound Multiply)) ∷  -- ×=
    (25, OfExpression (Compound Divide)) ∷  -- /=
    (26, OfExpression (Compound Remainder)) ∷  -- %=
    (27, OfExpression (Prefix Add)) ∷  -- ++e
    (28, OfExpression (Prefix Subtract)) ∷  -- −−e
    (29, OfExpression (Postfix Add)) ∷  -- e++
    (30, OfExpression (Postfix Subtract)) ∷  -- e−−
    (31, OfExpression Call) ∷  -- call
    (32, OfMember Argument) ∷  -- argument
    (40, OfStatement Empty) ∷  -- empty
    (41, OfStatement Express) ∷  -- expression statement
    (42, OfStatement Block) ∷  -- block
    (43, OfStatement If) ∷  -- if
    (44, OfStatement While) ∷  -- while
    (45, OfStatement Do) ∷  -- do
    (46, OfStatement For) ∷  -- for
    (47, OfStatement Switch) ∷  -- switch
    (48, OfMark Case) ∷  -- case
    (49, OfMark Default) ∷  -- default
    (50, OfStatement Break) ∷  -- break
    (51, OfStatement Continue) ∷  -- continue
    (52, OfStatement Goto) ∷  -- goto
    (53, OfMark Label) ∷  -- label
    (54, OfStatement GuardedIf) ∷  -- guarded if
    (55, OfStatement GuardedDo) ∷  -- guarded do
    (56, OfMember Arm) ∷  -- arm
    (57, OfStatement Abort) ∷  -- abort
    (58, OfStatement Declare) ∷  -- declaration
    (59, Definition) ∷  -- definition of a function
    (60, OfStatement Return) ∷  -- return
    []

unfoldable pub kind_in : List (ℕ × Kind) → ℕ → Kind
kind_in [] number = Other
kind_in (k ∷ ks) number = pick (eqb number k.0) k.1 (kind_in ks number)

-- The kind with this number; `Other` where there is none.
unfoldable pub kind_of : ℕ → Kind
kind_of number = kind_in kinds number

unfoldable pub kind_at : List ℤ → ℕ → Kind
kind_at rows row = kind_of (number_at rows row 0)

-- Kinds that differ in an operator stand in the order of the operators: kinds 6 to 16 for all of them, 22 to 26, 27 and 28, 29 and 30 for
-- the first ones.
unfoldable pub operators : List Operator
operators = Add ∷ Subtract ∷ Multiply ∷ Divide ∷ Remainder ∷ Less ∷ Greater ∷ LessOrEqual ∷ GreaterOrEqual ∷ Equal ∷ NotEqual ∷ []

-- The operator at a position of that order.
unfoldable pub operator_of : ℕ → Operator
operator_of position = get_or operators position NotEqual

abbrev pub is_expression_kind : Kind → Bool
is_expression_kind (OfExpression kind) = true
is_expression_kind (OfStatement kind) = false
is_expression_kind (OfMark kind) = false
is_expression_kind (OfMember kind) = false
is_expression_kind Definition = false
is_expression_kind Other = false

-- The kinds of statements, marks and definitions apart.
abbrev pub is_statement_kind : Kind → Bool
is_statement_kind (OfExpression kind) = false
is_statement_kind (OfStatement kind) = true
is_statement_kind (OfMark kind) = false
is_statement_kind (OfMember kind) = false
is_statement_kind Definition = false
is_statement_kind Other = false

-- ---- sorts: what a field holds, and what a row is

-- Fields without a link. "Values, variable, array and label numbers may be 0."
abbrev pub unused : ℕ
unused = 0

abbrev pub value : ℕ
value = 1

abbrev pub variable : ℕ
variable = 2

abbrev pub array : ℕ
array = 3

abbrev pub label : ℕ
label = 4

-- The number that a declaration gives to its object.
abbrev pub declared_number : ℕ
declared_number = 5

-- The number of a function, at its definition and at a call.
abbrev pub function_number : ℕ
function_number = 6

-- Links. Optional ones "may be 0". A branch or body has next 0, and so has the block of an arm or of a function; an item is the first of a
-- list, or the next, and so are an arm, an argument and a parameter.
abbrev pub expression : ℕ
expression = 7

abbrev pub optional_expression : ℕ
optional_expression = 8

abbrev pub place : ℕ
place = 9

abbrev pub branch : ℕ
branch = 10

abbrev pub optional_branch : ℕ
optional_branch = 11

abbrev pub optional_item : ℕ
optional_item = 12

abbrev pub body_block : ℕ
body_block = 13

abbrev pub optional_arm : ℕ
optional_arm = 14

abbrev pub optional_argument : ℕ
optional_argument = 15

abbrev pub optional_parameter : ℕ
optional_parameter = 16

-- A link that must be 0.
abbrev pub absent_link : ℕ
absent_link = 17

-- What a row is.
abbrev pub expression_row : ℕ
expression_row = 18

abbrev pub place_row : ℕ
place_row = 19

abbrev pub statement_row : ℕ
statement_row = 20

abbrev pub arm_row : ℕ
arm_row = 21

abbrev pub argument_row : ℕ
argument_row = 22

abbrev pub no_kind : ℕ
no_kind = 0

abbrev pub between : ℕ → ℕ → ℕ → Bool
between least most number = leb least number && leb number most

unfoldable pub is_link : ℕ → Bool
is_link sort = between expression absent_link sort

-- Links that must not be absent.
unfoldable pub is_required : ℕ → Bool
is_required sort = eqb sort expression || (eqb sort place || (eqb sort branch || eqb sort body_block))

-- ---- rows

-- The forms that have a kind.
pub data Forms : Type 0 where
  in_both : Forms
  in_source : Forms
  in_kernel : Forms
  in_neither : Forms

abbrev pub stands_in : Forms → Form → Bool
stands_in in_both form = true
stands_in in_source Source = true
stands_in in_source Kernel = false
stands_in in_kernel Source = false
stands_in in_kernel Kernel = true
stands_in in_neither form = false

-- What a row of the kind is, the sorts of its fields, and the forms that have the kind.
pub record KindRow : Type 0 where
  pub what : ℕ
  pub a : ℕ
  pub b : ℕ
  pub c : ℕ
  pub d : ℕ
  pub next : ℕ
  pub forms : Forms

-- Of an expression. "Expressions have next 0 (it counts as an unused field)"; none has a field d.
pub record ExpressionRow : Type 0 where
  pub what : ℕ
  pub a : ℕ
  pub b : ℕ
  pub c : ℕ
  pub forms : Forms

-- Of a statement. "Items of a block or switch are linked by next."
pub record StatementRow : Type 0 where
  pub a : ℕ
  pub b : ℕ
  pub c : ℕ
  pub d : ℕ
  pub forms : Forms

abbrev pub computing : ℕ → ℕ → ℕ → Forms → ExpressionRow
computing a b c forms = record { what = expression_row; a = a; b = b; c = c; forms = forms }

abbrev pub placing : ℕ → ℕ → Forms → ExpressionRow
placing a b forms = record { what = place_row; a = a; b = b; c = unused; forms = forms }

abbrev pub stating : ℕ → ℕ → ℕ → ℕ → Forms → StatementRow
stating a b c d forms = record { a = a; b = b; c = c; d = d; forms = forms }

-- Kernel: "Kinds not named in this paragraph are not in the kernel language." Functions, kinds 31, 32, 59 and 60, stand in both forms.
unfoldable pub expression_fields : ExpressionKind → ExpressionRow
expression_fields Constant = computing value unused unused in_both  -- 1 constant: a value
expression_fields Variable = placing variable unused in_both  -- 2 variable: a number
expression_fields Element = placing array expression in_both  -- 3 element: a array, b index
expression_fields Minus = computing expression unused unused in_both  -- 4 minus: a operand
expression_fields Not = computing expression unused unused in_source  -- 5 not: a operand
expression_fields (Binary operator) = computing expression expression unused in_both  -- 6 to 16: a left, b right
expression_fields And = computing expression expression unused in_source  -- 17 and: a left, b right
expression_fields Or = computing expression expression unused in_source  -- 18 or: a left, b right
expression_fields Conditional = computing expression expression expression in_source  -- 19 conditional: a test, b yes, c no
expression_fields Comma = computing expression expression unused in_source  -- 20 comma: a, b
expression_fields Assign = computing place expression unused in_both  -- 21 assign: a place, b value
expression_fields (Compound operator) = computing place expression unused in_source  -- 22 to 26: a place, b value
expression_fields (Prefix operator) = computing place unused unused in_source  -- 27 ++e, 28 −−e: a place
expression_fields (Postfix operator) = computing place unused unused in_source  -- 29 e++, 30 e−−: a place
expression_fields Call = computing function_number optional_argument unused in_both  -- 31 call: a number, b first argument or 0

-- "52 goto, 53 label (kernel only)". "Kind 54 (guarded if) and 55 (guarded do), each with a the first arm or 0"; "the kernel's new kind 57 (abort, no
-- fields)". "Kind 58: a variable number below V, b initial expression". "Kind 60 returns a, or 0 where a is 0".
unfoldable pub statement_fields : StatementKind → StatementRow
statement_fields Empty = stating unused unused unused unused in_both  -- 40 empty: none
statement_fields Express = stating expression unused unused unused in_both  -- 41 expression statement: a
statement_fields Block = stating optional_item unused unused unused in_both  -- 42 block: a first item or 0
statement_fields If = stating expression branch optional_branch unused in_both  -- 43 if: a test, b then, c else or 0
statement_fields While = stating expression branch unused unused in_both  -- 44 while: a test, b body
statement_fields Do = stating branch expression unused unused in_source  -- 45 do: a body, b test
statement_fields For = stating optional_expression optional_expression optional_expression branch in_source  -- 46 for: a start, b test, c step (each may be 0), d body
statement_fields Switch = stating expression optional_item unused unused in_source  -- 47 switch: a selector, b first item or 0
statement_fields Break = stating unused unused unused unused in_source  -- 50 break: none
statement_fields Continue = stating unused unused unused unused in_source  -- 51 continue: none
statement_fields Goto = stating label unused unused unused in_kernel  -- 52 goto: a label number
statement_fields GuardedIf = stating optional_arm unused unused unused in_source  -- 54 guarded if: a first arm or 0
statement_fields GuardedDo = stating optional_arm unused unused unused in_source  -- 55 guarded do: a first arm or 0
statement_fields Abort = stating unused unused unused unused in_kernel  -- 57 abort: none
statement_fields Declare = stating declared_number expression unused unused in_both  -- 58 declaration: a number, b initial expression
statement_fields Return = stating optional_expression unused unused unused in_both  -- 60 return: a, or 0

unfoldable pub mark_fields : MarkKind → StatementRow
mark_fields Case = stating value unused unused unused in_source  -- 48 case: a value
mark_fields Default = stating unused unused unused unused in_source  -- 49 default: none
mark_fields Label = stating label unused unused unused in_kernel  -- 53 label: a label number

-- "Kind 59 defines a function: a its number, b first parameter or 0 (kind 58, else 4 ..), c a block."
unfoldable pub definition_fields : StatementRow
definition_fields = stating function_number optional_parameter body_block unused in_both  -- 59 definition: a number, b first parameter or 0, c block

-- "Kind 56 (arm): a guard, b block, next the next arm." "Kind 32 is an argument with a an expression and next".
unfoldable pub member_fields : MemberKind → KindRow
member_fields Arm = record { what = arm_row; a = expression; b = body_block; c = unused; d = unused; next = optional_arm; forms = in_source }  -- 56 arm: a guard, b block, next arm or 0
member_fields Argument = record { what = argument_row; a = expression; b = unused; c = unused; d = unused; next = optional_argument; forms = in_both }  -- 32 argument: a expression, next argument or 0

-- Kind 58 has two roles, and stands in the kernel as a parameter alone (a declaration there is no statement of kernel form): a row that a definition's b links, or a parameter's next, is a parameter, and has these fields in place of a
-- declaration's: "its b 0, else 4 with its own row".
unfoldable pub parameter_fields : KindRow
parameter_fields = record { what = statement_row; a = declared_number; b = absent_link; c = unused; d = unused; next = optional_parameter; forms = in_both }

abbrev pub item_row : StatementRow → KindRow
item_row r = record { what = statement_row; a = r.a; b = r.b; c = r.c; d = r.d; next = optional_item; forms = r.forms }

abbrev pub operand_row : ExpressionRow → KindRow
operand_row r = record { what = r.what; a = r.a; b = r.b; c = r.c; d = unused; next = unused; forms = r.forms }

unfoldable pub kind_row : Kind → KindRow
kind_row (OfExpression kind) = operand_row (expression_fields kind)
kind_row (OfStatement kind) = item_row (statement_fields kind)
kind_row (OfMark kind) = item_row (mark_fields kind)
kind_row (OfMember kind) = member_fields kind
kind_row Definition = item_row definition_fields
kind_row Other = record { what = no_kind; a = unused; b = unused; c = unused; d = unused; next = unused; forms = in_neither }

-- ---- what the table says of a kind

-- What a field of a kind holds (1 to 4 are a to d, 5 is next); for field 0, what a row of the kind is.
unfoldable pub sort_in : Kind → ℕ → ℕ
sort_in kind field = let r = kind_row kind in get_or (r.what ∷ r.a ∷ r.b ∷ r.c ∷ r.d ∷ r.next ∷ []) field unused

unfoldable pub sort_of : ℕ → ℕ → ℕ
sort_of number field = sort_in (kind_of number) field

unfoldable pub sort_at : List ℤ → ℕ → ℕ → ℕ
sort_at rows row field = sort_of (number_at rows row 0) field

unfoldable pub in_language : Form → ℕ → Bool
in_language form number = stands_in (kind_row (kind_of number)).forms form

-- The kinds of functions: call, argument, definition, return.
unfoldable pub is_function_number : ℕ → Bool
is_function_number number = between 31 32 number || between 59 60 number

-- "'Place' means a row of kind 2 or 3."
unfoldable pub is_place_kind : Kind → Bool
is_place_kind kind = eqb (sort_in kind 0) place_row
