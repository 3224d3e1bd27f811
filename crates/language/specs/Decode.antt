-- Decode: the tree that rows hold. It is total on all words: a row that is not legal decodes to something harmless, and a link
-- that does not lead to a later row to something harmless too.
use Rattle.std.specs.Prelude.{List, [], ◌∷◌, ℕ, zero, suc, ◌<◌, ltb, ℤ, pos}
use Rattle.words.specs.Word.{natural, pick}
use Rattle.words.specs.Table.{row_count, word_at, number_at}
use Rattle.words.specs.Declarations.{is_declaration}
use Rattle.words.specs.Kinds.{kind_at}
use Rattle.words.specs.declared.Kind.{Kind}
use Rattle.words.specs.declared.Kind.TheVariants.{OfExpression, OfStatement, OfMark, OfMember, Definition, Other}
use Rattle.words.specs.declared.ExpressionKind.TheVariants.{Constant, Variable, Element, Minus, Not, Binary, And, Or, Conditional, Comma, Assign, Compound, Prefix, Postfix, Call}
use Rattle.words.specs.declared.StatementKind.TheVariants.{Empty, Express, Block, If, While, Do, For, Switch, Break, Continue, Goto, GuardedIf, GuardedDo, Abort, Declare, Return}
use Rattle.words.specs.declared.MarkKind.TheVariants.{Case, Default, Label}
use Rattle.words.specs.declared.MemberKind.TheVariants.{Arm, Argument}
use Rattle.language.specs.Trees.{Expression, constant, read, minus, not, binary, and, or, comma, conditional, assign, compound, prefix, postfix, call, Place, variable, element, Arguments, no_more, ◌also◌, Part, absent, present, case, default, label, Statement, empty, express, block, if_then, if_else, while, do_while, for, switch, break, continue, goto, guarded_if, guarded_do, abort, declare, give_back, Arms, no_arm, arm, Items, none, ◌then◌, ◌here◌, define}

-- "A link is a row number greater than the row's own": the tree at such a link, else `other`.
abbrev pub later : {A : Type 0} → A → ℕ → (ℕ → A) → ℕ → A
later other row tree link = pick (ltb row link) (tree link) other

abbrev pub place_of : Expression → Place
place_of (constant v) = variable 0
place_of (read p) = p
place_of (minus e) = variable 0
place_of (not e) = variable 0
place_of (binary o a b) = variable 0
place_of (and a b) = variable 0
place_of (or a b) = variable 0
place_of (comma a b) = variable 0
place_of (conditional c a b) = variable 0
place_of (assign p e) = variable 0
place_of (compound o p e) = variable 0
place_of (prefix o p) = variable 0
place_of (postfix o p) = variable 0
place_of (call f arguments) = variable 0

-- The expression of a row, by its kind; `word f` is its field f (1 to 4 for a to d), `tree l` the expression at link l, `arguments l` the
-- arguments from there on.
unfoldable pub expression_of : Kind → (ℕ → ℤ) → (ℕ → Expression) → (ℕ → Arguments) → Expression
expression_of (OfExpression Constant) word tree arguments = constant (word 1)
expression_of (OfExpression Variable) word tree arguments = read (variable (natural (word 1)))
expression_of (OfExpression Element) word tree arguments = read (element (natural (word 1)) (tree (natural (word 2))))
expression_of (OfExpression Minus) word tree arguments = minus (tree (natural (word 1)))
expression_of (OfExpression Not) word tree arguments = not (tree (natural (word 1)))
expression_of (OfExpression (Binary o)) word tree arguments = binary o (tree (natural (word 1))) (tree (natural (word 2)))
expression_of (OfExpression And) word tree arguments = and (tree (natural (word 1))) (tree (natural (word 2)))
expression_of (OfExpression Or) word tree arguments = or (tree (natural (word 1))) (tree (natural (word 2)))
expression_of (OfExpression Conditional) word tree arguments = conditional (tree (natural (word 1))) (tree (natural (word 2))) (tree (natural (word 3)))
expression_of (OfExpression Comma) word tree arguments = comma (tree (natural (word 1))) (tree (natural (word 2)))
expression_of (OfExpression Assign) word tree arguments = assign (place_of (tree (natural (word 1)))) (tree (natural (word 2)))
expression_of (OfExpression (Compound o)) word tree arguments = compound o (place_of (tree (natural (word 1)))) (tree (natural (word 2)))
expression_of (OfExpression (Prefix o)) word tree arguments = prefix o (place_of (tree (natural (word 1))))
expression_of (OfExpression (Postfix o)) word tree arguments = postfix o (place_of (tree (natural (word 1))))
expression_of (OfExpression Call) word tree arguments = call (natural (word 1)) (arguments (natural (word 2)))
expression_of (OfStatement kind) word tree arguments = constant (pos 0)
expression_of (OfMark kind) word tree arguments = constant (pos 0)
expression_of (OfMember kind) word tree arguments = constant (pos 0)
expression_of Definition word tree arguments = constant (pos 0)
expression_of Other word tree arguments = constant (pos 0)

-- The arguments from a row on: its expression, and then the arguments behind it.
unfoldable pub arguments_of : Kind → Expression → Arguments → Arguments
arguments_of (OfExpression kind) e arguments = no_more
arguments_of (OfStatement kind) e arguments = no_more
arguments_of (OfMark kind) e arguments = no_more
arguments_of (OfMember Arm) e arguments = no_more
arguments_of (OfMember Argument) e arguments = e also arguments
arguments_of Definition e arguments = no_more
arguments_of Other e arguments = no_more

-- What stands at a row: an expression; and the arguments from the row on.
pub record ValueTrees : Type 0 where
  pub expression : Expression
  pub arguments : Arguments

unfoldable pub values_of : Kind → (ℕ → ℤ) → (ℕ → Expression) → (ℕ → Arguments) → ValueTrees
values_of kind word tree arguments =
    record { expression = expression_of kind word tree arguments; arguments = arguments_of kind (tree (natural (word 1))) (arguments (natural (word 5))) }

-- Links lead to later rows, so as many links as there are rows are enough.
unfoldable pub values_by : ℕ → List ℤ → ℕ → ValueTrees
values_by zero rows row = record { expression = constant (pos 0); arguments = no_more }
values_by (suc links) rows row =
    values_of (kind_at rows row) (word_at rows row)
    (later (constant (pos 0)) row (λ l. (values_by links rows l).expression)) (later no_more row (λ l. (values_by links rows l).arguments))

unfoldable pub expression_at : List ℤ → ℕ → Expression
expression_at rows row = (values_by (row_count rows) rows row).expression

unfoldable pub arguments_at : List ℤ → ℕ → Arguments
arguments_at rows row = (values_by (row_count rows) rows row).arguments

-- The words of the parameters from a row on: rows of kind 58, linked by next.
unfoldable pub parameters_by : ℕ → List ℤ → ℕ → List ℕ
parameters_by zero rows row = []
parameters_by (suc links) rows row =
    pick (is_declaration rows row) (number_at rows row 1 ∷ later [] row (parameters_by links rows) (number_at rows row 5)) []

unfoldable pub parameters_at : List ℤ → ℕ → List ℕ
parameters_at rows row = parameters_by (row_count rows) rows row

-- A part of a for: "each may be 0". Of a return: "or 0 where a is 0".
abbrev pub part_of : ℕ → Expression → Part
part_of zero e = absent
part_of (suc link) e = present e

-- An if: "c else or 0".
abbrev pub if_of : ℕ → Expression → Statement → Statement → Statement
if_of zero e on_true on_false = if_then e on_true
if_of (suc link) e on_true on_false = if_else e on_true on_false

-- The statement of a row; `expression l`, `statement l`, `items l` and `arms l` are the trees at link l.
unfoldable pub statement_of : Kind → (ℕ → ℤ) → (ℕ → Expression) → (ℕ → Statement) → (ℕ → Items) → (ℕ → Arms) → Statement
statement_of (OfExpression kind) word expression statement items arms = empty
statement_of (OfStatement Empty) word expression statement items arms = empty
statement_of (OfStatement Express) word expression statement items arms = express (expression (natural (word 1)))
statement_of (OfStatement Block) word expression statement items arms = block (items (natural (word 1)))
statement_of (OfStatement If) word expression statement items arms = if_of (natural (word 3)) (expression (natural (word 1))) (statement (natural (word 2))) (statement (natural (word 3)))
statement_of (OfStatement While) word expression statement items arms = while (expression (natural (word 1))) (statement (natural (word 2)))
statement_of (OfStatement Do) word expression statement items arms = do_while (statement (natural (word 1))) (expression (natural (word 2)))
statement_of (OfStatement For) word expression statement items arms =
    for (part_of (natural (word 1)) (expression (natural (word 1)))) (part_of (natural (word 2)) (expression (natural (word 2)))) (part_of (natural (word 3)) (expression (natural (word 3)))) (statement (natural (word 4)))
statement_of (OfStatement Switch) word expression statement items arms = switch (expression (natural (word 1))) (items (natural (word 2)))
statement_of (OfStatement Break) word expression statement items arms = break
statement_of (OfStatement Continue) word expression statement items arms = continue
statement_of (OfStatement Goto) word expression statement items arms = goto (natural (word 1))
statement_of (OfStatement GuardedIf) word expression statement items arms = guarded_if (arms (natural (word 1)))
statement_of (OfStatement GuardedDo) word expression statement items arms = guarded_do (arms (natural (word 1)))
statement_of (OfStatement Abort) word expression statement items arms = abort
statement_of (OfStatement Declare) word expression statement items arms = declare (natural (word 1)) (expression (natural (word 2)))
statement_of (OfStatement Return) word expression statement items arms = give_back (part_of (natural (word 1)) (expression (natural (word 1))))
statement_of (OfMark kind) word expression statement items arms = empty
statement_of (OfMember kind) word expression statement items arms = empty
statement_of Definition word expression statement items arms = empty
statement_of Other word expression statement items arms = empty

-- "c a block": its items.
abbrev pub block_items : Statement → Items
block_items empty = none
block_items (express e) = none
block_items (block is) = is
block_items (if_then e on_true) = none
block_items (if_else e on_true on_false) = none
block_items (while e body) = none
block_items (do_while body e) = none
block_items (for first test action body) = none
block_items (switch e is) = none
block_items break = none
block_items continue = none
block_items (goto l) = none
block_items (guarded_if arms) = none
block_items (guarded_do arms) = none
block_items abort = none
block_items (declare word e) = none
block_items (give_back value) = none

-- The list from a row on: its mark, its definition or its statement, and then the items behind it. `words` are those of the parameters of a
-- definition, `body` is what stands at its block.
unfoldable pub items_of : Kind → (ℕ → ℤ) → Statement → List ℕ → Statement → Items → Items
items_of (OfExpression kind) word statement words body items = statement then items
items_of (OfStatement kind) word statement words body items = statement then items
items_of (OfMark Case) word statement words body items = case (word 1) here items
items_of (OfMark Default) word statement words body items = default here items
items_of (OfMark Label) word statement words body items = label (natural (word 1)) here items
items_of (OfMember kind) word statement words body items = statement then items
items_of Definition word statement words body items = define (natural (word 1)) words (block_items body) items
items_of Other word statement words body items = none

-- The arms from a row on: its guard and its block, and then the arms behind it.
unfoldable pub arms_of : Kind → Expression → Statement → Arms → Arms
arms_of (OfExpression kind) guard body arms = no_arm
arms_of (OfStatement kind) guard body arms = no_arm
arms_of (OfMark kind) guard body arms = no_arm
arms_of (OfMember Arm) guard body arms = arm guard body arms
arms_of (OfMember Argument) guard body arms = no_arm
arms_of Definition guard body arms = no_arm
arms_of Other guard body arms = no_arm

-- What stands at a row: a statement; the list from the row on; and the arms from the row on.
pub record RowTrees : Type 0 where
  pub statement : Statement
  pub items : Items
  pub arms : Arms

unfoldable pub trees_of : Kind → (ℕ → ℤ) → (ℕ → Expression) → (ℕ → List ℕ) → (ℕ → Statement) → (ℕ → Items) → (ℕ → Arms) → RowTrees
trees_of kind word expression parameters statement items arms =
    let own = statement_of kind word expression statement items arms in
    record {
      statement = own;
      items = items_of kind word own (parameters (natural (word 2))) (statement (natural (word 3))) (items (natural (word 5)));
      arms = arms_of kind (expression (natural (word 1))) (statement (natural (word 2))) (arms (natural (word 5)));
    }

unfoldable pub trees_by : ℕ → List ℤ → ℕ → RowTrees
trees_by zero rows row = record { statement = empty; items = none; arms = no_arm }
trees_by (suc links) rows row =
    trees_of (kind_at rows row) (word_at rows row) (later (constant (pos 0)) row (expression_at rows)) (later [] row (parameters_at rows))
    (later empty row (λ l. (trees_by links rows l).statement)) (later none row (λ l. (trees_by links rows l).items)) (later no_arm row (λ l. (trees_by links rows l).arms))

unfoldable pub statement_at : List ℤ → ℕ → Statement
statement_at rows row = (trees_by (row_count rows) rows row).statement

unfoldable pub items_at : List ℤ → ℕ → Items
items_at rows row = (trees_by (row_count rows) rows row).items

unfoldable pub arms_at : List ℤ → ℕ → Arms
arms_at rows row = (trees_by (row_count rows) rows row).arms

-- The program that a table holds: "Row 0 is a block".
unfoldable pub decode : List ℤ → Statement
decode rows = statement_at rows 0

-- ---- trees at links that may be 0

-- Row l is absent, or later than row.
abbrev pub Forward : ℕ → ℕ → Type 0
Forward row l = 0 < l → row < l

-- The list that begins at a link; 0 is the empty list.
abbrev pub list_at : List ℤ → ℕ → Items
list_at rows zero = none
list_at rows (suc l) = items_at rows (suc l)

-- The arms that begin at a link; 0 is no arm.
abbrev pub arm_list_at : List ℤ → ℕ → Arms
arm_list_at rows zero = no_arm
arm_list_at rows (suc l) = arms_at rows (suc l)

-- The part of a for at a link; 0 is absent.
abbrev pub part_at : List ℤ → ℕ → Part
part_at rows zero = absent
part_at rows (suc l) = present (expression_at rows (suc l))

-- The arguments that begin at a link; 0 is no argument.
abbrev pub argument_list_at : List ℤ → ℕ → Arguments
argument_list_at rows zero = no_more
argument_list_at rows (suc l) = arguments_at rows (suc l)

-- The words of the parameters that begin at a link; 0 is no parameter.
abbrev pub parameter_list_at : List ℤ → ℕ → List ℕ
parameter_list_at rows zero = []
parameter_list_at rows (suc l) = parameters_at rows (suc l)
