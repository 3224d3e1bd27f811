-- Emitted trees: where the rows of a tree of the kernel's kinds stand in a table. The relations are made once, from the words that
-- emission gives (`emitted`); each law of emitted tables is then an induction over them.
use Rattle.std.specs.Prelude.{◌≡◌, refl, false, List, [], ◌∷◌, ◌++◌, ℕ, ◌+◌, ◌*◌, ◌≤◌, ◌<◌, ℤ, pos, length, get_or}
use Rattle.std.proofs.Common.{ap, ◌∙◌, zero-add, arith, length-append, get_or-append-add}
use Rattle.std.proofs.Math.ListN.{get_or-append}
use Rattle.words.specs.Word.{natural}
use Rattle.words.specs.Table.{row_count, word_at, number_at}
use Rattle.words.specs.declared.Operator.{Operator}
use Rattle.language.specs.Trees.{Expression, constant, read, minus, binary, assign, call, Place, variable, element, Arguments, no_more, ◌also◌, present, label, Statement, empty, express, block, if_else, while, goto, abort, give_back, Items, none, ◌then◌, ◌here◌, define}
use Rattle.language.specs.Sizes.{expression_rows, place_rows, statement_rows, items_rows}
use Rattle.language_emission.specs.Emission.{row_of, operator_number, arguments_link, emit_expression, emit_place, emit_arguments, list_link, parameters_link, emit_parameters, emit_statement, emit_items, emit}
use Rattle.language_emission.specs.EmissionLaws.{length-expression, length-place, length-parameters, length-statement, length-items}
use Rattle.language_emission.specs.KernelKinds.{ExpressionInKernel, a-constant, a_read, a-minus, a-binary, an-assign, a_call, PlaceInKernel, a-variable, an-element, ArgumentsInKernel, no_arguments, an-argument, StatementInKernel, an-empty, an-express, a_block, an-if, a-while, a-goto, an-abort, a-return, ItemsInKernel, no_items, a-statement, a-label, a-definition}

-- ---- the relations

-- A row of the table, by the numbers of its fields.
pub record Row (rows : List ℤ) (row kind a b c d next : ℕ) : Type 0 where
  pub inside : row < row_count rows
  pub kind_is : number_at rows row 0 ≡ kind
  pub a_is : number_at rows row 1 ≡ a
  pub b_is : number_at rows row 2 ≡ b
  pub c_is : number_at rows row 3 ≡ c
  pub d_is : number_at rows row 4 ≡ d
  pub next_is : number_at rows row 5 ≡ next

mutual
  -- The rows of an expression stand from the row `base` on.
  pub data EmittedExpression (rows : List ℤ) : Expression → ℕ → Type 0 where
    constant-at : {v : ℤ} {base : ℕ} → Row rows base 1 (natural v) 0 0 0 0 → word_at rows base 1 ≡ v → EmittedExpression rows (constant v) base
    read_at : {p : Place} {base : ℕ} → EmittedPlace rows p base → EmittedExpression rows (read p) base
    minus-at : {e : Expression} {base : ℕ} → Row rows base 4 (base + 1) 0 0 0 0 → EmittedExpression rows e (base + 1) → EmittedExpression rows (minus e) base
    binary-at : {o : Operator} {a b : Expression} {base : ℕ} → Row rows base (6 + operator_number o) (base + 1) (base + 1 + expression_rows a) 0 0 0
        → EmittedExpression rows a (base + 1) → EmittedExpression rows b (base + 1 + expression_rows a) → EmittedExpression rows (binary o a b) base
    assign-at : {p : Place} {e : Expression} {base : ℕ} → Row rows base 21 (base + 1) (base + 1 + place_rows p) 0 0 0
        → EmittedPlace rows p (base + 1) → EmittedExpression rows e (base + 1 + place_rows p) → EmittedExpression rows (assign p e) base
    call_at : {f : ℕ} {arguments : Arguments} {base : ℕ} → Row rows base 31 f (arguments_link arguments (base + 1)) 0 0 0 → EmittedArguments rows arguments (base + 1)
        → EmittedExpression rows (call f arguments) base

  pub data EmittedPlace (rows : List ℤ) : Place → ℕ → Type 0 where
    variable-at : {i base : ℕ} → Row rows base 2 i 0 0 0 0 → EmittedPlace rows (variable i) base
    element-at : {array : ℕ} {e : Expression} {base : ℕ} → Row rows base 3 array (base + 1) 0 0 0 → EmittedExpression rows e (base + 1) → EmittedPlace rows (element array e) base

  pub data EmittedArguments (rows : List ℤ) : Arguments → ℕ → Type 0 where
    no-more-at : {base : ℕ} → EmittedArguments rows no_more base
    argument-at : {e : Expression} {arguments : Arguments} {base : ℕ} → Row rows base 32 (base + 1) 0 0 0 (arguments_link arguments (base + 1 + expression_rows e))
        → EmittedExpression rows e (base + 1) → EmittedArguments rows arguments (base + 1 + expression_rows e) → EmittedArguments rows (e also arguments) base

-- The rows of parameters.
pub data EmittedParameters (rows : List ℤ) : List ℕ → ℕ → Type 0 where
  no_parameter_at : {base : ℕ} → EmittedParameters rows [] base
  parameter-at : {word : ℕ} {words : List ℕ} {base : ℕ} → Row rows base 58 word 0 0 0 (parameters_link words (base + 1)) → EmittedParameters rows words (base + 1)
      → EmittedParameters rows (word ∷ words) base

mutual
  -- The rows of a statement stand from the row `base` on; `next` is its own next field.
  pub data EmittedStatement (rows : List ℤ) : Statement → ℕ → ℕ → Type 0 where
    empty-at : {base next : ℕ} → Row rows base 40 0 0 0 0 next → EmittedStatement rows empty base next
    express-at : {e : Expression} {base next : ℕ} → Row rows base 41 (base + 1) 0 0 0 next → EmittedExpression rows e (base + 1) → EmittedStatement rows (express e) base next
    block_at : {is : Items} {base next : ℕ} → Row rows base 42 (list_link false is (base + 1)) 0 0 0 next → EmittedItems rows is (base + 1) → EmittedStatement rows (block is) base next
    if-at : {e : Expression} {on_true on_false : Statement} {base next : ℕ}
        → Row rows base 43 (base + 1) (base + 1 + expression_rows e) (base + 1 + expression_rows e + statement_rows on_true) 0 next → EmittedExpression rows e (base + 1)
        → EmittedStatement rows on_true (base + 1 + expression_rows e) 0 → EmittedStatement rows on_false (base + 1 + expression_rows e + statement_rows on_true) 0
        → EmittedStatement rows (if_else e on_true on_false) base next
    while-at : {e : Expression} {body : Statement} {base next : ℕ} → Row rows base 44 (base + 1) (base + 1 + expression_rows e) 0 0 next
        → EmittedExpression rows e (base + 1) → EmittedStatement rows body (base + 1 + expression_rows e) 0 → EmittedStatement rows (while e body) base next
    goto-at : {l base next : ℕ} → Row rows base 52 l 0 0 0 next → EmittedStatement rows (goto l) base next
    abort-at : {base next : ℕ} → Row rows base 57 0 0 0 0 next → EmittedStatement rows abort base next
    return-at : {e : Expression} {base next : ℕ} → Row rows base 60 (base + 1) 0 0 0 next → EmittedExpression rows e (base + 1) → EmittedStatement rows (give_back (present e)) base next

  -- The rows of a list.
  pub data EmittedItems (rows : List ℤ) : Items → ℕ → Type 0 where
    none-at : {base : ℕ} → EmittedItems rows none base
    then_at : {s : Statement} {is : Items} {base : ℕ} → EmittedStatement rows s base (list_link false is (base + statement_rows s)) → EmittedItems rows is (base + statement_rows s)
        → EmittedItems rows (s then is) base
    label_at : {l : ℕ} {is : Items} {base : ℕ} → Row rows base 53 l 0 0 0 (list_link false is (base + 1)) → EmittedItems rows is (base + 1) → EmittedItems rows (label l here is) base
    define-at : {f : ℕ} {words : List ℕ} {body is : Items} {base : ℕ}
        → Row rows base 59 f (parameters_link words (base + 1)) (base + 1 + length words) 0 (list_link false is (base + 1 + length words + 1 + items_rows body))
        → EmittedParameters rows words (base + 1) → EmittedStatement rows (block body) (base + 1 + length words) 0 → EmittedItems rows is (base + 1 + length words + 1 + items_rows body)
        → EmittedItems rows (define f words body is) base
