-- Trees of the kernel's kinds: constant, variable, element, minus, kinds 6 to 16, assign, call; empty, expression statement, block, if with
-- both branches, while, goto, abort, return of a value; label the only mark; definitions.
use Rattle.std.specs.Prelude.{List, ℕ, ℤ}
use Rattle.words.specs.declared.Operator.{Operator}
use Rattle.language.specs.Trees.{Expression, constant, read, minus, binary, assign, call, Place, variable, element, Arguments, no_more, ◌also◌, present, label, Statement, empty, express, block, if_else, while, goto, abort, give_back, Items, none, ◌then◌, ◌here◌, define}

mutual
  pub data ExpressionInKernel : Expression → Type 0 where
    a-constant : {v : ℤ} → ExpressionInKernel (constant v)
    a_read : {p : Place} → PlaceInKernel p → ExpressionInKernel (read p)
    a-minus : {e : Expression} → ExpressionInKernel e → ExpressionInKernel (minus e)
    a-binary : {o : Operator} {a b : Expression} → ExpressionInKernel a → ExpressionInKernel b → ExpressionInKernel (binary o a b)
    an-assign : {p : Place} {e : Expression} → PlaceInKernel p → ExpressionInKernel e → ExpressionInKernel (assign p e)
    a_call : {f : ℕ} {arguments : Arguments} → ArgumentsInKernel arguments → ExpressionInKernel (call f arguments)

  pub data PlaceInKernel : Place → Type 0 where
    a-variable : {i : ℕ} → PlaceInKernel (variable i)
    an-element : {array : ℕ} {e : Expression} → ExpressionInKernel e → PlaceInKernel (element array e)

  pub data ArgumentsInKernel : Arguments → Type 0 where
    no_arguments : ArgumentsInKernel no_more
    an-argument : {e : Expression} {arguments : Arguments} → ExpressionInKernel e → ArgumentsInKernel arguments → ArgumentsInKernel (e also arguments)

mutual
  pub data StatementInKernel : Statement → Type 0 where
    an-empty : StatementInKernel empty
    an-express : {e : Expression} → ExpressionInKernel e → StatementInKernel (express e)
    a_block : {is : Items} → ItemsInKernel is → StatementInKernel (block is)
    an-if : {e : Expression} {on_true on_false : Statement} → ExpressionInKernel e → StatementInKernel on_true → StatementInKernel on_false → StatementInKernel (if_else e on_true on_false)
    a-while : {e : Expression} {body : Statement} → ExpressionInKernel e → StatementInKernel body → StatementInKernel (while e body)
    a-goto : {l : ℕ} → StatementInKernel (goto l)
    an-abort : StatementInKernel abort
    a-return : {e : Expression} → ExpressionInKernel e → StatementInKernel (give_back (present e))

  pub data ItemsInKernel : Items → Type 0 where
    no_items : ItemsInKernel none
    a-statement : {s : Statement} {is : Items} → StatementInKernel s → ItemsInKernel is → ItemsInKernel (s then is)
    a-label : {l : ℕ} {is : Items} → ItemsInKernel is → ItemsInKernel (label l here is)
    a-definition : {f : ℕ} {words : List ℕ} {body is : Items} → ItemsInKernel body → ItemsInKernel is → ItemsInKernel (define f words body is)
