-- Code: the flat list of a kernel tree, and its exact size. An operation, a goto, an abort and a loop's way back have one line each; a test has one
-- where it is needed; empty statements, blocks and labels have none. "The flat list refuses functions": of a program with functions nothing is said.
use Rattle.std.specs.Prelude.{Bool, true, false, List, [], ◌∷◌, ◌++◌, ℕ, zero, suc, ◌+◌, pos}
use Rattle.arithmetic.specs.Arithmetic.{is_true}
use Rattle.language.specs.Trees.{Expression, constant, read, minus, not, binary, and, or, comma, conditional, assign, compound, prefix, postfix, Place, variable, element, Statement, empty, express, block, if_then, if_else, while, do_while, for, switch, break, continue, goto, guarded_if, guarded_do, abort, declare, Items, none, ◌then◌, ◌here◌, call, give_back, define}
use Rattle.flat.specs.Lines.{Operand, number, word, Operation, copy, minus as negate, operate, fetch, put, FlatLine, does, jump, jump_zero, jump_other, abort as abort_line}

-- An atom; every other expression is none.
abbrev pub place_operand : Place → Operand
place_operand (variable i) = word i
place_operand (element array e) = number (pos 0)

abbrev pub operand_of : Expression → Operand
operand_of (constant v) = number v
operand_of (read p) = place_operand p
operand_of (minus e) = number (pos 0)
operand_of (not e) = number (pos 0)
operand_of (binary o a b) = number (pos 0)
operand_of (and a b) = number (pos 0)
operand_of (or a b) = number (pos 0)
operand_of (comma a b) = number (pos 0)
operand_of (conditional c a b) = number (pos 0)
operand_of (assign p e) = number (pos 0)
operand_of (compound o p e) = number (pos 0)
operand_of (prefix o p) = number (pos 0)
operand_of (postfix o p) = number (pos 0)
operand_of (call f arguments) = number (pos 0)

-- What is read into the variable i.
abbrev pub reading : ℕ → Place → Operation
reading i (variable j) = copy i (word j)
reading i (element array e) = fetch i array (operand_of e)

-- What is assigned to the variable i.
abbrev pub assigned : ℕ → Expression → Operation
assigned i (constant v) = copy i (number v)
assigned i (read p) = reading i p
assigned i (minus e) = negate i (operand_of e)
assigned i (not e) = copy i (number (pos 0))
assigned i (binary o a b) = operate o i (operand_of a) (operand_of b)
assigned i (and a b) = copy i (number (pos 0))
assigned i (or a b) = copy i (number (pos 0))
assigned i (comma a b) = copy i (number (pos 0))
assigned i (conditional c a b) = copy i (number (pos 0))
assigned i (assign p e) = copy i (number (pos 0))
assigned i (compound o p e) = copy i (number (pos 0))
assigned i (prefix o p) = copy i (number (pos 0))
assigned i (postfix o p) = copy i (number (pos 0))
assigned i (call f arguments) = copy i (number (pos 0))

abbrev pub assigning : Place → Expression → Operation
assigning (variable i) e = assigned i e
assigning (element array index) e = put array (operand_of index) (operand_of e)

abbrev pub operation_of : Expression → Operation
operation_of (assign p e) = assigning p e
operation_of (constant v) = copy 0 (number (pos 0))
operation_of (read p) = copy 0 (number (pos 0))
operation_of (minus e) = copy 0 (number (pos 0))
operation_of (not e) = copy 0 (number (pos 0))
operation_of (binary o a b) = copy 0 (number (pos 0))
operation_of (and a b) = copy 0 (number (pos 0))
operation_of (or a b) = copy 0 (number (pos 0))
operation_of (comma a b) = copy 0 (number (pos 0))
operation_of (conditional c a b) = copy 0 (number (pos 0))
operation_of (compound o p e) = copy 0 (number (pos 0))
operation_of (prefix o p) = copy 0 (number (pos 0))
operation_of (postfix o p) = copy 0 (number (pos 0))
operation_of (call f arguments) = copy 0 (number (pos 0))

-- A test that always holds has no line.
abbrev pub always : Operand → Bool
always (number v) = is_true v
always (word i) = false

-- ---- sizes, from those of the parts

-- An if: the test, where a branch has a line; a jump over the second branch, where both have.
abbrev pub if_lines : ℕ → ℕ → ℕ
if_lines zero zero = 0
if_lines zero (suc q) = 1 + suc q
if_lines (suc p) zero = 1 + suc p
if_lines (suc p) (suc q) = 2 + (suc p + suc q)

-- A while: the body and the jump back; before them the test, unless it always holds.
abbrev pub while_lines : Bool → ℕ → ℕ
while_lines true p = p + 1
while_lines false p = p + 2

unfoldable mutual
  pub statement_lines : Statement → ℕ
  statement_lines empty = 0
  statement_lines (express e) = 1
  statement_lines (block is) = items_lines is
  statement_lines (if_then e on_true) = 0
  statement_lines (if_else e on_true on_false) = if_lines (statement_lines on_true) (statement_lines on_false)
  statement_lines (while e body) = while_lines (always (operand_of e)) (statement_lines body)
  statement_lines (do_while body e) = 0
  statement_lines (for first test action body) = 0
  statement_lines (switch e is) = 0
  statement_lines break = 0
  statement_lines continue = 0
  statement_lines (goto l) = 1
  statement_lines (guarded_if arms) = 0
  statement_lines (guarded_do arms) = 0
  statement_lines abort = 1
  statement_lines (declare i e) = 0
  statement_lines (give_back value) = 0

  pub items_lines : Items → ℕ
  items_lines none = 0
  items_lines (s then is) = statement_lines s + items_lines is
  items_lines (m here is) = items_lines is
  items_lines (define f words body is) = items_lines is

-- ---- code

-- An if whose branches have p and q lines, from line i on.
abbrev pub if_code : Operand → ℕ → ℕ → ℕ → (ℕ → List FlatLine) → (ℕ → List FlatLine) → List FlatLine
if_code a zero zero i first second = []
if_code a zero (suc q) i first second = jump_other a (i + (1 + suc q)) ∷ second (i + 1)
if_code a (suc p) zero i first second = jump_zero a (i + (1 + suc p)) ∷ first (i + 1)
if_code a (suc p) (suc q) i first second = jump_zero a (i + (2 + suc p)) ∷ (first (i + 1) ++ (jump (i + (2 + (suc p + suc q))) ∷ second (i + (2 + suc p))))

abbrev pub while_code : Bool → Operand → ℕ → ℕ → (ℕ → List FlatLine) → List FlatLine
while_code true a p i body = body i ++ (jump i ∷ [])
while_code false a p i body = jump_zero a (i + (p + 2)) ∷ (body (i + 1) ++ (jump i ∷ []))

module _ (address : ℕ → ℕ) where
  unfoldable mutual
    pub statement_code : Statement → ℕ → List FlatLine
    statement_code empty i = []
    statement_code (express e) i = does (operation_of e) ∷ []
    statement_code (block is) i = items_code is i
    statement_code (if_then e on_true) i = []
    statement_code (if_else e on_true on_false) i = if_code (operand_of e) (statement_lines on_true) (statement_lines on_false) i (λ j. statement_code on_true j) (λ j. statement_code on_false j)
    statement_code (while e body) i = while_code (always (operand_of e)) (operand_of e) (statement_lines body) i (λ j. statement_code body j)
    statement_code (do_while body e) i = []
    statement_code (for first test action body) i = []
    statement_code (switch e is) i = []
    statement_code break i = []
    statement_code continue i = []
    statement_code (goto l) i = jump (address l) ∷ []
    statement_code (guarded_if arms) i = []
    statement_code (guarded_do arms) i = []
    statement_code abort i = abort_line ∷ []
    statement_code (declare j e) i = []
    statement_code (give_back value) i = []

    pub items_code : Items → ℕ → List FlatLine
    items_code none i = []
    items_code (s then is) i = statement_code s i ++ items_code is (i + statement_lines s)
    items_code (m here is) i = items_code is i
    items_code (define f words body is) i = items_code is i
