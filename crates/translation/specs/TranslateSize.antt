-- Sizes: the kernel rows that come of a source tree, a clause a kind.
use Rattle.std.specs.Prelude.{Bool, ℕ, ◌+◌, ◌*◌, ◌-◌, max, length}
use Rattle.words.specs.Word.{pick}
use Rattle.language.specs.Trees.{Expression, constant, read, minus, not, binary, and, or, comma, conditional, assign, compound, prefix, postfix, call, Place, variable, element, Arguments, no_more, ◌also◌, Part, absent, present, case, default, label, Statement, empty, express, block, if_then, if_else, while, do_while, for, switch, break, continue, goto, guarded_if, guarded_do, abort, declare, give_back, Arms, no_arm, arm, Items, none, ◌then◌, ◌here◌, define}
use Rattle.language.specs.Writes.{writes, index_writes}
use Rattle.language.specs.Calls.{argument_count}
use Rattle.translation.specs.Uses.{use_for, passed_on, direct}
use Rattle.translation.specs.declared.Use.{Use}
use Rattle.translation.specs.declared.Use.TheVariants.{Dropped as dropped, Wanted as wanted, Stored as stored}
use Rattle.translation.specs.Translate.{Atom, number, word, top, held, together, nothing, landed, atom_of, taken}

-- The rows below a kernel place's own: its index.
abbrev pub index_rows : Place → ℕ
index_rows (variable i) = 0
index_rows (element array e) = 1

-- The rows that copy an atom's value into its temporary.
abbrev pub copy_rows : Atom → ℕ
copy_rows (number v) = 4
copy_rows (word i) = 4
copy_rows top = 0

-- 1 where a waiting value is copied: it takes a temporary, and did not before. And the rows of the copy.
abbrev pub copied : Atom → (ℕ → Bool) → ℕ
copied h W = taken (held h W) - taken h

abbrev pub hold_rows : Atom → (ℕ → Bool) → ℕ
hold_rows h W = 4 * copied h W

-- The rows that store a value: none where it went straight into its variable.
abbrev pub store_rows : Place → Bool → ℕ
store_rows (variable i) straight = pick straight 0 4
store_rows (element array e) straight = 5

abbrev pub update_rows : Place → ℕ
update_rows (variable i) = 6
update_rows (element array e) = 16

-- e++ and e−−: on a variable one assignment where the old value is not used, else two.
abbrev pub step_rows : Use → ℕ
step_rows dropped = 6
step_rows wanted = 10
step_rows (stored i) = 10

abbrev pub postfix_rows : Place → Use → ℕ
postfix_rows (variable i) u = step_rows u
postfix_rows (element array e) u = 16

-- The cases of a switch; each brings a test of 11 rows, besides its label.
abbrev pub cases : Items → ℕ
cases none = 0
cases (s then is) = cases is
cases (case v here is) = 1 + cases is
cases (default here is) = cases is
cases (label l here is) = cases is
cases (define f words body is) = cases is

-- The own rows of a guarded do: the loop, its test and block, a goto and two labels; without arms an empty statement.
abbrev pub rounds_rows : Arms → ℕ
rounds_rows no_arm = 1
rounds_rows (arm e s arms) = 6

-- `called f i`: whether function f can write the variable i.
module _ (called : ℕ → ℕ → Bool) where
  -- The kernel rows that an expression's own row brings, beyond those of its parts.
  abbrev pub own_rows : Expression → Use → ℕ
  own_rows (constant v) u = 0
  own_rows (read p) u = 5 * index_rows p
  own_rows (minus e) u = 5
  own_rows (not e) u = 6
  own_rows (binary operator a b) u = 6 + hold_rows (atom_of called b) (writes called a)
  own_rows (and a b) u = 14
  own_rows (or a b) u = 14
  own_rows (comma a b) u = 0
  own_rows (conditional c a b) u = 4 + copy_rows (atom_of called a) + copy_rows (atom_of called b)
  own_rows (assign p e) u = store_rows p (direct e) + hold_rows (landed p (direct e) (atom_of called e)) (index_writes called p)
  own_rows (compound operator p e) u = update_rows p + hold_rows (atom_of called e) (index_writes called p)
  own_rows (prefix operator p) u = update_rows p
  own_rows (postfix operator p) u = postfix_rows p u
  own_rows (call f arguments) u = 4 + 2 * argument_count arguments

  unfoldable mutual
    pub expression_size : Expression → Use → ℕ
    expression_size (constant v) u = 0
    expression_size (read p) u = own_rows (read p) u + index_size p
    expression_size (minus e) u = own_rows (minus e) u + expression_size e wanted
    expression_size (not e) u = own_rows (not e) u + expression_size e wanted
    expression_size (binary operator a b) u = own_rows (binary operator a b) u + expression_size a wanted + expression_size b wanted
    expression_size (and a b) u = own_rows (and a b) u + expression_size a wanted + expression_size b wanted
    expression_size (or a b) u = own_rows (or a b) u + expression_size a wanted + expression_size b wanted
    expression_size (comma a b) u = expression_size a dropped + expression_size b (passed_on u)
    expression_size (conditional c a b) u = own_rows (conditional c a b) u + expression_size c wanted + expression_size a wanted + expression_size b wanted
    expression_size (assign p e) u = own_rows (assign p e) u + index_size p + expression_size e (use_for p)
    expression_size (compound operator p e) u = own_rows (compound operator p e) u + index_size p + expression_size e wanted
    expression_size (prefix operator p) u = own_rows (prefix operator p) u + index_size p
    expression_size (postfix operator p) u = own_rows (postfix operator p) u + index_size p
    expression_size (call f arguments) u = own_rows (call f arguments) u + arguments_size arguments nothing

    pub index_size : Place → ℕ
    index_size (variable i) = 0
    index_size (element array e) = expression_size e wanted

    -- An argument's row brings its copy.
    pub arguments_size : Arguments → (ℕ → Bool) → ℕ
    arguments_size no_more W = 0
    arguments_size (e also arguments) W = hold_rows (atom_of called e) W + expression_size e wanted + arguments_size arguments (together (writes called e) W)

  -- An expression that may be absent; and a part of a for.
  abbrev pub operand_size : Part → Use → ℕ
  operand_size absent u = 0
  operand_size (present e) u = expression_size e u

  abbrev pub part_size : Part → ℕ
  part_size part = operand_size part dropped

  -- A loop's test: its code, the if, its atom, two blocks and a goto.
  abbrev pub test_size : Part → ℕ
  test_size absent = 0
  test_size (present e) = expression_size e wanted + 5

  unfoldable mutual
    pub statement_size : Statement → ℕ
    statement_size empty = 1
    statement_size (express e) = max 1 (expression_size e dropped)
    statement_size (block is) = 1 + items_size is
    statement_size (if_then e on_true) = 4 + expression_size e wanted + statement_size on_true
    statement_size (if_else e on_true on_false) = 4 + expression_size e wanted + statement_size on_true + statement_size on_false
    statement_size (while e body) = 10 + expression_size e wanted + statement_size body
    statement_size (do_while body e) = 10 + expression_size e wanted + statement_size body
    statement_size (for first test action body) = 5 + part_size first + test_size test + part_size action + statement_size body
    statement_size (switch e is) = 2 + expression_size e wanted + 11 * cases is + items_size is
    statement_size break = 1
    statement_size continue = 1
    statement_size (goto l) = 1
    statement_size (guarded_if arms) = 2 + arms_size arms
    statement_size (guarded_do arms) = rounds_rows arms + arms_size arms
    statement_size abort = 1
    statement_size (declare i e) = store_rows (variable i) (direct e) + expression_size e (stored i)
    statement_size (give_back value) = 2 + operand_size value wanted

    -- An arm brings an if with its atom and two blocks, and a goto.
    pub arms_size : Arms → ℕ
    arms_size no_arm = 0
    arms_size (arm e s arms) = 5 + expression_size e wanted + statement_size s + arms_size arms

    pub items_size : Items → ℕ
    items_size none = 0
    items_size (s then is) = statement_size s + items_size is
    items_size (m here is) = 1 + items_size is
    items_size (define f words body is) = items_size is

  -- A definition brings its row, those of its parameters, its block's row and the rows of its block.
  unfoldable pub program_size : Items → ℕ
  program_size none = items_size none
  program_size (s then is) = items_size (s then is)
  program_size (m here is) = items_size (m here is)
  program_size (define f words body is) = 2 + length words + items_size body + program_size is
