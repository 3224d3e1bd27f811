-- Sizes: the rows and the depth of a tree. "Row 0 has 1, a row has its owner's plus 1, items of one list share theirs."
use Rattle.std.specs.Prelude.{List, [], ◌∷◌, ℕ, ◌+◌, max, length}
use Rattle.language.specs.Trees.{Expression, constant, read, minus, not, binary, and, or, comma, conditional, assign, compound, prefix, postfix, call, Place, variable, element, Arguments, no_more, ◌also◌, Part, absent, present, Statement, empty, express, block, if_then, if_else, while, do_while, for, switch, break, continue, goto, guarded_if, guarded_do, abort, declare, give_back, Arms, no_arm, arm, Items, none, ◌then◌, ◌here◌, define}

unfoldable mutual
  pub expression_rows : Expression → ℕ
  expression_rows (constant v) = 1
  expression_rows (read p) = place_rows p
  expression_rows (minus e) = 1 + expression_rows e
  expression_rows (not e) = 1 + expression_rows e
  expression_rows (binary o a b) = 1 + expression_rows a + expression_rows b
  expression_rows (and a b) = 1 + expression_rows a + expression_rows b
  expression_rows (or a b) = 1 + expression_rows a + expression_rows b
  expression_rows (comma a b) = 1 + expression_rows a + expression_rows b
  expression_rows (conditional c a b) = 1 + expression_rows c + expression_rows a + expression_rows b
  expression_rows (assign p e) = 1 + place_rows p + expression_rows e
  expression_rows (compound o p e) = 1 + place_rows p + expression_rows e
  expression_rows (prefix o p) = 1 + place_rows p
  expression_rows (postfix o p) = 1 + place_rows p
  expression_rows (call f arguments) = 1 + arguments_rows arguments

  pub place_rows : Place → ℕ
  place_rows (variable i) = 1
  place_rows (element a e) = 1 + expression_rows e

  pub arguments_rows : Arguments → ℕ
  arguments_rows no_more = 0
  arguments_rows (e also arguments) = 1 + expression_rows e + arguments_rows arguments

abbrev pub part_rows : Part → ℕ
part_rows absent = 0
part_rows (present e) = expression_rows e

unfoldable mutual
  pub statement_rows : Statement → ℕ
  statement_rows empty = 1
  statement_rows (express e) = 1 + expression_rows e
  statement_rows (block is) = 1 + items_rows is
  statement_rows (if_then e on_true) = 1 + expression_rows e + statement_rows on_true
  statement_rows (if_else e on_true on_false) = 1 + expression_rows e + statement_rows on_true + statement_rows on_false
  statement_rows (while e body) = 1 + expression_rows e + statement_rows body
  statement_rows (do_while body e) = 1 + expression_rows e + statement_rows body
  statement_rows (for first test action body) = 1 + part_rows first + part_rows test + part_rows action + statement_rows body
  statement_rows (switch e is) = 1 + expression_rows e + items_rows is
  statement_rows break = 1
  statement_rows continue = 1
  statement_rows (goto l) = 1
  statement_rows (guarded_if arms) = 1 + arms_rows arms
  statement_rows (guarded_do arms) = 1 + arms_rows arms
  statement_rows abort = 1
  statement_rows (declare word e) = 1 + expression_rows e
  statement_rows (give_back value) = 1 + part_rows value

  pub arms_rows : Arms → ℕ
  arms_rows no_arm = 0
  arms_rows (arm guard body arms) = 1 + expression_rows guard + statement_rows body + arms_rows arms

  pub items_rows : Items → ℕ
  items_rows none = 0
  items_rows (s then is) = statement_rows s + items_rows is
  items_rows (m here is) = 1 + items_rows is
  items_rows (define f words body is) = 2 + length words + items_rows body + items_rows is

unfoldable mutual
  pub expression_depth : Expression → ℕ
  expression_depth (constant v) = 1
  expression_depth (read p) = place_depth p
  expression_depth (minus e) = 1 + expression_depth e
  expression_depth (not e) = 1 + expression_depth e
  expression_depth (binary o a b) = 1 + max (expression_depth a) (expression_depth b)
  expression_depth (and a b) = 1 + max (expression_depth a) (expression_depth b)
  expression_depth (or a b) = 1 + max (expression_depth a) (expression_depth b)
  expression_depth (comma a b) = 1 + max (expression_depth a) (expression_depth b)
  expression_depth (conditional c a b) = 1 + max (expression_depth c) (max (expression_depth a) (expression_depth b))
  expression_depth (assign p e) = 1 + max (place_depth p) (expression_depth e)
  expression_depth (compound o p e) = 1 + max (place_depth p) (expression_depth e)
  expression_depth (prefix o p) = 1 + place_depth p
  expression_depth (postfix o p) = 1 + place_depth p
  expression_depth (call f arguments) = 1 + arguments_depth arguments

  pub place_depth : Place → ℕ
  place_depth (variable i) = 1
  place_depth (element a e) = 1 + expression_depth e

  -- Arguments share their depth, as items do.
  pub arguments_depth : Arguments → ℕ
  arguments_depth no_more = 0
  arguments_depth (e also arguments) = max (1 + expression_depth e) (arguments_depth arguments)

-- Parameters share theirs.
abbrev pub parameters_depth : List ℕ → ℕ
parameters_depth [] = 0
parameters_depth (word ∷ words) = 1

abbrev pub part_depth : Part → ℕ
part_depth absent = 0
part_depth (present e) = expression_depth e

unfoldable mutual
  pub statement_depth : Statement → ℕ
  statement_depth empty = 1
  statement_depth (express e) = 1 + expression_depth e
  statement_depth (block is) = 1 + items_depth is
  statement_depth (if_then e on_true) = 1 + max (expression_depth e) (statement_depth on_true)
  statement_depth (if_else e on_true on_false) = 1 + max (expression_depth e) (max (statement_depth on_true) (statement_depth on_false))
  statement_depth (while e body) = 1 + max (expression_depth e) (statement_depth body)
  statement_depth (do_while body e) = 1 + max (expression_depth e) (statement_depth body)
  statement_depth (for first test action body) = 1 + max (max (part_depth first) (part_depth test)) (max (part_depth action) (statement_depth body))
  statement_depth (switch e is) = 1 + max (expression_depth e) (items_depth is)
  statement_depth break = 1
  statement_depth continue = 1
  statement_depth (goto l) = 1
  statement_depth (guarded_if arms) = 1 + arms_depth arms
  statement_depth (guarded_do arms) = 1 + arms_depth arms
  statement_depth abort = 1
  statement_depth (declare word e) = 1 + expression_depth e
  statement_depth (give_back value) = 1 + part_depth value

  -- Arms share their depth, as items do.
  pub arms_depth : Arms → ℕ
  arms_depth no_arm = 0
  arms_depth (arm guard body arms) = max (1 + max (expression_depth guard) (statement_depth body)) (arms_depth arms)

  pub items_depth : Items → ℕ
  items_depth none = 0
  items_depth (s then is) = max (statement_depth s) (items_depth is)
  items_depth (m here is) = max 1 (items_depth is)
  items_depth (define f words body is) = max (1 + max (parameters_depth words) (1 + items_depth body)) (items_depth is)
