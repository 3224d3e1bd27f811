-- Levels: how many lines there are does not hang on the level.
use Rattle.std.specs.Prelude.{◌≡◌, refl, List, [], ◌∷◌, ◌++◌, ℕ, ◌+◌, length}
use Rattle.std.proofs.Common.{arith, length-append}
use Rattle.language.specs.Trees.{Expression, constant, read, minus, not, binary, and, or, comma, conditional, assign, compound, prefix, postfix, call, Place, Arguments, no_more, ◌also◌, Statement, empty, express, block, if_then, if_else, while, do_while, for, switch, break, continue, goto, guarded_if, guarded_do, abort, declare, give_back, Items, none, ◌then◌, ◌here◌, define}
use Rattle.language.specs.Calls.{argument_count}
use Rattle.page.specs.Lines.{indented, closes, turns, argument_lines, assigned_lines, expression_lines, parameter_lines, definition_lines, statement_lines, branch_lines, items_lines}

-- ---- calls and definitions

pub argument-lines-count : (level : ℕ) (e : Expression) (arguments : Arguments) → length (argument_lines level e arguments) ≡ argument_count arguments + 1
unfolding argument_lines argument_count
argument-lines-count level e no_more = refl
argument-lines-count level e (next also arguments) = omega (arith, argument-lines-count level next arguments)

assigned-level : (l k : ℕ) (p : Place) (e : Expression) → length (assigned_lines l p e) ≡ length (assigned_lines k p e)
assigned-level l k p (call f (e also arguments)) = omega (arith, argument-lines-count l e arguments, argument-lines-count k e arguments)
assigned-level l k p (call f no_more) = refl
assigned-level l k p (constant v) = refl
assigned-level l k p (read q) = refl
assigned-level l k p (minus e) = refl
assigned-level l k p (not e) = refl
assigned-level l k p (binary o a b) = refl
assigned-level l k p (and a b) = refl
assigned-level l k p (or a b) = refl
assigned-level l k p (comma a b) = refl
assigned-level l k p (conditional c a b) = refl
assigned-level l k p (assign q e) = refl
assigned-level l k p (compound o q e) = refl
assigned-level l k p (prefix o q) = refl
assigned-level l k p (postfix o q) = refl

expression-level : (l k : ℕ) (e : Expression) → length (expression_lines l e) ≡ length (expression_lines k e)
expression-level l k (assign p e) = assigned-level l k p e
expression-level l k (constant v) = refl
expression-level l k (read q) = refl
expression-level l k (minus e) = refl
expression-level l k (not e) = refl
expression-level l k (binary o a b) = refl
expression-level l k (and a b) = refl
expression-level l k (or a b) = refl
expression-level l k (comma a b) = refl
expression-level l k (conditional c a b) = refl
expression-level l k (compound o q e) = refl
expression-level l k (prefix o q) = refl
expression-level l k (postfix o q) = refl
expression-level l k (call f arguments) = refl

parameter-count : (level word : ℕ) (words : List ℕ) → length (parameter_lines level word words) ≡ length words + 1
unfolding parameter_lines
parameter-count level word [] = refl
parameter-count level word (next ∷ words) = omega (arith, parameter-count level next words)

pub definition-count : (level f : ℕ) (words : List ℕ) → length (definition_lines level f words) ≡ length words + 1
definition-count level f [] = refl
definition-count level f (word ∷ words) = omega (arith, parameter-count level word words)

-- ---- statements and lists

mutual
  unfolding statement_lines

  statement-level : (l k : ℕ) (s : Statement) → length (statement_lines l s) ≡ length (statement_lines k s)
  statement-level l k empty = refl
  statement-level l k (express e) = expression-level l k e
  statement-level l k (block is) =
      omega (arith, length-append (items_lines (l + 1) is) (indented l closes ∷ []), length-append (items_lines (k + 1) is) (indented k closes ∷ []), items-level (l + 1) (k + 1) is)
  statement-level l k (if_then e on_true) = refl
  statement-level l k (if_else e on_true on_false) =
      omega (
        arith,
        length-append (branch_lines (l + 1) on_true) (indented l turns ∷ (branch_lines (l + 1) on_false ++ (indented l closes ∷ []))),
        length-append (branch_lines (l + 1) on_false) (indented l closes ∷ []),
        length-append (branch_lines (k + 1) on_true) (indented k turns ∷ (branch_lines (k + 1) on_false ++ (indented k closes ∷ []))),
        length-append (branch_lines (k + 1) on_false) (indented k closes ∷ []),
        branch-level (l + 1) (k + 1) on_true,
        branch-level (l + 1) (k + 1) on_false,
      )
  statement-level l k (while e body) =
      omega (arith, length-append (branch_lines (l + 1) body) (indented l closes ∷ []), length-append (branch_lines (k + 1) body) (indented k closes ∷ []), branch-level (l + 1) (k + 1) body)
  statement-level l k (do_while body e) = refl
  statement-level l k (for first test action body) = refl
  statement-level l k (switch e is) = refl
  statement-level l k break = refl
  statement-level l k continue = refl
  statement-level l k (goto n) = refl
  statement-level l k (guarded_if arms) = refl
  statement-level l k (guarded_do arms) = refl
  statement-level l k abort = refl
  statement-level l k (declare word e) = refl
  statement-level l k (give_back value) = refl

  pub branch-level : (l k : ℕ) (s : Statement) → length (branch_lines l s) ≡ length (branch_lines k s)
  branch-level l k empty = refl
  branch-level l k (express e) = refl
  branch-level l k (block is) = items-level l k is
  branch-level l k (if_then e on_true) = refl
  branch-level l k (if_else e on_true on_false) = refl
  branch-level l k (while e body) = refl
  branch-level l k (do_while body e) = refl
  branch-level l k (for first test action body) = refl
  branch-level l k (switch e is) = refl
  branch-level l k break = refl
  branch-level l k continue = refl
  branch-level l k (goto n) = refl
  branch-level l k (guarded_if arms) = refl
  branch-level l k (guarded_do arms) = refl
  branch-level l k abort = refl
  branch-level l k (declare word e) = refl
  branch-level l k (give_back value) = refl

  pub items-level : (l k : ℕ) (is : Items) → length (items_lines l is) ≡ length (items_lines k is)
  items-level l k none = refl
  items-level l k (s then is) =
      omega (arith, length-append (statement_lines l s) (items_lines l is), length-append (statement_lines k s) (items_lines k is), statement-level l k s, items-level l k is)
  items-level l k (m here is) = omega (arith, items-level l k is)
  items-level l k (define f words body is) =
      omega (
        arith,
        length-append (definition_lines l f words) (items_lines (l + 1) body ++ (indented l closes ∷ items_lines l is)),
        length-append (items_lines (l + 1) body) (indented l closes ∷ items_lines l is),
        length-append (definition_lines k f words) (items_lines (k + 1) body ++ (indented k closes ∷ items_lines k is)),
        length-append (items_lines (k + 1) body) (indented k closes ∷ items_lines k is),
        definition-count l f words,
        definition-count k f words,
        items-level (l + 1) (k + 1) body,
        items-level l k is,
      )
