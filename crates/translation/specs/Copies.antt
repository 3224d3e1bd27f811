-- Copies of variables: those that kernel code makes, and those that Change 1 allows. "A variable used as an operand, index, test or
-- selector is copied only if something evaluated after it, and before its use, can write that variable".
use Rattle.std.specs.Prelude.{Bool, true, not, ◌&&◌, ℕ, ◌+◌, ◌*◌, leb}
use Rattle.words.specs.Word.{pick}
use Rattle.language.specs.Trees.{Expression, constant, read, minus, not as not_true, binary, and, or, comma, conditional, assign, compound, prefix, postfix, call, Place, variable, element, Arguments, no_more, ◌also◌, Part, absent, present, Statement, empty, express, block, if_then, if_else, while, do_while, for, switch, break, continue, goto, guarded_if, guarded_do, abort, declare, give_back, Arms, no_arm, arm, Items, none, ◌then◌, ◌here◌, define}
use Rattle.language.specs.Writes.{writes, index_writes}
use Rattle.translation.specs.Translate.{together, nothing}
use Rattle.translation.specs.Uses.{use_for, passed_on, direct}
use Rattle.translation.specs.declared.Use.{Use}
use Rattle.translation.specs.declared.Use.TheVariants.{Dropped as dropped, Wanted as wanted, Stored as stored}

-- ---- in kernel code

abbrev pub is_variable : Place → ℕ
is_variable (variable i) = 1
is_variable (element array e) = 0

-- Each function of this part counts 1 or 0.
abbrev pub reads_variable : Expression → ℕ
reads_variable (constant v) = 0
reads_variable (read p) = is_variable p
reads_variable (minus e) = 0
reads_variable (not_true e) = 0
reads_variable (binary operator a b) = 0
reads_variable (and a b) = 0
reads_variable (or a b) = 0
reads_variable (comma a b) = 0
reads_variable (conditional c a b) = 0
reads_variable (assign p e) = 0
reads_variable (compound operator p e) = 0
reads_variable (prefix operator p) = 0
reads_variable (postfix operator p) = 0
reads_variable (call f arguments) = 0

-- The temporaries begin at store word S.
module _ (S : ℕ) where
  abbrev pub is_temporary : Place → ℕ
  is_temporary (variable i) = pick (leb S i) 1 0
  is_temporary (element array e) = 0

  -- temporary := variable
  abbrev pub is_copy : Expression → ℕ
  is_copy (constant v) = 0
  is_copy (read p) = 0
  is_copy (minus e) = 0
  is_copy (not_true e) = 0
  is_copy (binary operator a b) = 0
  is_copy (and a b) = 0
  is_copy (or a b) = 0
  is_copy (comma a b) = 0
  is_copy (conditional c a b) = 0
  is_copy (assign p e) = is_temporary p * reads_variable e
  is_copy (compound operator p e) = 0
  is_copy (prefix operator p) = 0
  is_copy (postfix operator p) = 0
  is_copy (call f arguments) = 0

  -- How many statements of kernel code copy a variable into a temporary.
  unfoldable mutual
    pub statement_copies : Statement → ℕ
    statement_copies empty = 0
    statement_copies (express e) = is_copy e
    statement_copies (block is) = copies is
    statement_copies (if_then e on_true) = statement_copies on_true
    statement_copies (if_else e on_true on_false) = statement_copies on_true + statement_copies on_false
    statement_copies (while e body) = statement_copies body
    statement_copies (do_while body e) = statement_copies body
    statement_copies (for first test action body) = statement_copies body
    statement_copies (switch e is) = copies is
    statement_copies break = 0
    statement_copies continue = 0
    statement_copies (goto l) = 0
    statement_copies (guarded_if arms) = arms_copies arms
    statement_copies (guarded_do arms) = arms_copies arms
    statement_copies abort = 0
    statement_copies (declare i e) = 0
    statement_copies (give_back value) = 0

    pub arms_copies : Arms → ℕ
    arms_copies no_arm = 0
    arms_copies (arm e s arms) = statement_copies s + arms_copies arms

    pub copies : Items → ℕ
    copies none = 0
    copies (s then is) = statement_copies s + copies is
    copies (m here is) = copies is
    copies (define f words body is) = copies body + copies is

-- ---- in the source

-- 1 where the value of a place that was written stands in a variable, which can be written again (W); else 0.
abbrev pub rewritten : Place → (ℕ → Bool) → ℕ
rewritten (variable i) W = pick (W i) 1 0
rewritten (element array e) W = 0

-- 1 where the old value is used.
abbrev pub old_used : Use → ℕ
old_used dropped = 0
old_used wanted = 1
old_used (stored i) = 1

-- `called f i`: whether function f can write the variable i.
module _ (called : ℕ → ℕ → Bool) where
  -- 1 where the value of an expression is that of a variable, which can be written (W) before the value is used; else 0.
  unfoldable pub waiting : Expression → (ℕ → Bool) → ℕ
  waiting (constant v) W = 0
  waiting (read (variable i)) W = pick (W i) 1 0
  waiting (read (element array e)) W = 0
  waiting (minus e) W = 0
  waiting (not_true e) W = 0
  waiting (binary operator a b) W = 0
  waiting (and a b) W = 0
  waiting (or a b) W = 0
  -- "the result is the right's"
  waiting (comma a b) W = waiting b W
  waiting (conditional c a b) W = 0
  -- "The result is the value stored": the variable's own, where the value went straight there; else the right side's, unless the assignment has
  -- copied it already
  waiting (assign (variable i) e) W = pick (direct e) (pick (W i) 1 0) (waiting e W)
  waiting (assign (element array d) e) W = waiting e (λ i. W i && not (writes called d i))
  waiting (compound operator p e) W = rewritten p W
  waiting (prefix operator p) W = rewritten p W
  waiting (postfix operator p) W = 0
  waiting (call f arguments) W = 0

  -- The same of the arguments from one on, where those before it can write the variables W.
  unfoldable pub arguments_waiting : Arguments → (ℕ → Bool) → ℕ
  arguments_waiting no_more W = 0
  arguments_waiting (e also arguments) W = waiting e W + arguments_waiting arguments (together (writes called e) W)

  -- The copies that the sentence allows for an expression's own row. A value waits for its use in four places: the right operand, while the
  -- left one is worked out; the value of an assignment or compound, while the index of its place is; an argument, while those before it are. Every other value
  -- is used at once.
  abbrev pub own_copies : Expression → Use → ℕ
  own_copies (constant v) u = 0
  own_copies (read p) u = 0
  own_copies (minus e) u = 0
  own_copies (not_true e) u = 0
  own_copies (binary operator a b) u = waiting b (writes called a)
  own_copies (and a b) u = 0
  own_copies (or a b) u = 0
  own_copies (comma a b) u = 0
  own_copies (conditional c a b) u = 0
  own_copies (assign p e) u = waiting e (index_writes called p)
  own_copies (compound operator p e) u = waiting e (index_writes called p)
  own_copies (prefix operator p) u = 0
  own_copies (postfix operator p) u = 0
  own_copies (call f arguments) u = arguments_waiting arguments nothing

  -- A variable's value that is a result and no operand, and so goes into the result's temporary: that of a branch of a conditional, and the
  -- old value that e++ and e−− give, where it is used.
  abbrev pub own_results : Expression → Use → ℕ
  own_results (constant v) u = 0
  own_results (read p) u = 0
  own_results (minus e) u = 0
  own_results (not_true e) u = 0
  own_results (binary operator a b) u = 0
  own_results (and a b) u = 0
  own_results (or a b) u = 0
  own_results (comma a b) u = 0
  own_results (conditional c a b) u = waiting a (λ i. true) + waiting b (λ i. true)
  own_results (assign p e) u = 0
  own_results (compound operator p e) u = 0
  own_results (prefix operator p) u = 0
  own_results (postfix operator p) u = is_variable p * old_used u
  own_results (call f arguments) u = 0

-- The sum of a number over all expressions of a tree, each with its use.
module _ (own : Expression → Use → ℕ) where
  unfoldable mutual
    pub expression_total : Expression → Use → ℕ
    expression_total (constant v) u = own (constant v) u
    expression_total (read p) u = own (read p) u + index_total p
    expression_total (minus e) u = own (minus e) u + expression_total e wanted
    expression_total (not_true e) u = own (not_true e) u + expression_total e wanted
    expression_total (binary operator a b) u = own (binary operator a b) u + expression_total a wanted + expression_total b wanted
    expression_total (and a b) u = own (and a b) u + expression_total a wanted + expression_total b wanted
    expression_total (or a b) u = own (or a b) u + expression_total a wanted + expression_total b wanted
    expression_total (comma a b) u = own (comma a b) u + expression_total a dropped + expression_total b (passed_on u)
    expression_total (conditional c a b) u = own (conditional c a b) u + expression_total c wanted + expression_total a wanted + expression_total b wanted
    expression_total (assign p e) u = own (assign p e) u + index_total p + expression_total e (use_for p)
    expression_total (compound operator p e) u = own (compound operator p e) u + index_total p + expression_total e wanted
    expression_total (prefix operator p) u = own (prefix operator p) u + index_total p
    expression_total (postfix operator p) u = own (postfix operator p) u + index_total p
    expression_total (call f arguments) u = own (call f arguments) u + arguments_total arguments

    pub index_total : Place → ℕ
    index_total (variable i) = 0
    index_total (element array e) = expression_total e wanted

    pub arguments_total : Arguments → ℕ
    arguments_total no_more = 0
    arguments_total (e also arguments) = expression_total e wanted + arguments_total arguments

  -- A part of a for whose value is dropped, and a test or a value that is returned.
  abbrev pub part_total : Part → ℕ
  part_total absent = 0
  part_total (present e) = expression_total e dropped

  abbrev pub test_total : Part → ℕ
  test_total absent = 0
  test_total (present e) = expression_total e wanted

  unfoldable mutual
    pub statement_total : Statement → ℕ
    statement_total empty = 0
    statement_total (express e) = expression_total e dropped
    statement_total (block is) = total is
    statement_total (if_then e on_true) = expression_total e wanted + statement_total on_true
    statement_total (if_else e on_true on_false) = expression_total e wanted + statement_total on_true + statement_total on_false
    statement_total (while e body) = expression_total e wanted + statement_total body
    statement_total (do_while body e) = expression_total e wanted + statement_total body
    statement_total (for first test action body) = part_total first + test_total test + part_total action + statement_total body
    statement_total (switch e is) = expression_total e wanted + total is
    statement_total break = 0
    statement_total continue = 0
    statement_total (goto l) = 0
    statement_total (guarded_if arms) = arms_total arms
    statement_total (guarded_do arms) = arms_total arms
    statement_total abort = 0
    statement_total (declare i e) = expression_total e (stored i)
    statement_total (give_back value) = test_total value

    pub arms_total : Arms → ℕ
    arms_total no_arm = 0
    arms_total (arm e s arms) = expression_total e wanted + statement_total s + arms_total arms

    pub total : Items → ℕ
    total none = 0
    total (s then is) = statement_total s + total is
    total (m here is) = total is
    total (define f words body is) = total is

  -- With the functions, which stand at the front.
  unfoldable pub program_total : Items → ℕ
  program_total none = total none
  program_total (s then is) = total (s then is)
  program_total (m here is) = total (m here is)
  program_total (define f words body is) = total body + program_total is
