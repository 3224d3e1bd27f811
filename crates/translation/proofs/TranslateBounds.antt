-- How large a translation is: "From n source rows come at most 20×n+20 kernel rows and at most 4×n temporaries." By induction on the
-- tree, each row with its own share.
use Rattle.std.specs.Prelude.{◌≡◌, Bool, true, false, ℕ, ◌+◌, ◌*◌, ◌≤◌}
use Rattle.std.proofs.Common.{true≢false}
use native.Mathlib.Omega.{arith}
use Rattle.words.specs.Laws.{by_cases}
use Rattle.language.specs.Trees.{Expression, constant, read, minus, not, binary, and, or, comma, conditional, assign, compound, prefix, postfix, call, Place, variable, element, Arguments, no_more, ◌also◌, Part, absent, present, case, default, label, Statement, empty, express, block, if_then, if_else, while, do_while, for, switch, break, continue, goto, guarded_if, guarded_do, abort, declare, give_back, Arms, no_arm, arm, Items, none, ◌then◌, ◌here◌, define}
use Rattle.language.specs.Writes.{writes, index_writes}
use Rattle.language.specs.FunctionWrites.{functions_write}
use Rattle.language.specs.Calls.{argument_count}
use Rattle.language.specs.Sizes.{expression_rows, place_rows, arguments_rows, part_rows, statement_rows, arms_rows, items_rows}
use Rattle.translation.specs.Uses.{use_for, passed_on, direct}
use Rattle.translation.specs.declared.Use.{Use}
use Rattle.translation.specs.declared.Use.TheVariants.{Dropped as dropped, Wanted as wanted, Stored as stored}
use Rattle.translation.specs.Translate.{Atom, number, word, top, held, together, nothing, landed, updated, taken, atom_of, arguments_taken, rounds_labels, labels, arms_labels, items_labels, translate, result_levels, read_levels, old_levels, expression_levels, index_levels, update_levels, postfix_levels, arguments_levels, part_levels, test_levels, statement_levels, arms_levels, items_levels, program_levels, program_labels, temporaries}
use Rattle.translation.proofs.TranslateRows.{translation-rows}
use Rattle.translation.specs.TranslateSize.{index_rows, copy_rows, hold_rows, store_rows, update_rows, step_rows, postfix_rows, expression_size, index_size, arguments_size, operand_size, part_size, test_size, cases, rounds_rows, statement_size, arms_size, items_size, program_size}

pub copy-most : (h : Atom) → copy_rows h ≤ 4
copy-most (number v) = omega arith
copy-most (word i) = omega arith
copy-most top = omega arith

pub hold-most : (h : Atom) (W : ℕ → Bool) → hold_rows h W ≤ 4
hold-most (number v) W = omega arith
hold-most (word i) W = by_cases (W i) (λ e. rw e (omega arith)) (λ e. rw e (omega arith))
hold-most top W = omega arith

pub taken_most : (h : Atom) → taken h ≤ 1
taken_most (number v) = omega arith
taken_most (word i) = omega arith
taken_most top = omega arith

pub index-most : (p : Place) → index_rows p ≤ 1
index-most (variable i) = omega arith
index-most (element array e) = omega arith

pub store-most : (p : Place) (straight : Bool) → store_rows p straight ≤ 5
store-most (variable i) true = omega arith
store-most (variable i) false = omega arith
store-most (element array e) straight = omega arith

pub update-most : (p : Place) → update_rows p ≤ 16
update-most (variable i) = omega arith
update-most (element array e) = omega arith

step-most : (u : Use) → step_rows u ≤ 16
step-most dropped = omega arith
step-most wanted = omega arith
step-most (stored i) = omega arith

pub postfix-most : (p : Place) (u : Use) → postfix_rows p u ≤ 16
postfix-most (variable i) u = step-most u
postfix-most (element array e) u = omega arith

mutual
  unfolding expression_rows

  expression-some : (e : Expression) → 1 ≤ expression_rows e
  expression-some (constant v) = omega arith
  expression-some (read p) = place-some p
  expression-some (minus e) = omega arith
  expression-some (not e) = omega arith
  expression-some (binary operator a b) = omega arith
  expression-some (and a b) = omega arith
  expression-some (or a b) = omega arith
  expression-some (comma a b) = omega arith
  expression-some (conditional c a b) = omega arith
  expression-some (assign p e) = omega arith
  expression-some (compound operator p e) = omega arith
  expression-some (prefix operator p) = omega arith
  expression-some (postfix operator p) = omega arith
  expression-some (call f arguments) = omega arith

  place-some : (p : Place) → 1 ≤ place_rows p
  place-some (variable i) = omega arith
  place-some (element array e) = omega arith

-- ---- rows

module _ (called : ℕ → ℕ → Bool) where
  mutual
    unfolding expression_size expression_rows argument_count

    expression-most : (e : Expression) (u : Use) → expression_size called e u ≤ 20 * expression_rows e
    expression-most (constant v) u = omega arith
    expression-most (read p) u = omega (arith, index-size-most p, index-most p)
    expression-most (minus e) u = omega (arith, expression-most e wanted)
    expression-most (not e) u = omega (arith, expression-most e wanted)
    expression-most (binary operator a b) u = omega (arith, expression-most a wanted, expression-most b wanted, hold-most (atom_of called b) (writes called a))
    expression-most (and a b) u = omega (arith, expression-most a wanted, expression-most b wanted)
    expression-most (or a b) u = omega (arith, expression-most a wanted, expression-most b wanted)
    expression-most (comma a b) u = omega (arith, expression-most a dropped, expression-most b (passed_on u))
    expression-most (conditional c a b) u = omega (arith, expression-most c wanted, expression-most a wanted, expression-most b wanted, copy-most (atom_of called a), copy-most (atom_of called b))
    expression-most (assign p e) u = omega (arith, index-size-most p, expression-most e (use_for p), store-most p (direct e), hold-most (landed p (direct e) (atom_of called e)) (index_writes called p))
    expression-most (compound operator p e) u = omega (arith, index-size-most p, expression-most e wanted, update-most p, hold-most (atom_of called e) (index_writes called p))
    expression-most (prefix operator p) u = omega (arith, index-size-most p, update-most p)
    expression-most (postfix operator p) u = omega (arith, index-size-most p, postfix-most p u)
    expression-most (call f arguments) u = omega (arith, arguments-most arguments nothing)

    -- a place's own row has yet to be used
    index-size-most : (p : Place) → index_size called p + 20 ≤ 20 * place_rows p
    index-size-most (variable i) = omega arith
    index-size-most (element array e) = omega (arith, expression-most e wanted)

    -- with the two rows that the call brings for each
    arguments-most : (arguments : Arguments) (W : ℕ → Bool) → arguments_size called arguments W + 2 * argument_count arguments ≤ 20 * arguments_rows arguments
    arguments-most no_more W = omega arith
    arguments-most (e also arguments) W = omega (arith, arguments-most arguments (together (writes called e) W), expression-most e wanted, hold-most (atom_of called e) W)

  operand-most : (p : Part) (u : Use) → operand_size called p u ≤ 20 * part_rows p
  operand-most absent u = omega arith
  operand-most (present e) u = expression-most e u

  part-most : (p : Part) → part_size called p ≤ 20 * part_rows p
  part-most absent = omega arith
  part-most (present e) = expression-most e dropped

  test-most : (p : Part) → test_size called p ≤ 20 * part_rows p + 5
  test-most absent = omega arith
  test-most (present e) = omega (arith, expression-most e wanted)

  rounds-most : (arms : Arms) → rounds_rows arms ≤ 6
  rounds-most no_arm = omega arith
  rounds-most (arm e s arms) = omega arith

  mutual
    unfolding statement_size statement_rows

    statement-most : (s : Statement) → statement_size called s ≤ 20 * statement_rows s
    statement-most empty = omega arith
    statement-most (express e) = omega (arith, expression-most e dropped)
    statement-most (block is) = omega (arith, items-most is)
    statement-most (if_then e on_true) = omega (arith, expression-most e wanted, statement-most on_true)
    statement-most (if_else e on_true on_false) = omega (arith, expression-most e wanted, statement-most on_true, statement-most on_false)
    statement-most (while e body) = omega (arith, expression-most e wanted, statement-most body)
    statement-most (do_while body e) = omega (arith, expression-most e wanted, statement-most body)
    statement-most (for first test action body) = omega (arith, part-most first, test-most test, part-most action, statement-most body)
    statement-most (switch e is) = omega (arith, expression-most e wanted, items-most is)
    statement-most break = omega arith
    statement-most continue = omega arith
    statement-most (goto l) = omega arith
    statement-most (guarded_if arms) = omega (arith, arms_most arms)
    statement-most (guarded_do arms) = omega (arith, rounds-most arms, arms_most arms)
    statement-most abort = omega arith
    statement-most (declare i e) = omega (arith, expression-most e (stored i), store-most (variable i) (direct e))
    statement-most (give_back value) = omega (arith, operand-most value wanted)

    arms_most : (arms : Arms) → arms_size called arms ≤ 20 * arms_rows arms
    arms_most no_arm = omega arith
    arms_most (arm e s arms) = omega (arith, expression-most e wanted, statement-most s, arms_most arms)

    -- with the tests that the cases bring
    items-most : (is : Items) → items_size called is + 11 * cases is ≤ 20 * items_rows is
    items-most none = omega arith
    items-most (s then is) = omega (arith, statement-most s, items-most is)
    items-most (case v here is) = omega (arith, items-most is)
    items-most (default here is) = omega (arith, items-most is)
    items-most (label l here is) = omega (arith, items-most is)
    items-most (define f words body is) = omega (arith, items-most is)

program-most : (called : ℕ → ℕ → Bool) (program : Items) → program_size called program ≤ 20 * items_rows program
unfolding statement_rows program_size
program-most called none = omega (arith, items-most called none)
program-most called (s then is) = omega (arith, items-most called (s then is))
program-most called (m here is) = omega (arith, items-most called (m here is))
program-most called (define f words body is) = omega (arith, items-most called body, program-most called is)

-- "At most 20×n+20 kernel rows".
pub rows_bound : (first : ℕ) (program : Items) → statement_rows (block (translate first program)) ≤ 20 * statement_rows (block program) + 20
unfolding statement_rows
rows_bound first program = omega (arith, translation-rows first program, program-most (functions_write program) program)

-- ---- temporaries

result-most : (u : Use) → result_levels u ≤ 1
result-most dropped = omega arith
result-most wanted = omega arith
result-most (stored i) = omega arith

read-most : (p : Place) (u : Use) → read_levels p u ≤ 1
read-most (variable i) u = omega arith
read-most (element array e) u = result-most u

old-most : (u : Use) → old_levels u ≤ 1
old-most dropped = omega arith
old-most wanted = omega arith
old-most (stored i) = omega arith

module _ (called : ℕ → ℕ → Bool) where
  -- An argument takes at most one temporary.
  arguments-taken-most : (arguments : Arguments) (W : ℕ → Bool) → arguments_taken called arguments W ≤ arguments_rows arguments
  unfolding arguments_taken expression_rows
  arguments-taken-most no_more W = omega arith
  arguments-taken-most (e also arguments) W = omega (arith, arguments-taken-most arguments (together (writes called e) W), taken_most (held (atom_of called e) W))

  mutual
    unfolding expression_levels expression_rows

    pub levels-most : (e : Expression) (u : Use) → expression_levels called e u ≤ expression_rows e
    levels-most (constant v) u = omega arith
    levels-most (read p) u = omega (arith, index-levels-most p, place-some p, read-most p u)
    levels-most (minus e) u = omega (arith, levels-most e wanted, result-most u)
    levels-most (not e) u = omega (arith, levels-most e wanted, result-most u)
    levels-most (binary operator a b) u = omega (arith, levels-most a wanted, levels-most b wanted, taken_most (held (atom_of called b) (writes called a)), result-most u)
    levels-most (and a b) u = omega (arith, levels-most a wanted, levels-most b wanted)
    levels-most (or a b) u = omega (arith, levels-most a wanted, levels-most b wanted)
    levels-most (comma a b) u = omega (arith, levels-most a dropped, levels-most b (passed_on u))
    levels-most (conditional c a b) u = omega (arith, levels-most c wanted, levels-most a wanted, levels-most b wanted)
    levels-most (assign p e) u = omega (arith, index-levels-most p, levels-most e (use_for p), taken_most (held (landed p (direct e) (atom_of called e)) (index_writes called p)))
    levels-most (compound operator p e) u = omega (arith, update-levels-most p, levels-most e wanted)
    levels-most (prefix operator p) u = omega (arith, update-levels-most p)
    levels-most (postfix operator p) u = omega (arith, postfix-levels-most p u)
    levels-most (call f arguments) u = omega (arith, arguments-levels-most arguments nothing, result-most u)

    index-levels-most : (p : Place) → index_levels called p ≤ place_rows p
    index-levels-most (variable i) = omega arith
    index-levels-most (element array e) = omega (arith, levels-most e wanted)

    arguments-levels-most : (arguments : Arguments) (W : ℕ → Bool) → arguments_levels called arguments W ≤ arguments_rows arguments
    arguments-levels-most no_more W = omega arith
    arguments-levels-most (e also arguments) W =
        let after = together (writes called e) W in
        omega (arith, arguments-levels-most arguments after, arguments-taken-most arguments after, levels-most e wanted, taken_most (held (atom_of called e) W), expression-some e)

    update-levels-most : (p : Place) → update_levels called p ≤ 1 + place_rows p
    update-levels-most (variable i) = omega arith
    update-levels-most (element array e) = omega (arith, levels-most e wanted, taken_most (atom_of called e), expression-some e)

    postfix-levels-most : (p : Place) (u : Use) → postfix_levels called p u ≤ 1 + place_rows p
    postfix-levels-most (variable i) u = omega (arith, old-most u)
    postfix-levels-most (element array e) u = omega (arith, levels-most e wanted, taken_most (atom_of called e), expression-some e)

  part-levels-most : (p : Part) → part_levels called p ≤ part_rows p
  part-levels-most absent = omega arith
  part-levels-most (present e) = levels-most e dropped

  test-levels-most : (p : Part) → test_levels called p ≤ part_rows p
  test-levels-most absent = omega arith
  test-levels-most (present e) = levels-most e wanted

  mutual
    unfolding statement_levels statement_rows

    statement-levels-most : (s : Statement) → statement_levels called s ≤ statement_rows s
    statement-levels-most empty = omega arith
    statement-levels-most (express e) = omega (arith, levels-most e dropped)
    statement-levels-most (block is) = omega (arith, items-levels-most is)
    statement-levels-most (if_then e on_true) = omega (arith, levels-most e wanted, statement-levels-most on_true)
    statement-levels-most (if_else e on_true on_false) = omega (arith, levels-most e wanted, statement-levels-most on_true, statement-levels-most on_false)
    statement-levels-most (while e body) = omega (arith, levels-most e wanted, statement-levels-most body)
    statement-levels-most (do_while body e) = omega (arith, levels-most e wanted, statement-levels-most body)
    statement-levels-most (for first test action body) = omega (arith, part-levels-most first, test-levels-most test, part-levels-most action, statement-levels-most body)
    statement-levels-most (switch e is) = omega (arith, levels-most e wanted, items-levels-most is, taken_most (atom_of called e), expression-some e)
    statement-levels-most break = omega arith
    statement-levels-most continue = omega arith
    statement-levels-most (goto l) = omega arith
    statement-levels-most (guarded_if arms) = omega (arith, arms-levels-most arms)
    statement-levels-most (guarded_do arms) = omega (arith, arms-levels-most arms)
    statement-levels-most abort = omega arith
    statement-levels-most (declare i e) = omega (arith, levels-most e (stored i))
    statement-levels-most (give_back absent) = omega arith
    statement-levels-most (give_back (present e)) = omega (arith, levels-most e wanted)

    arms-levels-most : (arms : Arms) → arms_levels called arms ≤ arms_rows arms
    arms-levels-most no_arm = omega arith
    arms-levels-most (arm e s arms) = omega (arith, levels-most e wanted, statement-levels-most s, arms-levels-most arms)

    items-levels-most : (is : Items) → items_levels called is ≤ items_rows is
    items-levels-most none = omega arith
    items-levels-most (s then is) = omega (arith, statement-levels-most s, items-levels-most is)
    items-levels-most (m here is) = omega (arith, items-levels-most is)
    items-levels-most (define f words body is) = omega (arith, items-levels-most is)

  -- The level of an updated place's new value.
  updated-level : (p : Place) → taken (updated p) ≤ update_levels called p
  unfolding expression_levels
  updated-level (variable i) = omega arith
  updated-level (element array e) = omega arith

  mutual
    unfolding atom_of expression_levels

    -- An expression whose value is in a temporary has one.
    pub taken-level : (e : Expression) → taken (atom_of called e) ≤ expression_levels called e wanted
    taken-level (constant v) = omega arith
    taken-level (read p) = read-level p
    taken-level (minus e) = omega arith
    taken-level (not e) = omega arith
    taken-level (binary operator a b) = omega arith
    taken-level (and a b) = omega arith
    taken-level (or a b) = omega arith
    taken-level (comma a b) = omega (arith, taken-level b)
    taken-level (conditional c a b) = omega arith
    taken-level (assign p e) = omega arith
    taken-level (compound operator p e) = omega (arith, updated-level p)
    taken-level (prefix operator p) = updated-level p
    taken-level (postfix operator p) = postfix-level p
    taken-level (call f arguments) = omega arith

    read-level : (p : Place) → taken (atom_of called (read p)) ≤ expression_levels called (read p) wanted
    read-level (variable i) = omega arith
    read-level (element array e) = omega arith

    postfix-level : (p : Place) → 1 ≤ postfix_levels called p wanted
    postfix-level (variable i) = omega arith
    postfix-level (element array e) = omega arith

  -- What arguments take is among their levels.
  pub arguments-level : (arguments : Arguments) (W : ℕ → Bool) → arguments_taken called arguments W ≤ arguments_levels called arguments W
  unfolding arguments_taken expression_levels
  arguments-level no_more W = omega arith
  arguments-level (e also arguments) W = omega arith

  -- So does one whose value does not go straight into the variable that it is stored in.
  pub stored-level : (e : Expression) (i : ℕ) → direct e ≡ false → taken (atom_of called e) ≤ expression_levels called e (stored i)
  unfolding direct atom_of expression_levels
  stored-level (constant v) i n = omega arith
  stored-level (read (variable j)) i n = omega arith
  stored-level (read (element array e)) i n = absurd (true≢false n)
  stored-level (minus e) i n = absurd (true≢false n)
  stored-level (not e) i n = absurd (true≢false n)
  stored-level (binary operator a b) i n = absurd (true≢false n)
  stored-level (and a b) i n = omega arith
  stored-level (or a b) i n = omega arith
  stored-level (comma a b) i n = omega (arith, taken-level b)
  stored-level (conditional c a b) i n = omega arith
  stored-level (assign p e) i n = omega arith
  stored-level (compound operator p e) i n = omega (arith, updated-level p)
  stored-level (prefix operator p) i n = updated-level p
  stored-level (postfix operator (variable j)) i n = omega arith
  stored-level (postfix operator (element array e)) i n = omega arith
  stored-level (call f arguments) i n = absurd (true≢false n)

program-levels-most : (called : ℕ → ℕ → Bool) (program : Items) → program_levels called program ≤ items_rows program
unfolding program_levels statement_rows
program-levels-most called none = omega (arith, items-levels-most called none)
program-levels-most called (s then is) = omega (arith, items-levels-most called (s then is))
program-levels-most called (m here is) = omega (arith, items-levels-most called (m here is))
program-levels-most called (define f words body is) = omega (arith, items-levels-most called body, program-levels-most called is)

-- "At most 4×n temporaries": at most n.
pub temporaries-bound : (program : Items) → temporaries program ≤ statement_rows (block program)
unfolding temporaries statement_rows
temporaries-bound program = omega (arith, program-levels-most (functions_write program) program)

-- ---- labels

rounds-labels-most : (arms : Arms) → rounds_labels arms ≤ 2
rounds-labels-most no_arm = omega arith
rounds-labels-most (arm e s arms) = omega arith

mutual
  unfolding labels statement_rows

  labels-most : (s : Statement) → labels s ≤ 2 * statement_rows s
  labels-most empty = omega arith
  labels-most (express e) = omega arith
  labels-most (block is) = omega (arith, items-labels-most is)
  labels-most (if_then e on_true) = omega (arith, labels-most on_true)
  labels-most (if_else e on_true on_false) = omega (arith, labels-most on_true, labels-most on_false)
  labels-most (while e body) = omega (arith, labels-most body)
  labels-most (do_while body e) = omega (arith, labels-most body)
  labels-most (for first test action body) = omega (arith, labels-most body)
  labels-most (switch e is) = omega (arith, items-labels-most is)
  labels-most break = omega arith
  labels-most continue = omega arith
  labels-most (goto l) = omega arith
  labels-most (guarded_if arms) = omega (arith, arms-labels-most arms)
  labels-most (guarded_do arms) = omega (arith, rounds-labels-most arms, arms-labels-most arms)
  labels-most abort = omega arith
  labels-most (declare i e) = omega arith
  labels-most (give_back value) = omega arith

  arms-labels-most : (arms : Arms) → arms_labels arms ≤ 2 * arms_rows arms
  arms-labels-most no_arm = omega arith
  arms-labels-most (arm e s arms) = omega (arith, labels-most s, arms-labels-most arms)

  items-labels-most : (is : Items) → items_labels is ≤ 2 * items_rows is
  items-labels-most none = omega arith
  items-labels-most (s then is) = omega (arith, labels-most s, items-labels-most is)
  items-labels-most (m here is) = omega (arith, items-labels-most is)
  items-labels-most (define f words body is) = omega (arith, items-labels-most is)

program-labels-most : (program : Items) → program_labels program ≤ 2 * items_rows program
unfolding program_labels statement_rows
program-labels-most none = omega (arith, items-labels-most none)
program-labels-most (s then is) = omega (arith, items-labels-most (s then is))
program-labels-most (m here is) = omega (arith, items-labels-most (m here is))
program-labels-most (define f words body is) = omega (arith, items-labels-most body, program-labels-most is)

pub labels-bound : (program : Items) → program_labels program ≤ 2 * statement_rows (block program)
unfolding statement_rows
labels-bound program = omega (arith, program-labels-most program)
