-- The translation: source trees to kernel trees, a clause a kind. docs/REWRITING.md shows each clause in C, and says which rule of
-- Preprint 97, part 3, it replaces.
use Rattle.std.specs.Prelude.{Bool, false, ◌||◌, List, ◌∷◌, map, ℕ, ◌+◌, max, ℤ, pos}
use Rattle.words.specs.Word.{pick}
use Rattle.words.specs.Layout.{Layout}
use Rattle.words.specs.declared.Operator.{Operator}
use Rattle.words.specs.declared.Operator.TheVariants.{Equal, NotEqual}
use Rattle.language.specs.Trees.{Expression, constant, read, minus, not, binary, and, or, comma, conditional, assign, compound, prefix, postfix, call, Place, variable, element, Arguments, no_more, ◌also◌, Part, absent, present, Mark, case, default, label, same_mark, Statement, empty, express, block, if_then, if_else, while, do_while, for, switch, break, continue, goto, guarded_if, guarded_do, abort, declare, give_back, Arms, no_arm, arm, Items, none, ◌then◌, ◌here◌, define, ◌⧺◌}
use Rattle.language.specs.Writes.{writes, index_writes}
use Rattle.language.specs.FunctionWrites.{functions_write}
use Rattle.translation.specs.Uses.{use_for, passed_on, direct}
use Rattle.translation.specs.declared.Use.{Use}
use Rattle.translation.specs.declared.Use.TheVariants.{Dropped as dropped, Wanted as wanted, Stored as stored}

-- ---- atoms and levels

-- The temporaries are a stack, numbered by levels from 0. What holds the value of an expression after its code: the number itself; a
-- variable, while it still holds it; or the top of the stack, which is the temporary of the expression's level.
pub data Atom : Type 0 where
  number : ℤ → Atom
  word : ℕ → Atom
  top : Atom

-- What holds a value that waits for its use while something is worked out that can write the variables W: a variable among them is copied
-- into the temporary.
abbrev pub held : Atom → (ℕ → Bool) → Atom
held (number v) W = number v
held (word i) W = pick (W i) top (word i)
held top W = top

-- What one or another can write; and what nothing can.
abbrev pub together : (ℕ → Bool) → (ℕ → Bool) → ℕ → Bool
together A B i = A i || B i

abbrev pub nothing : ℕ → Bool
nothing i = false

-- What holds a value that is stored in a place: the variable, where it goes straight there; else its own atom.
abbrev pub landed : Place → Bool → Atom → Atom
landed (variable i) straight h = pick straight (word i) h
landed (element array e) straight h = h

-- What holds the new value of a place that was updated.
abbrev pub updated : Place → Atom
updated (variable i) = word i
updated (element array e) = top

-- How many temporaries an atom takes, and the index of a place. What is worked out while it is held stands that much higher.
abbrev pub taken : Atom → ℕ
taken (number v) = 0
taken (word i) = 0
taken top = 1

-- `called f i`: whether function f can write the variable i.
module _ (called : ℕ → ℕ → Bool) where
  unfoldable pub atom_of : Expression → Atom
  atom_of (constant v) = number v
  atom_of (read (variable i)) = word i
  atom_of (read (element array e)) = top
  atom_of (minus e) = top
  atom_of (not e) = top
  atom_of (binary operator a b) = top
  atom_of (and a b) = top
  atom_of (or a b) = top
  atom_of (comma a b) = atom_of b
  atom_of (conditional c a b) = top
  atom_of (assign p e) = held (landed p (direct e) (atom_of e)) (index_writes called p)
  atom_of (compound operator p e) = updated p
  atom_of (prefix operator p) = updated p
  atom_of (postfix operator p) = top
  atom_of (call f arguments) = top

  unfoldable pub place_taken : Place → ℕ
  place_taken (variable i) = 0
  place_taken (element array e) = taken (atom_of e)

  -- How many temporaries the arguments from one on take: each waits while those before it are worked out, which can write the variables W.
  unfoldable pub arguments_taken : Arguments → (ℕ → Bool) → ℕ
  arguments_taken no_more W = 0
  arguments_taken (e also arguments) W = arguments_taken arguments (together (writes called e) W) + taken (held (atom_of e) W)

-- ---- labels

-- The own labels of a guarded do: one behind its loop and one at the end of a round. Without arms there is no loop.
abbrev pub rounds_labels : Arms → ℕ
rounds_labels no_arm = 0
rounds_labels (arm e s arms) = 2

-- How many labels a statement takes, from its first label on: a loop one behind it and one for continue, a switch and a guarded if one behind
-- it, a mark its own.
unfoldable mutual
  pub labels : Statement → ℕ
  labels empty = 0
  labels (express e) = 0
  labels (block is) = items_labels is
  labels (if_then e on_true) = labels on_true
  labels (if_else e on_true on_false) = labels on_true + labels on_false
  labels (while e body) = 2 + labels body
  labels (do_while body e) = 2 + labels body
  labels (for first test action body) = 2 + labels body
  labels (switch e is) = 1 + items_labels is
  labels break = 0
  labels continue = 0
  labels (goto l) = 0
  labels (guarded_if arms) = 1 + arms_labels arms
  labels (guarded_do arms) = rounds_labels arms + arms_labels arms
  labels abort = 0
  labels (declare i e) = 0
  labels (give_back value) = 0

  pub arms_labels : Arms → ℕ
  arms_labels no_arm = 0
  arms_labels (arm e s arms) = labels s + arms_labels arms

  pub items_labels : Items → ℕ
  items_labels none = 0
  items_labels (s then is) = labels s + items_labels is
  items_labels (m here is) = 1 + items_labels is
  items_labels (define f words body is) = items_labels is

-- The label of the mark m in a list whose labels begin at l; `other` where the list does not have the mark.
unfoldable pub label_of : Mark → Items → ℕ → ℕ → ℕ
label_of m none l other = other
label_of m (s then is) l other = label_of m is (l + labels s) other
label_of m (n here is) l other = pick (same_mark m n) l (label_of m is (l + 1) other)
label_of m (define f words body is) l other = label_of m is l other

-- The labels to which break and continue go: behind the nearest loop or switch, and to the nearest loop's test or step.
pub record Exits : Type 0 where
  pub on_break : ℕ
  pub on_continue : ℕ

abbrev pub exits : ℕ → ℕ → Exits
exits on_break on_continue = record { on_break = on_break; on_continue = on_continue }

-- ---- code, where the temporaries begin at store word S

module _ (S : ℕ) where
  -- The temporary of a level.
  abbrev pub temporary : ℕ → Place
  temporary t = variable (S + t)

  -- The kernel's expression for an atom at level t.
  abbrev pub atom : ℕ → Atom → Expression
  atom t (number v) = constant v
  atom t (word i) = read (variable i)
  atom t top = read (temporary t)

  -- p := e, and then the rest.
  abbrev pub assigning : Place → Expression → Items → Items
  assigning p e rest = express (assign p e) then rest

  -- An if with two blocks, and then the rest.
  abbrev pub choosing : Expression → Items → Items → Items → Items
  choosing test on_true on_false rest = if_else test (block on_true) (block on_false) then rest

  -- A value into the temporary of its level; one that is there already stays.
  abbrev pub copy_code : ℕ → Atom → Items
  copy_code t (number v) = assigning (temporary t) (constant v) none
  copy_code t (word i) = assigning (temporary t) (read (variable i)) none
  copy_code t top = none

  -- What brings a value to the atom that holds it: where that is the temporary, a copy.
  abbrev pub move_code : ℕ → Atom → Atom → Items
  move_code t h (number v) = none
  move_code t h (word i) = none
  move_code t h top = copy_code t h

  -- Where an element's value or an operation's result goes: into temporary t, or straight into the variable that stores it.
  abbrev pub target_word : Use → ℕ → ℕ
  target_word dropped t = S + t
  target_word wanted t = S + t
  target_word (stored i) t = i

  abbrev pub target : Use → ℕ → Place
  target u t = variable (target_word u t)

  -- A value into a place; one that went straight into its variable is there already.
  abbrev pub store_code : Place → Bool → Expression → Items
  store_code (variable i) straight x = pick straight none (assigning (variable i) x none)
  store_code (element array index) straight x = assigning (element array index) x none

  -- old op x into a variable; into an element by temporary t, and its old value through temporary u.
  abbrev pub update_code : Operator → Place → Expression → ℕ → ℕ → Items
  update_code operator (variable i) x t u = assigning (variable i) (binary operator (read (variable i)) x) none
  update_code operator (element array index) x t u =
      assigning (temporary u) (read (element array index)) (assigning (temporary t) (binary operator (read (temporary u)) x) (assigning (element array index) (read (temporary t)) none))

  -- A variable's old value into temporary t, and old op 1 into the variable; where nobody uses the old value, only the latter.
  abbrev pub step_code : Operator → ℕ → Use → ℕ → Items
  step_code operator i dropped t = assigning (variable i) (binary operator (read (variable i)) (constant (pos 1))) none
  step_code operator i wanted t = assigning (temporary t) (read (variable i)) (assigning (variable i) (binary operator (read (temporary t)) (constant (pos 1))) none)
  step_code operator i (stored j) t = assigning (temporary t) (read (variable i)) (assigning (variable i) (binary operator (read (temporary t)) (constant (pos 1))) none)

  -- The old value into temporary t, and old op 1 into the place; an element's new value goes through temporary n.
  abbrev pub postfix_code : Operator → Place → Use → ℕ → ℕ → Items
  postfix_code operator (variable i) u t n = step_code operator i u t
  postfix_code operator (element array index) u t n =
      assigning (temporary t) (read (element array index)) (assigning (temporary n) (binary operator (read (temporary t)) (constant (pos 1))) (assigning (element array index) (read (temporary n)) none))

  -- Every statement has code: one that leaves nothing to do leaves an empty statement.
  abbrev pub or_empty : Items → Items
  or_empty none = empty then none
  or_empty (s then is) = s then is
  or_empty (m here is) = m here is
  or_empty (define f words body is) = define f words body is

  -- A loop and the label l behind it.
  abbrev pub loop_code : Items → ℕ → Items
  loop_code body l = while (constant (pos 1)) (block body) then label l here none

  -- The tests of a switch, before any of its items: go to the label of the case that equals x. The temporary u holds a test.
  unfoldable pub case_tests : Expression → ℕ → Items → ℕ → Items
  case_tests x u none l = none
  case_tests x u (s then is) l = case_tests x u is (l + labels s)
  case_tests x u (case v here is) l = assigning (temporary u) (binary Equal x (constant v)) (choosing (read (temporary u)) (goto l then none) none (case_tests x u is (l + 1)))
  case_tests x u (default here is) l = case_tests x u is (l + 1)
  case_tests x u (label k here is) l = case_tests x u is (l + 1)
  case_tests x u (define f words body is) l = case_tests x u is l

  -- The rounds of a guarded do, around the code of its arms: label l behind the loop, label l + 1 at the end of a round, where arms go on.
  abbrev pub rounds_code : Arms → Items → ℕ → Items
  rounds_code no_arm code l = empty then none
  rounds_code (arm e s arms) code l = loop_code (code ⧺ goto l then label (l + 1) here none) l

-- `called` as above.
module _ (called : ℕ → ℕ → Bool) (S : ℕ) where
  -- A place in the kernel, its index held at level t.
  unfoldable pub kernel_place : Place → ℕ → Place
  kernel_place (variable i) t = variable i
  kernel_place (element array e) t = element array (atom S t (atom_of called e))

  -- An element's value into its target; a variable stands for its own.
  abbrev pub read_code : Place → Use → ℕ → Items
  read_code (variable i) u t = none
  read_code (element array e) u t = assigning S (target S u t) (read (element array (atom S t (atom_of called e)))) none

  -- What holds the arguments from one on.
  unfoldable pub argument_atoms : Arguments → (ℕ → Bool) → ℕ → Arguments
  argument_atoms no_more W t = no_more
  argument_atoms (e also arguments) W t =
      atom S (t + arguments_taken called arguments (together (writes called e) W)) (held (atom_of called e) W) also argument_atoms arguments (together (writes called e) W) t

  unfoldable mutual
    -- An expression at level t, for a use of its value: its code writes no temporary below t. After it, if the value is wanted, `atom t (atom_of e)`
    -- holds it; so does, if it is stored, the variable or that atom (`landed`).
    pub expression_code : Expression → Use → ℕ → Items
    expression_code (constant v) u t = none
    expression_code (read p) u t = index_code p t ⧺ read_code p u t
    expression_code (minus e) u t = expression_code e wanted t ⧺ assigning S (target S u t) (minus (atom S t (atom_of called e))) none
    expression_code (not e) u t = expression_code e wanted t ⧺ assigning S (target S u t) (binary Equal (atom S t (atom_of called e)) (constant (pos 0))) none
    -- the right operand first, held while the left one is worked out above it
    expression_code (binary operator a b) u t =
        let right = held (atom_of called b) (writes called a) in
        expression_code b wanted t ⧺ move_code S t (atom_of called b) right ⧺ expression_code a wanted (t + taken right) ⧺ assigning S (target S u t) (binary operator (atom S (t + taken right) (atom_of called a)) (atom S t right)) none
    -- the right operand inside the branch that needs it, and its truth by != 0
    expression_code (and a b) u t =
        expression_code a wanted t ⧺ choosing S (atom S t (atom_of called a)) (expression_code b wanted t ⧺ assigning S (temporary S t) (binary NotEqual (atom S t (atom_of called b)) (constant (pos 0))) none) (assigning S (temporary S t) (constant (pos 0)) none) none
    expression_code (or a b) u t =
        expression_code a wanted t ⧺ choosing S (atom S t (atom_of called a)) (assigning S (temporary S t) (constant (pos 1)) none) (expression_code b wanted t ⧺ assigning S (temporary S t) (binary NotEqual (atom S t (atom_of called b)) (constant (pos 0))) none) none
    expression_code (comma a b) u t = expression_code a dropped t ⧺ expression_code b (passed_on u) t
    expression_code (conditional c a b) u t =
        expression_code c wanted t ⧺ choosing S (atom S t (atom_of called c)) (expression_code a wanted t ⧺ copy_code S t (atom_of called a)) (expression_code b wanted t ⧺ copy_code S t (atom_of called b)) none
    -- the value first; into an element, it is held while the index is worked out above it
    expression_code (assign p e) u t =
        let value = held (landed p (direct e) (atom_of called e)) (index_writes called p) in
        expression_code e (use_for p) t ⧺ move_code S t (landed p (direct e) (atom_of called e)) value ⧺ index_code p (t + taken value) ⧺ store_code S (kernel_place p (t + taken value)) (direct e) (atom S t value)
    -- for an element, t is kept for the result, so the index stands above it
    expression_code (compound operator p e) u t =
        let value = held (atom_of called e) (index_writes called p) in
        expression_code e wanted t ⧺ move_code S t (atom_of called e) value ⧺ index_code p (t + 1) ⧺ update_code S operator (kernel_place p (t + 1)) (atom S t value) t (t + 1 + place_taken called p)
    expression_code (prefix operator p) u t = index_code p (t + 1) ⧺ update_code S operator (kernel_place p (t + 1)) (constant (pos 1)) t (t + 1 + place_taken called p)
    expression_code (postfix operator p) u t = index_code p (t + 1) ⧺ postfix_code S operator (kernel_place p (t + 1)) u t (t + 1 + place_taken called p)
    -- the arguments from the last on, and the call on what holds their values
    expression_code (call f arguments) u t = arguments_code arguments nothing t ⧺ assigning S (target S u t) (call f (argument_atoms arguments nothing t)) none

    -- The index of a place.
    pub index_code : Place → ℕ → Items
    index_code (variable i) t = none
    index_code (element array e) t = expression_code e wanted t

    -- The arguments from one on, each above those behind it in the list, and held while those before it are worked out, which can write the
    -- variables W.
    pub arguments_code : Arguments → (ℕ → Bool) → ℕ → Items
    arguments_code no_more W t = none
    arguments_code (e also arguments) W t =
        let level = t + arguments_taken called arguments (together (writes called e) W) in
        arguments_code arguments (together (writes called e) W) t ⧺ expression_code e wanted level ⧺ move_code S level (atom_of called e) (held (atom_of called e) W)

  -- An expression that may be absent; and a part of a for, whose value is dropped.
  abbrev pub operand_code : Part → Use → ℕ → Items
  operand_code absent u t = none
  operand_code (present e) u t = expression_code e u t

  abbrev pub part_code : Part → Items
  part_code part = operand_code part dropped 0

  -- A loop's test: where it is 0, leave the loop for the label l; else the rest.
  abbrev pub test_code : Part → ℕ → Items → Items
  test_code absent l rest = rest
  test_code (present e) l rest = expression_code e wanted 0 ⧺ choosing S (atom S 0 (atom_of called e)) none (goto l then none) rest

  -- An arm: its guard; where that is true its block, and on to the label `out`; else the rest.
  abbrev pub arm_code : Expression → Items → ℕ → Items → Items
  arm_code e body out rest = expression_code e wanted 0 ⧺ choosing S (atom S 0 (atom_of called e)) (body ⧺ goto out then none) none rest

  unfoldable mutual
    -- A statement whose labels begin at l.
    pub statement_code : Statement → Exits → ℕ → Items
    statement_code empty x l = empty then none
    statement_code (express e) x l = or_empty S (expression_code e dropped 0)
    statement_code (block is) x l = block (items_code is x l) then none
    statement_code (if_then e on_true) x l = expression_code e wanted 0 ⧺ choosing S (atom S 0 (atom_of called e)) (statement_code on_true x l) none none
    statement_code (if_else e on_true on_false) x l = expression_code e wanted 0 ⧺ choosing S (atom S 0 (atom_of called e)) (statement_code on_true x l) (statement_code on_false x (l + labels on_true)) none
    -- label l behind the loop, label l + 1 where continue goes: to the end of the round, the test or the step
    statement_code (while e body) x l = loop_code S (test_code (present e) l (statement_code body (exits l (l + 1)) (l + 2) ⧺ label (l + 1) here none)) l
    statement_code (do_while body e) x l = loop_code S (statement_code body (exits l (l + 1)) (l + 2) ⧺ label (l + 1) here test_code (present e) l none) l
    statement_code (for first test action body) x l =
        part_code first ⧺ loop_code S (test_code test l (statement_code body (exits l (l + 1)) (l + 2) ⧺ label (l + 1) here part_code action)) l
    -- all tests first; then the items in their order, each mark a label
    statement_code (switch e is) x l =
        expression_code e wanted 0 ⧺ case_tests S (atom S 0 (atom_of called e)) (taken (atom_of called e)) is (l + 1) ⧺ goto (label_of default is (l + 1) l) then items_code is (exits l x.on_continue) (l + 1) ⧺ label l here none
    statement_code break x l = goto x.on_break then none
    statement_code continue x l = goto x.on_continue then none
    -- the source has no goto
    statement_code (goto k) x l = empty then none
    -- label l behind the arms, which end in abort: no guard was true
    statement_code (guarded_if arms) x l = arms_code arms x l (l + 1) ⧺ abort then label l here none
    statement_code (guarded_do arms) x l = rounds_code S arms (arms_code arms x (l + 1) (l + 2)) l
    -- nor abort
    statement_code abort x l = empty then none
    -- the assignment of the initial value, straight where an assignment's value goes straight
    statement_code (declare i e) x l = expression_code e (stored i) 0 ⧺ store_code S (variable i) (direct e) (atom S 0 (atom_of called e))
    -- "a kernel return takes an atom"
    statement_code (give_back absent) x l = give_back (present (constant (pos 0))) then none
    statement_code (give_back (present e)) x l = expression_code e wanted 0 ⧺ give_back (present (atom S 0 (atom_of called e))) then none

    -- Arms whose labels begin at l, one behind the other, so that the code of many is no deeper than that of one; after its block an arm goes to
    -- the label `out`.
    pub arms_code : Arms → Exits → ℕ → ℕ → Items
    arms_code no_arm x out l = none
    arms_code (arm e s arms) x out l = arm_code e (statement_code s x l) out (arms_code arms x out (l + labels s))

    pub items_code : Items → Exits → ℕ → Items
    items_code none x l = none
    items_code (s then is) x l = statement_code s x l ⧺ items_code is x (l + labels s)
    items_code (m here is) x l = label l here items_code is x (l + 1)
    -- a definition stands at the front of the program's list alone (`program_code`)
    items_code (define f words body is) x l = items_code is x l

-- ---- temporaries

-- The level of an element's value or an operation's result: none where it goes straight into a variable.
abbrev pub result_levels : Use → ℕ
result_levels dropped = 1
result_levels wanted = 1
result_levels (stored i) = 0

abbrev pub read_levels : Place → Use → ℕ
read_levels (variable i) u = 0
read_levels (element array e) u = result_levels u

-- The level of a variable's old value: none where nobody uses it.
abbrev pub old_levels : Use → ℕ
old_levels dropped = 0
old_levels wanted = 1
old_levels (stored i) = 1

module _ (called : ℕ → ℕ → Bool) where
  -- How many temporaries, from its level on, the code of an expression names.
  unfoldable mutual
    pub expression_levels : Expression → Use → ℕ
    expression_levels (constant v) u = 0
    expression_levels (read p) u = max (read_levels p u) (index_levels p)
    expression_levels (minus e) u = max (result_levels u) (expression_levels e wanted)
    expression_levels (not e) u = max (result_levels u) (expression_levels e wanted)
    expression_levels (binary operator a b) u = max (result_levels u) (max (expression_levels b wanted) (taken (held (atom_of called b) (writes called a)) + expression_levels a wanted))
    expression_levels (and a b) u = max 1 (max (expression_levels a wanted) (expression_levels b wanted))
    expression_levels (or a b) u = max 1 (max (expression_levels a wanted) (expression_levels b wanted))
    expression_levels (comma a b) u = max (expression_levels a dropped) (expression_levels b (passed_on u))
    expression_levels (conditional c a b) u = max 1 (max (expression_levels c wanted) (max (expression_levels a wanted) (expression_levels b wanted)))
    expression_levels (assign p e) u = max (expression_levels e (use_for p)) (taken (held (landed p (direct e) (atom_of called e)) (index_writes called p)) + index_levels p)
    expression_levels (compound operator p e) u = max (expression_levels e wanted) (update_levels p)
    expression_levels (prefix operator p) u = update_levels p
    expression_levels (postfix operator p) u = postfix_levels p u
    expression_levels (call f arguments) u = max (result_levels u) (arguments_levels arguments nothing)

    pub index_levels : Place → ℕ
    index_levels (variable i) = 0
    index_levels (element array e) = expression_levels e wanted

    -- The result of an element's update, its index, and the temporary above it.
    pub update_levels : Place → ℕ
    update_levels (variable i) = 0
    update_levels (element array e) = 1 + max (expression_levels e wanted) (taken (atom_of called e) + 1)

    pub postfix_levels : Place → Use → ℕ
    postfix_levels (variable i) u = old_levels u
    postfix_levels (element array e) u = 1 + max (expression_levels e wanted) (taken (atom_of called e) + 1)

    -- The arguments behind one, and above what they take its own code and its copy.
    pub arguments_levels : Arguments → (ℕ → Bool) → ℕ
    arguments_levels no_more W = 0
    arguments_levels (e also arguments) W =
        max (arguments_levels arguments (together (writes called e) W)) (arguments_taken called arguments (together (writes called e) W) + max (expression_levels e wanted) (taken (held (atom_of called e) W)))

  abbrev pub operand_levels : Part → Use → ℕ
  operand_levels absent u = 0
  operand_levels (present e) u = expression_levels e u

  abbrev pub part_levels : Part → ℕ
  part_levels part = operand_levels part dropped

  abbrev pub test_levels : Part → ℕ
  test_levels part = operand_levels part wanted

  unfoldable mutual
    pub statement_levels : Statement → ℕ
    statement_levels empty = 0
    statement_levels (express e) = expression_levels e dropped
    statement_levels (block is) = items_levels is
    statement_levels (if_then e on_true) = max (expression_levels e wanted) (statement_levels on_true)
    statement_levels (if_else e on_true on_false) = max (expression_levels e wanted) (max (statement_levels on_true) (statement_levels on_false))
    statement_levels (while e body) = max (expression_levels e wanted) (statement_levels body)
    statement_levels (do_while body e) = max (expression_levels e wanted) (statement_levels body)
    statement_levels (for first test action body) = max (max (part_levels first) (test_levels test)) (max (part_levels action) (statement_levels body))
    statement_levels (switch e is) = max (taken (atom_of called e) + 1) (max (expression_levels e wanted) (items_levels is))
    statement_levels break = 0
    statement_levels continue = 0
    statement_levels (goto l) = 0
    statement_levels (guarded_if arms) = arms_levels arms
    statement_levels (guarded_do arms) = arms_levels arms
    statement_levels abort = 0
    statement_levels (declare i e) = expression_levels e (stored i)
    statement_levels (give_back value) = operand_levels value wanted

    pub arms_levels : Arms → ℕ
    arms_levels no_arm = 0
    arms_levels (arm e s arms) = max (expression_levels e wanted) (max (statement_levels s) (arms_levels arms))

    pub items_levels : Items → ℕ
    items_levels none = 0
    items_levels (s then is) = max (statement_levels s) (items_levels is)
    items_levels (m here is) = items_levels is
    items_levels (define f words body is) = items_levels is

  -- The levels of a program: those of its main part, and above them those of each function, so that a function's temporaries lie above those of all
  -- that may call it.
  unfoldable pub program_levels : Items → ℕ
  program_levels none = items_levels none
  program_levels (s then is) = items_levels (s then is)
  program_levels (m here is) = items_levels (m here is)
  program_levels (define f words body is) = items_levels body + program_levels is

-- T: the levels of a program.
unfoldable pub temporaries : Items → ℕ
temporaries program = program_levels (functions_write program) program

-- ---- the program

-- The labels of a program, those of its functions among them.
unfoldable pub program_labels : Items → ℕ
program_labels none = items_labels none
program_labels (s then is) = items_labels (s then is)
program_labels (m here is) = items_labels (m here is)
program_labels (define f words body is) = items_labels body + program_labels is

-- A program whose labels begin at l. Definitions stay where they are, at its front; the temporaries of each function begin above those of the
-- functions behind it and of the main part. No break or continue stands outside a loop or switch, so label 0 is not used.
module _ (called : ℕ → ℕ → Bool) (first : ℕ) where
  unfoldable pub program_code : Items → ℕ → Items
  program_code none l = none
  program_code (s then is) l = items_code called first (s then is) (exits 0 0) l
  program_code (m here is) l = items_code called first (m here is) (exits 0 0) l
  program_code (define f words body is) l = define f words (items_code called (first + program_levels called is) body (exits 0 0) l) (program_code is (l + items_labels body))

-- The translation of a program, which is the items of its block; so is what it gives. `first` is the store word where the temporaries
-- begin. Its labels begin at 1.
unfoldable pub translate : ℕ → Items → Items
translate first program = program_code (functions_write program) first program 1

-- "The kernel header adds T temporaries", and "gains D after V": V, D, T, the array lengths.
unfoldable pub kernel_header : Layout → ℕ → ℕ → List ℤ
kernel_header L D T = pos L.variables ∷ pos D ∷ pos T ∷ map pos L.lengths
