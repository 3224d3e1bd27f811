-- No translation is larger than it would be if every result went through a temporary (ThroughTemporaries): no more rows, no more temporaries. A
-- value that stands in a variable has saved the 4 rows of a copy, and is copied once at most.
use Rattle.std.specs.Prelude.{◌≡◌, Bool, true, false, ℕ, ◌+◌, ◌*◌, ◌-◌, ◌≤◌}
use native.Mathlib.Omega.{arith}
use Rattle.words.specs.Word.{pick}
use Rattle.language.specs.Trees.{Expression, constant, read, minus, not, binary, and, or, comma, conditional, assign, compound, prefix, postfix, call, Place, variable, element, Arguments, no_more, ◌also◌, Part, absent, present, Statement, empty, express, block, if_then, if_else, while, do_while, for, switch, break, continue, goto, guarded_if, guarded_do, abort, declare, give_back, Arms, no_arm, arm, Items, none, ◌then◌, ◌here◌, define}
use Rattle.language.specs.Writes.{writes, index_writes}
use Rattle.language.specs.FunctionWrites.{functions_write}
use Rattle.translation.specs.Uses.{use_for, passed_on, direct}
use Rattle.translation.specs.declared.Use.{Use}
use Rattle.translation.specs.declared.Use.TheVariants.{Dropped as dropped, Wanted as wanted, Stored as stored}
use Rattle.translation.specs.Translate.{Atom, number, word, top, held, together, nothing, landed, updated, taken, arguments_taken, atom_of, result_levels, old_levels, expression_levels, index_levels, update_levels, postfix_levels, arguments_levels, part_levels, test_levels, statement_levels, arms_levels, items_levels, program_levels, temporaries}
use Rattle.translation.specs.TranslateSize.{index_rows, copy_rows, hold_rows, store_rows, update_rows, step_rows, postfix_rows, expression_size, index_size, arguments_size, operand_size, test_size, statement_size, arms_size, items_size, program_size}
use Rattle.translation.proofs.HeldCode.{held-variable}
use Rattle.translation.proofs.TranslateBounds.{taken_most}
use Rattle.translation_form.specs.ThroughTemporaries.{through_atom, through_taken, through_size, through_index, through_arguments, through_levels, through_index_levels, through_update_levels, through_arguments_levels, through_part, through_statement, through_arms, through_items, through_program, through_statement_levels, through_arms_levels, through_items_levels, through_program_levels}

-- ---- what holds a value

-- The same atom; or a variable in place of the temporary.
data Nearer : Atom → Atom → Type 0 where
  same : {h : Atom} → Nearer h h
  nearer : {i : ℕ} → Nearer (word i) top

nearer-held : {h k : Atom} (W : ℕ → Bool) → Nearer h k → Nearer (held h W) (held k W)
nearer-held W same = same
nearer-held W (nearer {i = i}) = by (W i)
  where
    by : (b : Bool) → Nearer (pick b top (word i)) top
    by true = same
    by false = nearer

nearer-taken : {h k : Atom} → Nearer h k → taken h ≤ taken k
nearer-taken same = omega arith
nearer-taken nearer = omega arith

-- A copy costs what its absence has saved.
held_rows : (h : Atom) (W : ℕ → Bool) → hold_rows h W + 4 * taken h ≡ 4 * taken (held h W)
held_rows (number v) W = omega arith
held_rows (word i) W = by (W i)
  where
    by : (b : Bool) → 4 * (taken (pick b top (word i)) - 0) + 4 * 0 ≡ 4 * taken (pick b top (word i))
    by true = omega arith
    by false = omega arith
held_rows top W = omega arith

nearer-copy : {h k : Atom} → Nearer h k → copy_rows h + 4 * taken h ≤ copy_rows k + 4 * taken k
nearer-copy same = omega arith
nearer-copy nearer = omega arith

updated-nearer : (p : Place) → Nearer (updated p) top
updated-nearer (variable i) = nearer
updated-nearer (element array e) = same

-- A value that went straight into its variable has saved the rows that store it.
store-saves : (straight : Bool) (i : ℕ) (h : Atom) → pick straight 0 4 + 4 * taken h ≤ 4 + 4 * taken (pick straight (word i) h)
store-saves true i h = omega (arith, taken_most h)
store-saves false i h = omega arith

update-saves : (p : Place) → update_rows p + 4 ≤ 10 + 6 * index_rows p + 4 * taken (updated p)
update-saves (variable i) = omega arith
update-saves (element array e) = omega arith

step-saves : (u : Use) → step_rows u ≤ 10
step-saves dropped = omega arith
step-saves wanted = omega arith
step-saves (stored i) = omega arith

postfix-saves : (p : Place) (u : Use) → postfix_rows p u ≤ 10 + 6 * index_rows p
postfix-saves (variable i) u = step-saves u
postfix-saves (element array e) u = omega arith

variable-rows : (straight : Bool) → pick straight 0 4 ≤ 4
variable-rows true = omega arith
variable-rows false = omega arith

result-less : (u : Use) → result_levels u ≤ 1
result-less dropped = omega arith
result-less wanted = omega arith
result-less (stored i) = omega arith

old-less : (u : Use) → old_levels u ≤ 1
old-less dropped = omega arith
old-less wanted = omega arith
old-less (stored i) = omega arith

module _ (called : ℕ → ℕ → Bool) where
  landing-nearer : (i : ℕ) (e : Expression) → Nearer (atom_of called e) (through_atom called e) → Nearer (pick (direct e) (word i) (atom_of called e)) (through_atom called e)
  unfolding direct through_atom
  landing-nearer i (constant v) n = n
  landing-nearer i (read (variable j)) n = n
  landing-nearer i (read (element array e)) n = nearer
  landing-nearer i (minus e) n = nearer
  landing-nearer i (not e) n = nearer
  landing-nearer i (binary operator a b) n = nearer
  landing-nearer i (and a b) n = n
  landing-nearer i (or a b) n = n
  landing-nearer i (comma a b) n = n
  landing-nearer i (conditional c a b) n = n
  landing-nearer i (assign p e) n = n
  landing-nearer i (compound operator p e) n = n
  landing-nearer i (prefix operator p) n = n
  landing-nearer i (postfix operator p) n = n
  landing-nearer i (call f arguments) n = nearer

  landed-nearer : (p : Place) (e : Expression) → Nearer (atom_of called e) (through_atom called e) → Nearer (landed p (direct e) (atom_of called e)) (through_atom called e)
  landed-nearer (variable i) e n = landing-nearer i e n
  landed-nearer (element array d) e n = n

  atom-nearer : (e : Expression) → Nearer (atom_of called e) (through_atom called e)
  unfolding atom_of through_atom
  atom-nearer (constant v) = same
  atom-nearer (read (variable i)) = same
  atom-nearer (read (element array e)) = same
  atom-nearer (minus e) = same
  atom-nearer (not e) = same
  atom-nearer (binary operator a b) = same
  atom-nearer (and a b) = same
  atom-nearer (or a b) = same
  atom-nearer (comma a b) = atom-nearer b
  atom-nearer (conditional c a b) = same
  atom-nearer (assign p e) = nearer-held (index_writes called p) (landed-nearer p e (atom-nearer e))
  atom-nearer (compound operator p e) = updated-nearer p
  atom-nearer (prefix operator p) = updated-nearer p
  atom-nearer (postfix operator p) = same
  atom-nearer (call f arguments) = same

  -- ---- rows

  -- An assignment: s and t are the rows of its value, straight and through the temporary.
  assign-saves : (p : Place) (e : Expression) (s t : ℕ) → s + 4 * taken (through_atom called e) ≤ t + 4 * taken (atom_of called e)
      → store_rows p (direct e) + hold_rows (landed p (direct e) (atom_of called e)) (index_writes called p) + s + 4 * taken (held (through_atom called e) (index_writes called p))
      ≤ 4 + index_rows p + hold_rows (through_atom called e) (index_writes called p) + t + 4 * taken (held (landed p (direct e) (atom_of called e)) (index_writes called p))
  assign-saves (variable i) e s t h =
      omega (arith, held_rows (pick (direct e) (word i) (atom_of called e)) (index_writes called (variable i)), held_rows (through_atom called e) (index_writes called (variable i)), store-saves (direct e) i (atom_of called e))
  assign-saves (element array d) e s t h = omega (arith, held_rows (atom_of called e) (index_writes called (element array d)), held_rows (through_atom called e) (index_writes called (element array d)))

  -- The same for a compound; and for e++.
  compound-saves : (p : Place) (e : Expression) (s t : ℕ) → s + 4 * taken (through_atom called e) ≤ t + 4 * taken (atom_of called e)
      → update_rows p + hold_rows (atom_of called e) (index_writes called p) + s + 4 ≤ 10 + 6 * index_rows p + hold_rows (through_atom called e) (index_writes called p) + t + 4 * taken (updated p)
  compound-saves (variable i) e s t h = rw (held-variable called (atom_of called e) i, held-variable called (through_atom called e) i) (omega (arith, nearer-taken (atom-nearer e)))
  compound-saves (element array d) e s t h =
      omega (arith, held_rows (atom_of called e) (index_writes called (element array d)), held_rows (through_atom called e) (index_writes called (element array d)), nearer-taken (nearer-held (index_writes called (element array d)) (atom-nearer e)))

  mutual
    unfolding expression_size through_size atom_of through_atom

    size-saves : (e : Expression) (u : Use) → expression_size called e u + 4 * taken (through_atom called e) ≤ through_size called e + 4 * taken (atom_of called e)
    size-saves (constant v) u = omega arith
    size-saves (read p) u = read-saves p u
    size-saves (minus e) u = omega (arith, size-saves e wanted, nearer-taken (atom-nearer e))
    size-saves (not e) u = omega (arith, size-saves e wanted, nearer-taken (atom-nearer e))
    size-saves (binary operator a b) u =
        omega (arith, size-saves a wanted, nearer-taken (atom-nearer a), size-saves b wanted, held_rows (atom_of called b) (writes called a), held_rows (through_atom called b) (writes called a), nearer-taken (nearer-held (writes called a) (atom-nearer b)))
    size-saves (and a b) u = omega (arith, size-saves a wanted, nearer-taken (atom-nearer a), size-saves b wanted, nearer-taken (atom-nearer b))
    size-saves (or a b) u = omega (arith, size-saves a wanted, nearer-taken (atom-nearer a), size-saves b wanted, nearer-taken (atom-nearer b))
    size-saves (comma a b) u = omega (arith, size-saves a dropped, nearer-taken (atom-nearer a), size-saves b (passed_on u))
    size-saves (conditional c a b) u = omega (arith, size-saves c wanted, nearer-taken (atom-nearer c), size-saves a wanted, size-saves b wanted, nearer-copy (atom-nearer a), nearer-copy (atom-nearer b))
    size-saves (assign p e) u = omega (arith, index-saves p, assign-saves p e (expression_size called e (use_for p)) (through_size called e) (size-saves e (use_for p)))
    size-saves (compound operator p e) u = omega (arith, index-saves p, compound-saves p e (expression_size called e wanted) (through_size called e) (size-saves e wanted))
    size-saves (prefix operator p) u = omega (arith, index-saves p, update-saves p)
    size-saves (postfix operator p) u = omega (arith, index-saves p, postfix-saves p u)
    size-saves (call f arguments) u = omega (arith, arguments-save arguments nothing)

    read-saves : (p : Place) (u : Use) → expression_size called (read p) u + 4 * taken (through_atom called (read p)) ≤ through_size called (read p) + 4 * taken (atom_of called (read p))
    read-saves (variable i) u = omega arith
    read-saves (element array e) u = omega (arith, size-saves e wanted, nearer-taken (atom-nearer e))

    index-saves : (p : Place) → index_size called p ≤ through_index called p
    index-saves (variable i) = omega arith
    index-saves (element array e) = omega (arith, size-saves e wanted, nearer-taken (atom-nearer e))

    arguments-save : (arguments : Arguments) (W : ℕ → Bool) → arguments_size called arguments W ≤ through_arguments called arguments W
    arguments-save no_more W = omega arith
    arguments-save (e also arguments) W =
        omega (arith, size-saves e wanted, held_rows (atom_of called e) W, held_rows (through_atom called e) W, nearer-taken (nearer-held W (atom-nearer e)), arguments-save arguments (together (writes called e) W))

  less-rows : (e : Expression) (u : Use) → expression_size called e u ≤ through_size called e
  less-rows e u = omega (arith, size-saves e u, nearer-taken (atom-nearer e))

  part-rows : (p : Part) (u : Use) → operand_size called p u ≤ through_part (through_size called) p
  part-rows absent u = omega arith
  part-rows (present e) u = less-rows e u

  test-rows : (p : Part) → test_size called p ≤ through_part (λ e. through_size called e + 5) p
  test-rows absent = omega arith
  test-rows (present e) = omega (arith, less-rows e wanted)

  mutual
    unfolding statement_size through_statement

    statement-rows : (s : Statement) → statement_size called s ≤ through_statement called s
    statement-rows empty = omega arith
    statement-rows (express e) = omega (arith, less-rows e dropped)
    statement-rows (block is) = omega (arith, items-rows is)
    statement-rows (if_then e on_true) = omega (arith, less-rows e wanted, statement-rows on_true)
    statement-rows (if_else e on_true on_false) = omega (arith, less-rows e wanted, statement-rows on_true, statement-rows on_false)
    statement-rows (while e body) = omega (arith, less-rows e wanted, statement-rows body)
    statement-rows (do_while body e) = omega (arith, less-rows e wanted, statement-rows body)
    statement-rows (for first test action body) = omega (arith, part-rows first dropped, test-rows test, part-rows action dropped, statement-rows body)
    statement-rows (switch e is) = omega (arith, less-rows e wanted, items-rows is)
    statement-rows break = omega arith
    statement-rows continue = omega arith
    statement-rows (goto l) = omega arith
    statement-rows (guarded_if arms) = omega (arith, arms-rows arms)
    statement-rows (guarded_do arms) = omega (arith, arms-rows arms)
    statement-rows abort = omega arith
    statement-rows (declare i e) = omega (arith, less-rows e (stored i), variable-rows (direct e))
    statement-rows (give_back value) = omega (arith, part-rows value wanted)

    arms-rows : (arms : Arms) → arms_size called arms ≤ through_arms called arms
    arms-rows no_arm = omega arith
    arms-rows (arm e s arms) = omega (arith, less-rows e wanted, statement-rows s, arms-rows arms)

    items-rows : (is : Items) → items_size called is ≤ through_items called is
    items-rows none = omega arith
    items-rows (s then is) = omega (arith, statement-rows s, items-rows is)
    items-rows (m here is) = omega (arith, items-rows is)
    items-rows (define f words body is) = items-rows is

  program-rows : (program : Items) → program_size called program ≤ through_program called program
  unfolding program_size through_program
  program-rows none = items-rows none
  program-rows (s then is) = items-rows (s then is)
  program-rows (m here is) = items-rows (m here is)
  program-rows (define f words body is) = omega (arith, items-rows body, program-rows is)

  -- ---- temporaries

  taken-less : (arguments : Arguments) (W : ℕ → Bool) → arguments_taken called arguments W ≤ through_taken called arguments W
  unfolding arguments_taken through_taken
  taken-less no_more W = omega arith
  taken-less (e also arguments) W = omega (arith, taken-less arguments (together (writes called e) W), nearer-taken (nearer-held W (atom-nearer e)))

  mutual
    unfolding expression_levels through_levels through_atom

    less-levels : (e : Expression) (u : Use) → expression_levels called e u ≤ through_levels called e
    less-levels (constant v) u = omega arith
    less-levels (read p) u = read-less p u
    less-levels (minus e) u = omega (arith, less-levels e wanted, result-less u)
    less-levels (not e) u = omega (arith, less-levels e wanted, result-less u)
    less-levels (binary operator a b) u = omega (arith, less-levels a wanted, less-levels b wanted, result-less u, nearer-taken (nearer-held (writes called a) (atom-nearer b)))
    less-levels (and a b) u = omega (arith, less-levels a wanted, less-levels b wanted)
    less-levels (or a b) u = omega (arith, less-levels a wanted, less-levels b wanted)
    less-levels (comma a b) u = omega (arith, less-levels a dropped, less-levels b (passed_on u))
    less-levels (conditional c a b) u = omega (arith, less-levels c wanted, less-levels a wanted, less-levels b wanted)
    less-levels (assign p e) u = omega (arith, less-levels e (use_for p), index-less p, nearer-taken (nearer-held (index_writes called p) (landed-nearer p e (atom-nearer e))))
    less-levels (compound operator p e) u = omega (arith, less-levels e wanted, update-less p)
    less-levels (prefix operator p) u = update-less p
    less-levels (postfix operator p) u = postfix-less p u
    less-levels (call f arguments) u = omega (arith, result-less u, arguments-less arguments nothing)

    read-less : (p : Place) (u : Use) → expression_levels called (read p) u ≤ through_levels called (read p)
    read-less (variable i) u = omega arith
    read-less (element array e) u = omega (arith, less-levels e wanted, result-less u)

    index-less : (p : Place) → index_levels called p ≤ through_index_levels called p
    index-less (variable i) = omega arith
    index-less (element array e) = less-levels e wanted

    update-less : (p : Place) → update_levels called p ≤ 1 + through_update_levels called p
    update-less (variable i) = omega arith
    update-less (element array e) = omega (arith, less-levels e wanted, nearer-taken (atom-nearer e))

    postfix-less : (p : Place) (u : Use) → postfix_levels called p u ≤ 1 + through_update_levels called p
    postfix-less (variable i) u = omega (arith, old-less u)
    postfix-less (element array e) u = omega (arith, less-levels e wanted, nearer-taken (atom-nearer e))

    arguments-less : (arguments : Arguments) (W : ℕ → Bool) → arguments_levels called arguments W ≤ through_arguments_levels called arguments W
    arguments-less no_more W = omega arith
    arguments-less (e also arguments) W =
        let after = together (writes called e) W in
        omega (arith, arguments-less arguments after, taken-less arguments after, less-levels e wanted, nearer-taken (nearer-held W (atom-nearer e)))

  part-less : (p : Part) → part_levels called p ≤ through_part (through_levels called) p
  part-less absent = omega arith
  part-less (present e) = less-levels e dropped

  test-less : (p : Part) → test_levels called p ≤ through_part (through_levels called) p
  test-less absent = omega arith
  test-less (present e) = less-levels e wanted

  mutual
    unfolding statement_levels through_statement_levels

    statement_less : (s : Statement) → statement_levels called s ≤ through_statement_levels called s
    statement_less empty = omega arith
    statement_less (express e) = less-levels e dropped
    statement_less (block is) = items-less is
    statement_less (if_then e on_true) = omega (arith, less-levels e wanted, statement_less on_true)
    statement_less (if_else e on_true on_false) = omega (arith, less-levels e wanted, statement_less on_true, statement_less on_false)
    statement_less (while e body) = omega (arith, less-levels e wanted, statement_less body)
    statement_less (do_while body e) = omega (arith, less-levels e wanted, statement_less body)
    statement_less (for first test action body) = omega (arith, part-less first, test-less test, part-less action, statement_less body)
    statement_less (switch e is) = omega (arith, less-levels e wanted, items-less is, nearer-taken (atom-nearer e))
    statement_less break = omega arith
    statement_less continue = omega arith
    statement_less (goto l) = omega arith
    statement_less (guarded_if arms) = arms_less arms
    statement_less (guarded_do arms) = arms_less arms
    statement_less abort = omega arith
    statement_less (declare i e) = less-levels e (stored i)
    statement_less (give_back value) = test-less value

    arms_less : (arms : Arms) → arms_levels called arms ≤ through_arms_levels called arms
    arms_less no_arm = omega arith
    arms_less (arm e s arms) = omega (arith, less-levels e wanted, statement_less s, arms_less arms)

    items-less : (is : Items) → items_levels called is ≤ through_items_levels called is
    items-less none = omega arith
    items-less (s then is) = omega (arith, statement_less s, items-less is)
    items-less (m here is) = items-less is
    items-less (define f words body is) = items-less is

  program-less : (program : Items) → program_levels called program ≤ through_program_levels called program
  unfolding program_levels through_program_levels
  program-less none = items-less none
  program-less (s then is) = items-less (s then is)
  program-less (m here is) = items-less (m here is)
  program-less (define f words body is) = omega (arith, items-less body, program-less is)

-- No program gets more rows.
pub fewer-rows : (program : Items) → program_size (functions_write program) program ≤ through_program (functions_write program) program
fewer-rows program = program-rows (functions_write program) program

-- And no more temporaries.
pub fewer-temporaries : (program : Items) → temporaries program ≤ through_program_levels (functions_write program) program
unfolding temporaries
fewer-temporaries program = program-less (functions_write program) program
