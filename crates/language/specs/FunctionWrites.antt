-- Write sets of statements and of functions: "a call can write what its function can". A function can write its parameters and what its block
-- can: the places of its expressions, the words of its declarations, and what the functions can that it calls.
use Rattle.std.specs.Prelude.{Bool, false, ◌||◌, List, [], ◌∷◌, ℕ, zero, suc, eqb}
use Rattle.language.specs.Trees.{Part, absent, present, Statement, empty, express, block, if_then, if_else, while, do_while, for, switch, break, continue, goto, guarded_if, guarded_do, abort, declare, give_back, Arms, no_arm, arm, Items, none, ◌then◌, ◌here◌, define}
use Rattle.language.specs.Functions.{Function, function_of, function_count}
use Rattle.language.specs.Writes.{writes}

unfoldable pub is_among : ℕ → List ℕ → Bool
is_among i [] = false
is_among i (word ∷ words) = eqb word i || is_among i words

module _ (called : ℕ → ℕ → Bool) where
  abbrev pub part_writes : Part → ℕ → Bool
  part_writes absent i = false
  part_writes (present e) i = writes called e i

  unfoldable mutual
    -- Whether a statement can write the variable i.
    pub statement_writes : Statement → ℕ → Bool
    statement_writes empty i = false
    statement_writes (express e) i = writes called e i
    statement_writes (block is) i = items_write is i
    statement_writes (if_then e on_true) i = writes called e i || statement_writes on_true i
    statement_writes (if_else e on_true on_false) i = writes called e i || (statement_writes on_true i || statement_writes on_false i)
    statement_writes (while e body) i = writes called e i || statement_writes body i
    statement_writes (do_while body e) i = statement_writes body i || writes called e i
    statement_writes (for first test action body) i = part_writes first i || (part_writes test i || (part_writes action i || statement_writes body i))
    statement_writes (switch e is) i = writes called e i || items_write is i
    statement_writes break i = false
    statement_writes continue i = false
    statement_writes (goto l) i = false
    statement_writes (guarded_if arms) i = arms_write arms i
    statement_writes (guarded_do arms) i = arms_write arms i
    statement_writes abort i = false
    statement_writes (declare word e) i = eqb word i || writes called e i
    statement_writes (give_back part) i = part_writes part i

    pub arms_write : Arms → ℕ → Bool
    arms_write no_arm i = false
    arms_write (arm guard body arms) i = writes called guard i || (statement_writes body i || arms_write arms i)

    -- A definition writes nothing where it stands.
    pub items_write : Items → ℕ → Bool
    items_write none i = false
    items_write (s then is) i = statement_writes s i || items_write is i
    items_write (m here is) i = items_write is i
    items_write (define f words body is) i = items_write is i

  unfoldable pub function_writes : Function → ℕ → Bool
  function_writes function i = is_among i function.parameters || items_write function.body i

-- A function calls lower ones alone, so as many calls within calls as there are functions are enough.
unfoldable pub written_by : ℕ → Items → ℕ → ℕ → Bool
written_by zero program f i = false
written_by (suc calls) program f i = function_writes (written_by calls program) (function_of f program) i

-- What each function of a program can write.
unfoldable pub functions_write : Items → ℕ → ℕ → Bool
functions_write program = written_by (function_count program) program
