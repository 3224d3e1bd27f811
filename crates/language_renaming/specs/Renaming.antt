-- Renaming: a program with every variable named by another store word, and every function by another number. Arrays keep their numbers.
use Rattle.std.specs.Prelude.{map, ℕ}
use Rattle.language.specs.Trees.{Expression, constant, read, minus, not, binary, and, or, comma, conditional, assign, compound, prefix, postfix, call, Place, variable, element, Arguments, no_more, ◌also◌, Part, absent, present, Statement, empty, express, block, if_then, if_else, while, do_while, for, switch, break, continue, goto, guarded_if, guarded_do, abort, declare, give_back, Arms, no_arm, arm, Items, none, ◌then◌, ◌here◌, define}

-- `π i` is the word that stands for i, `ρ f` the number that stands for f.
module _ (π ρ : ℕ → ℕ) where
  unfoldable mutual
    pub renamed : Expression → Expression
    renamed (constant v) = constant v
    renamed (read p) = read (renamed_place p)
    renamed (minus e) = minus (renamed e)
    renamed (not e) = not (renamed e)
    renamed (binary operator a b) = binary operator (renamed a) (renamed b)
    renamed (and a b) = and (renamed a) (renamed b)
    renamed (or a b) = or (renamed a) (renamed b)
    renamed (comma a b) = comma (renamed a) (renamed b)
    renamed (conditional c a b) = conditional (renamed c) (renamed a) (renamed b)
    renamed (assign p e) = assign (renamed_place p) (renamed e)
    renamed (compound operator p e) = compound operator (renamed_place p) (renamed e)
    renamed (prefix operator p) = prefix operator (renamed_place p)
    renamed (postfix operator p) = postfix operator (renamed_place p)
    renamed (call f arguments) = call (ρ f) (renamed_arguments arguments)

    pub renamed_place : Place → Place
    renamed_place (variable i) = variable (π i)
    renamed_place (element array e) = element array (renamed e)

    pub renamed_arguments : Arguments → Arguments
    renamed_arguments no_more = no_more
    renamed_arguments (e also arguments) = renamed e also renamed_arguments arguments

  abbrev pub renamed_part : Part → Part
  renamed_part absent = absent
  renamed_part (present e) = present (renamed e)

  unfoldable mutual
    pub renamed_statement : Statement → Statement
    renamed_statement empty = empty
    renamed_statement (express e) = express (renamed e)
    renamed_statement (block is) = block (renamed_items is)
    renamed_statement (if_then e on_true) = if_then (renamed e) (renamed_statement on_true)
    renamed_statement (if_else e on_true on_false) = if_else (renamed e) (renamed_statement on_true) (renamed_statement on_false)
    renamed_statement (while e body) = while (renamed e) (renamed_statement body)
    renamed_statement (do_while body e) = do_while (renamed_statement body) (renamed e)
    renamed_statement (for first test action body) = for (renamed_part first) (renamed_part test) (renamed_part action) (renamed_statement body)
    renamed_statement (switch e is) = switch (renamed e) (renamed_items is)
    renamed_statement break = break
    renamed_statement continue = continue
    renamed_statement (goto l) = goto l
    renamed_statement (guarded_if arms) = guarded_if (renamed_arms arms)
    renamed_statement (guarded_do arms) = guarded_do (renamed_arms arms)
    renamed_statement abort = abort
    renamed_statement (declare word e) = declare (π word) (renamed e)
    renamed_statement (give_back value) = give_back (renamed_part value)

    pub renamed_arms : Arms → Arms
    renamed_arms no_arm = no_arm
    renamed_arms (arm guard body arms) = arm (renamed guard) (renamed_statement body) (renamed_arms arms)

    pub renamed_items : Items → Items
    renamed_items none = none
    renamed_items (s then is) = renamed_statement s then renamed_items is
    renamed_items (m here is) = m here renamed_items is
    renamed_items (define f words body is) = define (ρ f) (map π words) (renamed_items body) (renamed_items is)
