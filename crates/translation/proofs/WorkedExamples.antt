-- Examples: document 01's program, one of its switches, values that go straight to their place, and both guarded forms, with their
-- translations. By computation.
use Rattle.std.specs.Prelude.{◌≡◌, refl, [], ◌∷◌, ℕ, pos}
use Rattle.words.specs.Word.{is_word, natural}
use Rattle.words.specs.Layout.{Layout, sum, store_size, array_base, array_length}
use Rattle.arithmetic.specs.Arithmetic.{in_word, apply, element as element_word}
use Rattle.words.specs.declared.Operator.TheVariants.{Add, Subtract, Greater, Equal}
use Rattle.computation.specs.Run.{start, rounds, run, final}
use Rattle.language.specs.Trees.{Expression, constant, read, minus, not, binary, comma, conditional, assign, compound, prefix, postfix, Place, variable, element, case, default, label, Statement, empty, express, block, if_else, while, switch, goto, guarded_if, guarded_do, abort, Arms, no_arm, arm, Items, none, ◌then◌, ◌here◌, ◌⧺◌, same_mark}
use Rattle.language.specs.Meaning.{evaluate, perform, exec}
use Rattle.language.specs.Functions.{function_count, plain}
use Rattle.language.specs.Writes.{writes}
use Rattle.language.specs.FunctionWrites.{written_by, functions_write}
use Rattle.translation.specs.Uses.{direct}
use Rattle.translation.specs.Translate.{atom_of, place_taken, labels, label_of, kernel_place, expression_code, case_tests, statement_code, translate, expression_levels, statement_levels, program_levels, program_code, temporaries}

-- One variable and one array of 3, so S = 4: temporary 0 is variable 4.
abbrev layout : Layout
layout = record { variables = 1; lengths = 3 ∷ [] }

abbrev set : Place → Expression → Statement
set p e = express (assign p e)

-- v0 = 2; a[v0 -= 1] = v0++;
abbrev worked : Items
worked = set (variable 0) (constant (pos 2)) then set (element 0 (compound Subtract (variable 0) (constant (pos 1)))) (postfix Add (variable 0)) then none

-- v0 = 2; t0 = v0; v0 = t0 + 1; v0 = v0 - 1; a[v0] = t0;
pub worked-translation : translate (store_size layout) worked
    ≡ set (variable 0) (constant (pos 2))
    then set (variable 4) (read (variable 0))
    then set (variable 0) (binary Add (read (variable 4)) (constant (pos 1)))
    then set (variable 0) (binary Subtract (read (variable 0)) (constant (pos 1)))
    then set (element 0 (read (variable 0))) (read (variable 4))
    then none
unfolding translate program_code functions_write written_by function_count statement_code expression_code direct atom_of place_taken kernel_place labels store_size sum ◌⧺◌
worked-translation = refl

pub worked-temporaries : temporaries worked ≡ 1
unfolding temporaries program_levels functions_write written_by function_count statement_levels expression_levels direct atom_of writes
worked-temporaries = refl

-- From zeros, and 7 in the temporary, the kernel leaves 2, 0, 0, 2, as the source does.
pub worked-kernel : (final (run (rounds 0) (exec (plain layout) (block (translate (store_size layout) worked))) (start (pos 0 ∷ pos 0 ∷ pos 0 ∷ pos 0 ∷ pos 7 ∷ [])))).store ≡ pos 2 ∷ pos 0 ∷ pos 0 ∷ pos 2 ∷ pos 2 ∷ []
unfolding translate program_code functions_write written_by function_count statement_code expression_code direct atom_of place_taken kernel_place labels store_size sum ◌⧺◌ run perform evaluate apply in_word is_word array_base array_length element_word natural
worked-kernel = refl

-- switch (v0) { default: a[0] = 1; case 2: a[1] = 1; }
abbrev choice : Items
choice = switch (read (variable 0)) (default here set (element 0 (constant (pos 0))) (constant (pos 1)) then case (pos 2) here set (element 0 (constant (pos 1))) (constant (pos 1)) then none) then none

-- t0 = v0 == 2; if (t0) { goto L3; } else { } goto L2; L2: a[0] = 1; L3: a[1] = 1; L1:
pub choice-translation : translate (store_size layout) choice
    ≡ set (variable 4) (binary Equal (read (variable 0)) (constant (pos 2)))
    then if_else (read (variable 4)) (block (goto 3 then none)) (block none)
    then goto 2
    then label 2 here set (element 0 (constant (pos 0))) (constant (pos 1))
    then label 3 here set (element 0 (constant (pos 1))) (constant (pos 1))
    then label 1 here none
unfolding translate program_code functions_write written_by function_count statement_code expression_code case_tests direct atom_of place_taken kernel_place labels label_of same_mark store_size sum ◌⧺◌
choice-translation = refl

-- Two variables: S = 2.
abbrev pair : Layout
pair = record { variables = 2; lengths = [] }

abbrev sum_of : Expression → Expression → Items
sum_of a b = set (variable 1) (binary Add a b) then none

-- v1 = v1 + v0: no copy, and straight into v1
pub plain-operands : translate (store_size pair) (sum_of (read (variable 1)) (read (variable 0))) ≡ set (variable 1) (binary Add (read (variable 1)) (read (variable 0))) then none
unfolding translate program_code functions_write written_by function_count statement_code expression_code direct atom_of writes place_taken kernel_place labels store_size sum ◌⧺◌
plain-operands = refl

-- v1 = (v0 = 5) + v0: the left operand writes v0; t0 = v0; v0 = 5; v1 = 5 + t0
pub copied-operand : translate (store_size pair) (sum_of (assign (variable 0) (constant (pos 5))) (read (variable 0)))
    ≡ set (variable 2) (read (variable 0)) then set (variable 0) (constant (pos 5)) then set (variable 1) (binary Add (constant (pos 5)) (read (variable 2))) then none
unfolding translate program_code functions_write written_by function_count statement_code expression_code direct atom_of writes place_taken kernel_place labels store_size sum ◌⧺◌
copied-operand = refl

-- v1 = (v0 = 3) + (v0 = v0 + v1): so does it write the value that stands in v0; v0 = v0 + v1; t0 = v0; v0 = 3; v1 = 3 + t0
pub copied-result : translate (store_size pair) (sum_of (assign (variable 0) (constant (pos 3))) (assign (variable 0) (binary Add (read (variable 0)) (read (variable 1)))))
    ≡ set (variable 0) (binary Add (read (variable 0)) (read (variable 1)))
    then set (variable 2) (read (variable 0))
    then set (variable 0) (constant (pos 3))
    then set (variable 1) (binary Add (constant (pos 3)) (read (variable 2)))
    then none
unfolding translate program_code functions_write written_by function_count statement_code expression_code direct atom_of writes place_taken kernel_place labels store_size sum ◌⧺◌
copied-result = refl

-- ---- values straight to their place

-- Two variables and one array of 3: S = 5.
abbrev places : Layout
places = record { variables = 2; lengths = 3 ∷ [] }

-- v0 = v1 + 2; v1 = !v0; v0 = -v1; v1 = a[v0]; v0 = v0 + (v0 = 5);
abbrev straight : Items
straight = set (variable 0) (binary Add (read (variable 1)) (constant (pos 2)))
    then set (variable 1) (not (read (variable 0)))
    then set (variable 0) (minus (read (variable 1)))
    then set (variable 1) (read (element 0 (read (variable 0))))
    then set (variable 0) (binary Add (read (variable 0)) (assign (variable 0) (constant (pos 5))))
    then none

-- v0 = v1 + 2; v1 = v0 == 0; v0 = -v1; v1 = a[v0]; v0 = 5; v0 = v0 + 5;
pub straight-translation : translate (store_size places) straight
    ≡ set (variable 0) (binary Add (read (variable 1)) (constant (pos 2)))
    then set (variable 1) (binary Equal (read (variable 0)) (constant (pos 0)))
    then set (variable 0) (minus (read (variable 1)))
    then set (variable 1) (read (element 0 (read (variable 0))))
    then set (variable 0) (constant (pos 5))
    then set (variable 0) (binary Add (read (variable 0)) (constant (pos 5)))
    then none
unfolding translate program_code functions_write written_by function_count statement_code expression_code direct atom_of writes place_taken kernel_place labels store_size sum ◌⧺◌
straight-translation = refl

pub straight-temporaries : temporaries straight ≡ 0
unfolding temporaries program_levels functions_write written_by function_count statement_levels expression_levels direct atom_of writes
straight-temporaries = refl

-- v0 += 2; --v0; v0++, v1--; a[v0] = v0 += 1; v1 = v0++;
abbrev updates : Items
updates = express (compound Add (variable 0) (constant (pos 2)))
    then express (prefix Subtract (variable 0))
    then express (comma (postfix Add (variable 0)) (postfix Subtract (variable 1)))
    then set (element 0 (read (variable 0))) (compound Add (variable 0) (constant (pos 1)))
    then set (variable 1) (postfix Add (variable 0))
    then none

-- v0 = v0 + 2; v0 = v0 - 1; v0 = v0 + 1; v1 = v1 - 1; v0 = v0 + 1; a[v0] = v0; and where the old value is used, t0 = v0; v0 = t0 + 1; v1 = t0;
pub updates-translation : translate (store_size places) updates
    ≡ set (variable 0) (binary Add (read (variable 0)) (constant (pos 2)))
    then set (variable 0) (binary Subtract (read (variable 0)) (constant (pos 1)))
    then set (variable 0) (binary Add (read (variable 0)) (constant (pos 1)))
    then set (variable 1) (binary Subtract (read (variable 1)) (constant (pos 1)))
    then set (variable 0) (binary Add (read (variable 0)) (constant (pos 1)))
    then set (element 0 (read (variable 0))) (read (variable 0))
    then set (variable 5) (read (variable 0))
    then set (variable 0) (binary Add (read (variable 5)) (constant (pos 1)))
    then set (variable 1) (read (variable 5))
    then none
unfolding translate program_code functions_write written_by function_count statement_code expression_code direct atom_of writes place_taken kernel_place labels store_size sum ◌⧺◌
updates-translation = refl

-- v0 = (v0 = 1, v0 + 2); v0 = v1 ? 1 : 2;
abbrev indirect : Items
indirect = set (variable 0) (comma (assign (variable 0) (constant (pos 1))) (binary Add (read (variable 0)) (constant (pos 2))))
    then set (variable 0) (conditional (read (variable 1)) (constant (pos 1)) (constant (pos 2)))
    then none

-- By the temporary: v0 = 1; t0 = v0 + 2; v0 = t0; if (v1) { t0 = 1; } else { t0 = 2; } v0 = t0;
pub indirect-translation : translate (store_size places) indirect
    ≡ set (variable 0) (constant (pos 1))
    then set (variable 5) (binary Add (read (variable 0)) (constant (pos 2)))
    then set (variable 0) (read (variable 5))
    then if_else (read (variable 1)) (block (set (variable 5) (constant (pos 1)) then none)) (block (set (variable 5) (constant (pos 2)) then none))
    then set (variable 0) (read (variable 5))
    then none
unfolding translate program_code functions_write written_by function_count statement_code expression_code direct atom_of writes place_taken kernel_place labels store_size sum ◌⧺◌
indirect-translation = refl

-- ---- guarded statements

-- v0 > v1 -> { v0 -= v1; }, and what comes of it where the next label is L2
abbrev reduces : ℕ → ℕ → Arms → Arms
reduces i j arms = arm (binary Greater (read (variable i)) (read (variable j))) (block (express (compound Subtract (variable i) (read (variable j))) then none)) arms

abbrev reduced : ℕ → ℕ → Items → Items
reduced i j rest = set (variable 2) (binary Greater (read (variable i)) (read (variable j)))
    then if_else (read (variable 2)) (block (block (set (variable i) (binary Subtract (read (variable i)) (read (variable j))) then none) then goto 2 then none)) (block none)
    then rest

-- do v0 > v1 -> { v0 -= v1; } [] v1 > v0 -> { v1 -= v0; } od
abbrev divisor : Items
divisor = guarded_do (reduces 0 1 (reduces 1 0 no_arm)) then none

-- while (1) { t0 = v0 > v1; if (t0) { { v0 = v0 - v1; } goto L2; } else { } .. goto L1; L2: } L1:
pub divisor-translation : translate (store_size pair) divisor ≡ while (constant (pos 1)) (block (reduced 0 1 (reduced 1 0 (goto 1 then label 2 here none)))) then label 1 here none
unfolding translate program_code functions_write written_by function_count statement_code expression_code direct atom_of writes place_taken kernel_place labels store_size sum ◌⧺◌
divisor-translation = refl

-- if v0 -> { v1 = 1; } fi: if (v0) { { v1 = 1; } goto L1; } else { } abort; L1:
pub guarded-translation : translate (store_size pair) (guarded_if (arm (read (variable 0)) (block (set (variable 1) (constant (pos 1)) then none)) no_arm) then none)
    ≡ if_else (read (variable 0)) (block (block (set (variable 1) (constant (pos 1)) then none) then goto 1 then none)) (block none)
    then abort
    then label 1 here none
unfolding translate program_code functions_write written_by function_count statement_code expression_code direct atom_of writes place_taken kernel_place labels store_size sum ◌⧺◌
guarded-translation = refl

-- Without arms there is nothing to go round.
pub no-arms-translation : translate (store_size pair) (guarded_do no_arm then guarded_if no_arm then none) ≡ empty then abort then label 1 here none
unfolding translate program_code functions_write written_by function_count statement_code labels store_size sum ◌⧺◌
no-arms-translation = refl
