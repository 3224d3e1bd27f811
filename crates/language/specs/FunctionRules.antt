-- Rules that pin the clauses of functions: the order of arguments, parameters stored after the last of them, the rows that count, returns, the end of a
-- function, definitions passed over, budgets spent within a call, a fault in an argument. Names stand as store words, as in a resolved table: the
-- parameters lie behind the header's words. Their table.
use Rattle.std.specs.Prelude.{List, [], ◌∷◌, ◌++◌, ℕ, ℤ, pos}
use Rattle.words.specs.declared.FaultSort.TheVariants.{ZeroDivisor}
use Rattle.words.specs.declared.Ending.{Ending}
use Rattle.words.specs.declared.Ending.TheVariants.{Plain, Spent, Fault}
use Rattle.language.specs.Program.{Finished}
use Rattle.language.specs.Rule.{Rule, row, constant, case}

abbrev comes : Ending → ℕ → List ℤ → Finished
comes ending count store = record { ending = ending; count = count; store = store }

-- int f(int x, int y) { return x - y; } v0 = f(f(9, 3), 2);
abbrev nested_rows : List ℤ
nested_rows = row 42 1 0 0 0 0
    ++ row 59 0 2 4 0 9
    ++ row 58 1 0 0 0 3
    ++ row 58 2 0 0 0 0
    ++ row 42 5 0 0 0 0
    ++ row 60 6 0 0 0 0
    ++ row 7 7 8 0 0 0
    ++ row 2 1 0 0 0 0
    ++ row 2 2 0 0 0 0
    ++ row 41 10 0 0 0 0
    ++ row 21 11 12 0 0 0
    ++ row 2 0 0 0 0 0
    ++ row 31 0 13 0 0 0
    ++ row 32 14 0 0 0 19
    ++ row 31 0 15 0 0 0
    ++ row 32 16 0 0 0 17
    ++ constant (pos 9)
    ++ row 32 18 0 0 0 0
    ++ constant (pos 3)
    ++ row 32 20 0 0 0 0
    ++ constant (pos 2)

abbrev nested_call : ℕ → Finished → Rule
nested_call budget finished = record { header = pos 1 ∷ []; rows = nested_rows; store = pos 0 ∷ pos 5 ∷ pos 5 ∷ []; budget = budget; comes_to = finished }

-- the call's row, then for each argument, from the last on, its row and its expression's rows; the block's row; the return's, and its expression's
abbrev pub nested-call : Rule
nested-call = nested_call 100 (comes Plain 23 (pos 4 ∷ pos 6 ∷ pos 2 ∷ []))

-- the step that falls due is the first argument's constant: nothing is stored
abbrev pub spent_at_an_argument : Rule
spent_at_an_argument = nested_call 11 (comes Spent 11 (pos 0 ∷ pos 5 ∷ pos 5 ∷ []))

-- the step that falls due is the block's: the parameters are stored
abbrev pub spent_at_the_block : Rule
spent_at_the_block = nested_call 12 (comes Spent 12 (pos 0 ∷ pos 9 ∷ pos 3 ∷ []))

-- the same in the outer call
abbrev pub spent_at_the_outer_block : Rule
spent_at_the_outer_block = nested_call 17 (comes Spent 17 (pos 0 ∷ pos 6 ∷ pos 2 ∷ []))

abbrev pub spent_at_the_place : Rule
spent_at_the_place = nested_call 22 (comes Spent 22 (pos 0 ∷ pos 6 ∷ pos 2 ∷ []))

abbrev pub just_enough : Rule
just_enough = nested_call 23 (comes Plain 23 (pos 4 ∷ pos 6 ∷ pos 2 ∷ []))

-- int f(int x, int y) { } v1 = f(v0, v0 = 3); with v0 = 1: the last argument is worked out first; reaching the end returns 0
abbrev pub last_argument_first : Rule
last_argument_first = record {
  header = pos 2 ∷ [];
  rows = row 42 1 0 0 0 0
      ++ row 59 0 2 4 0 5
      ++ row 58 2 0 0 0 3
      ++ row 58 3 0 0 0 0
      ++ row 42 0 0 0 0 0
      ++ row 41 6 0 0 0 0
      ++ row 21 7 8 0 0 0
      ++ row 2 1 0 0 0 0
      ++ row 31 0 9 0 0 0
      ++ row 32 10 0 0 0 11
      ++ row 2 0 0 0 0 0
      ++ row 32 12 0 0 0 0
      ++ row 21 13 14 0 0 0
      ++ row 2 0 0 0 0 0
      ++ constant (pos 3);
  store = pos 1 ∷ pos 7 ∷ pos 5 ∷ pos 5 ∷ [];
  budget = 100;
  comes_to = comes Plain 12 (pos 3 ∷ pos 0 ∷ pos 3 ∷ pos 3 ∷ []);
}

-- v1 = f(v0 = 3, v0); with v0 = 1
abbrev pub first_argument_last : Rule
first_argument_last = record {
  header = pos 2 ∷ [];
  rows = row 42 1 0 0 0 0
      ++ row 59 0 2 4 0 5
      ++ row 58 2 0 0 0 3
      ++ row 58 3 0 0 0 0
      ++ row 42 0 0 0 0 0
      ++ row 41 6 0 0 0 0
      ++ row 21 7 8 0 0 0
      ++ row 2 1 0 0 0 0
      ++ row 31 0 9 0 0 0
      ++ row 32 10 0 0 0 13
      ++ row 21 11 12 0 0 0
      ++ row 2 0 0 0 0 0
      ++ constant (pos 3)
      ++ row 32 14 0 0 0 0
      ++ row 2 0 0 0 0 0;
  store = pos 1 ∷ pos 7 ∷ pos 5 ∷ pos 5 ∷ [];
  budget = 100;
  comes_to = comes Plain 12 (pos 3 ∷ pos 0 ∷ pos 3 ∷ pos 1 ∷ []);
}

-- v1 = f(v0 = 3, 1 / 0); the fault comes before the first argument is worked out, and no parameter is stored
abbrev pub argument_faults : Rule
argument_faults = record {
  header = pos 2 ∷ [];
  rows = row 42 1 0 0 0 0
      ++ row 59 0 2 4 0 5
      ++ row 58 2 0 0 0 3
      ++ row 58 3 0 0 0 0
      ++ row 42 0 0 0 0 0
      ++ row 41 6 0 0 0 0
      ++ row 21 7 8 0 0 0
      ++ row 2 1 0 0 0 0
      ++ row 31 0 9 0 0 0
      ++ row 32 10 0 0 0 13
      ++ row 21 11 12 0 0 0
      ++ row 2 0 0 0 0 0
      ++ constant (pos 3)
      ++ row 32 14 0 0 0 0
      ++ row 9 15 16 0 0 0
      ++ constant (pos 1)
      ++ constant (pos 0);
  store = pos 1 ∷ pos 7 ∷ pos 5 ∷ pos 5 ∷ [];
  budget = 100;
  comes_to = comes (Fault ZeroDivisor) 8 (pos 1 ∷ pos 7 ∷ pos 5 ∷ pos 5 ∷ []);
}

-- int f() { while (1) do for (;;) switch (1) { case 1: return 7; case 2: } while (1); } v0 = f();
abbrev pub return_leaves_loops : Rule
return_leaves_loops = record {
  header = pos 1 ∷ [];
  rows = row 42 1 0 0 0 0
      ++ row 59 0 0 2 0 14
      ++ row 42 3 0 0 0 0
      ++ row 44 4 5 0 0 0
      ++ constant (pos 1)
      ++ row 45 6 13 0 0 0
      ++ row 46 0 0 0 7 0
      ++ row 47 8 9 0 0 0
      ++ constant (pos 1)
      ++ case (pos 1) 10
      ++ row 60 11 0 0 0 12
      ++ constant (pos 7)
      ++ case (pos 2) 0
      ++ constant (pos 1)
      ++ row 41 15 0 0 0 0
      ++ row 21 16 17 0 0 0
      ++ row 2 0 0 0 0 0
      ++ row 31 0 0 0 0 0;
  store = pos 0 ∷ [];
  budget = 100;
  comes_to = comes Plain 15 (pos 7 ∷ []);
}

-- int f() { do if 1 -> return 4; od } v0 = f(); in guarded commands
abbrev pub return_leaves_guarded_forms : Rule
return_leaves_guarded_forms = record {
  header = pos 1 ∷ [];
  rows = row 42 1 0 0 0 0
      ++ row 59 0 0 2 0 13
      ++ row 42 3 0 0 0 0
      ++ row 55 4 0 0 0 0
      ++ row 56 5 6 0 0 0
      ++ constant (pos 1)
      ++ row 42 7 0 0 0 0
      ++ row 54 8 0 0 0 0
      ++ row 56 9 10 0 0 0
      ++ constant (pos 1)
      ++ row 42 11 0 0 0 0
      ++ row 60 12 0 0 0 0
      ++ constant (pos 4)
      ++ row 41 14 0 0 0 0
      ++ row 21 15 16 0 0 0
      ++ row 2 0 0 0 0 0
      ++ row 31 0 0 0 0 0;
  store = pos 0 ∷ [];
  budget = 100;
  comes_to = comes Plain 16 (pos 4 ∷ []);
}

-- int f() { v0 = 5; return; ++v0; } int g() { return v0 + f(); } v1 = g(); with v0 = 9: the right operand comes first
abbrev pub call_within_a_call : Rule
call_within_a_call = record {
  header = pos 2 ∷ [];
  rows = row 42 1 0 0 0 0
      ++ row 59 0 0 2 0 11
      ++ row 42 3 0 0 0 0
      ++ row 41 4 0 0 0 7
      ++ row 21 5 6 0 0 0
      ++ row 2 0 0 0 0 0
      ++ constant (pos 5)
      ++ row 60 0 0 0 0 8
      ++ row 41 9 0 0 0 0
      ++ row 27 10 0 0 0 0
      ++ row 2 0 0 0 0 0
      ++ row 59 1 0 12 0 17
      ++ row 42 13 0 0 0 0
      ++ row 60 14 0 0 0 0
      ++ row 6 15 16 0 0 0
      ++ row 2 0 0 0 0 0
      ++ row 31 0 0 0 0 0
      ++ row 41 18 0 0 0 0
      ++ row 21 19 20 0 0 0
      ++ row 2 1 0 0 0 0
      ++ row 31 1 0 0 0 0;
  store = pos 9 ∷ pos 9 ∷ [];
  budget = 100;
  comes_to = comes Plain 16 (pos 5 ∷ pos 5 ∷ []);
}

-- int f() { } and nothing else: the definition is passed over
abbrev pub definitions_alone : Rule
definitions_alone = record {
  header = pos 1 ∷ [];
  rows = row 42 1 0 0 0 0 ++ row 59 0 0 2 0 0 ++ row 42 0 0 0 0 0;
  store = pos 3 ∷ [];
  budget = 100;
  comes_to = comes Plain 1 (pos 3 ∷ []);
}

abbrev pub function_table : List Rule
function_table =
    nested-call ∷
    spent_at_an_argument ∷
    spent_at_the_block ∷
    spent_at_the_outer_block ∷
    spent_at_the_place ∷
    just_enough ∷
    last_argument_first ∷
    first_argument_last ∷
    argument_faults ∷
    return_leaves_loops ∷
    return_leaves_guarded_forms ∷
    call_within_a_call ∷
    definitions_alone ∷
    []
