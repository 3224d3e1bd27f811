-- Rules that pin the clauses of guarded statements: which guards are worked out, none true, no arms, the rounds of a guarded do, break and
-- continue through both forms, faults. Written above each as Dijkstra writes them, the statements in C.
use Rattle.std.specs.Prelude.{[], ◌∷◌, ◌++◌, pos}
use Rattle.words.specs.declared.FaultSort.TheVariants.{ZeroDivisor, Guard}
use Rattle.words.specs.declared.Ending.TheVariants.{Plain, Spent, Fault}
use Rattle.language.specs.Rule.{Rule, row, constant, case}

-- if 1 -> { v0 = 1; } [] v1 = 1 -> { v0 = 2; } fi: later guards are not worked out
abbrev pub first_true_guard : Rule
first_true_guard = record {
  header = pos 2 ∷ [];
  rows = row 42 1 0 0 0 0
      ++ row 54 2 0 0 0 0
      ++ row 56 3 4 0 0 9
      ++ constant (pos 1)
      ++ row 42 5 0 0 0 0
      ++ row 41 6 0 0 0 0
      ++ row 21 7 8 0 0 0
      ++ row 2 0 0 0 0 0
      ++ constant (pos 1)
      ++ row 56 10 13 0 0 0
      ++ row 21 11 12 0 0 0
      ++ row 2 1 0 0 0 0
      ++ constant (pos 1)
      ++ row 42 14 0 0 0 0
      ++ row 41 15 0 0 0 0
      ++ row 21 16 17 0 0 0
      ++ row 2 0 0 0 0 0
      ++ constant (pos 2);
  store = pos 0 ∷ pos 0 ∷ [];
  budget = 100;
  comes_to = record { ending = Plain; count = 9; store = pos 1 ∷ pos 0 ∷ [] };
}

-- if v0 -> { v1 = 1; } [] v0 == 0 -> { v1 = 2; } fi v0 = 3;
abbrev pub second_guard_true : Rule
second_guard_true = record {
  header = pos 2 ∷ [];
  rows = row 42 1 0 0 0 0
      ++ row 54 2 0 0 0 18
      ++ row 56 3 4 0 0 9
      ++ row 2 0 0 0 0 0
      ++ row 42 5 0 0 0 0
      ++ row 41 6 0 0 0 0
      ++ row 21 7 8 0 0 0
      ++ row 2 1 0 0 0 0
      ++ constant (pos 1)
      ++ row 56 10 13 0 0 0
      ++ row 15 11 12 0 0 0
      ++ row 2 0 0 0 0 0
      ++ constant (pos 0)
      ++ row 42 14 0 0 0 0
      ++ row 41 15 0 0 0 0
      ++ row 21 16 17 0 0 0
      ++ row 2 1 0 0 0 0
      ++ constant (pos 2)
      ++ row 41 19 0 0 0 0
      ++ row 21 20 21 0 0 0
      ++ row 2 0 0 0 0 0
      ++ constant (pos 3);
  store = pos 0 ∷ pos 0 ∷ [];
  budget = 100;
  comes_to = record { ending = Plain; count = 17; store = pos 3 ∷ pos 2 ∷ [] };
}

-- if v0 = 0 -> { v1 = 1; } [] 1 -> { v1 = 2; } fi with v0 = 5: what a false guard stored stays
abbrev pub false_guard_stores : Rule
false_guard_stores = record {
  header = pos 2 ∷ [];
  rows = row 42 1 0 0 0 0
      ++ row 54 2 0 0 0 0
      ++ row 56 3 6 0 0 11
      ++ row 21 4 5 0 0 0
      ++ row 2 0 0 0 0 0
      ++ constant (pos 0)
      ++ row 42 7 0 0 0 0
      ++ row 41 8 0 0 0 0
      ++ row 21 9 10 0 0 0
      ++ row 2 1 0 0 0 0
      ++ constant (pos 1)
      ++ row 56 12 13 0 0 0
      ++ constant (pos 1)
      ++ row 42 14 0 0 0 0
      ++ row 41 15 0 0 0 0
      ++ row 21 16 17 0 0 0
      ++ row 2 1 0 0 0 0
      ++ constant (pos 2);
  store = pos 5 ∷ pos 0 ∷ [];
  budget = 100;
  comes_to = record { ending = Plain; count = 13; store = pos 0 ∷ pos 2 ∷ [] };
}

-- v1 = 1; if v0 = 0 -> { v1 = 2; } [] 0 -> {} fi v1 = 3; with v0 = 5
abbrev pub no_guard_true : Rule
no_guard_true = record {
  header = pos 2 ∷ [];
  rows = row 42 1 0 0 0 0
      ++ row 41 2 0 0 0 5
      ++ row 21 3 4 0 0 0
      ++ row 2 1 0 0 0 0
      ++ constant (pos 1)
      ++ row 54 6 0 0 0 18
      ++ row 56 7 10 0 0 15
      ++ row 21 8 9 0 0 0
      ++ row 2 0 0 0 0 0
      ++ constant (pos 0)
      ++ row 42 11 0 0 0 0
      ++ row 41 12 0 0 0 0
      ++ row 21 13 14 0 0 0
      ++ row 2 1 0 0 0 0
      ++ constant (pos 2)
      ++ row 56 16 17 0 0 0
      ++ constant (pos 0)
      ++ row 42 0 0 0 0 0
      ++ row 41 19 0 0 0 0
      ++ row 21 20 21 0 0 0
      ++ row 2 1 0 0 0 0
      ++ constant (pos 3);
  store = pos 5 ∷ pos 0 ∷ [];
  budget = 100;
  comes_to = record { ending = Fault Guard; count = 12; store = pos 0 ∷ pos 1 ∷ [] };
}

-- if fi v0 = 1;
abbrev pub guarded_if_without_arms : Rule
guarded_if_without_arms = record {
  header = pos 1 ∷ [];
  rows = row 42 1 0 0 0 0
      ++ row 54 0 0 0 0 2
      ++ row 41 3 0 0 0 0
      ++ row 21 4 5 0 0 0
      ++ row 2 0 0 0 0 0
      ++ constant (pos 1);
  store = pos 0 ∷ [];
  budget = 100;
  comes_to = record { ending = Fault Guard; count = 2; store = pos 0 ∷ [] };
}

-- do od v0 = 1;
abbrev pub guarded_do_without_arms : Rule
guarded_do_without_arms = record {
  header = pos 1 ∷ [];
  rows = row 42 1 0 0 0 0
      ++ row 55 0 0 0 0 2
      ++ row 41 3 0 0 0 0
      ++ row 21 4 5 0 0 0
      ++ row 2 0 0 0 0 0
      ++ constant (pos 1);
  store = pos 0 ∷ [];
  budget = 100;
  comes_to = record { ending = Plain; count = 6; store = pos 1 ∷ [] };
}

-- do v0 -> { v1 = 1; } [] 0 -> {} od v0 = 1;
abbrev pub guarded_do_never : Rule
guarded_do_never = record {
  header = pos 2 ∷ [];
  rows = row 42 1 0 0 0 0
      ++ row 55 2 0 0 0 12
      ++ row 56 3 4 0 0 9
      ++ row 2 0 0 0 0 0
      ++ row 42 5 0 0 0 0
      ++ row 41 6 0 0 0 0
      ++ row 21 7 8 0 0 0
      ++ row 2 1 0 0 0 0
      ++ constant (pos 1)
      ++ row 56 10 11 0 0 0
      ++ constant (pos 0)
      ++ row 42 0 0 0 0 0
      ++ row 41 13 0 0 0 0
      ++ row 21 14 15 0 0 0
      ++ row 2 0 0 0 0 0
      ++ constant (pos 1);
  store = pos 0 ∷ pos 0 ∷ [];
  budget = 100;
  comes_to = record { ending = Plain; count = 10; store = pos 1 ∷ pos 0 ∷ [] };
}

-- do v0 > v1 -> { v0 -= v1; } [] v1 > v0 -> { v1 -= v0; } od with v0 = 6, v1 = 4
abbrev pub greatest_common_divisor : Rule
greatest_common_divisor = record {
  header = pos 2 ∷ [];
  rows = row 42 1 0 0 0 0
      ++ row 55 2 0 0 0 0
      ++ row 56 3 6 0 0 11
      ++ row 12 4 5 0 0 0
      ++ row 2 0 0 0 0 0
      ++ row 2 1 0 0 0 0
      ++ row 42 7 0 0 0 0
      ++ row 41 8 0 0 0 0
      ++ row 23 9 10 0 0 0
      ++ row 2 0 0 0 0 0
      ++ row 2 1 0 0 0 0
      ++ row 56 12 15 0 0 0
      ++ row 12 13 14 0 0 0
      ++ row 2 1 0 0 0 0
      ++ row 2 0 0 0 0 0
      ++ row 42 16 0 0 0 0
      ++ row 41 17 0 0 0 0
      ++ row 23 18 19 0 0 0
      ++ row 2 1 0 0 0 0
      ++ row 2 0 0 0 0 0;
  store = pos 6 ∷ pos 4 ∷ [];
  budget = 100;
  comes_to = record { ending = Plain; count = 32; store = pos 2 ∷ pos 2 ∷ [] };
}

-- do v0 = 0 -> {} [] v1 -> { v1--; } od with v1 = 1
abbrev pub guarded_do_from_its_first_arm : Rule
guarded_do_from_its_first_arm = record {
  header = pos 2 ∷ [];
  rows = row 42 1 0 0 0 0
      ++ row 55 2 0 0 0 0
      ++ row 56 3 6 0 0 7
      ++ row 21 4 5 0 0 0
      ++ row 2 0 0 0 0 0
      ++ constant (pos 0)
      ++ row 42 0 0 0 0 0
      ++ row 56 8 9 0 0 0
      ++ row 2 1 0 0 0 0
      ++ row 42 10 0 0 0 0
      ++ row 41 11 0 0 0 0
      ++ row 30 12 0 0 0 0
      ++ row 2 1 0 0 0 0;
  store = pos 5 ∷ pos 1 ∷ [];
  budget = 100;
  comes_to = record { ending = Plain; count = 18; store = pos 0 ∷ pos 0 ∷ [] };
}

-- while (1) { if 1 -> { break; v0 = 1; } fi v0 = 2; } v1 = 1;
abbrev pub break_through_guarded_if : Rule
break_through_guarded_if = record {
  header = pos 2 ∷ [];
  rows = row 42 1 0 0 0 0
      ++ row 44 2 3 0 0 17
      ++ constant (pos 1)
      ++ row 42 4 0 0 0 0
      ++ row 54 5 0 0 0 13
      ++ row 56 6 7 0 0 0
      ++ constant (pos 1)
      ++ row 42 8 0 0 0 0
      ++ row 50 0 0 0 0 9
      ++ row 41 10 0 0 0 0
      ++ row 21 11 12 0 0 0
      ++ row 2 0 0 0 0 0
      ++ constant (pos 1)
      ++ row 41 14 0 0 0 0
      ++ row 21 15 16 0 0 0
      ++ row 2 0 0 0 0 0
      ++ constant (pos 2)
      ++ row 41 18 0 0 0 0
      ++ row 21 19 20 0 0 0
      ++ row 2 1 0 0 0 0
      ++ constant (pos 1);
  store = pos 0 ∷ pos 0 ∷ [];
  budget = 100;
  comes_to = record { ending = Plain; count = 13; store = pos 0 ∷ pos 1 ∷ [] };
}

-- while (1) { do 1 -> { break; v0 = 1; } od v0 = 2; } v1 = 1;
abbrev pub break_through_guarded_do : Rule
break_through_guarded_do = record {
  header = pos 2 ∷ [];
  rows = row 42 1 0 0 0 0
      ++ row 44 2 3 0 0 17
      ++ constant (pos 1)
      ++ row 42 4 0 0 0 0
      ++ row 55 5 0 0 0 13
      ++ row 56 6 7 0 0 0
      ++ constant (pos 1)
      ++ row 42 8 0 0 0 0
      ++ row 50 0 0 0 0 9
      ++ row 41 10 0 0 0 0
      ++ row 21 11 12 0 0 0
      ++ row 2 0 0 0 0 0
      ++ constant (pos 1)
      ++ row 41 14 0 0 0 0
      ++ row 21 15 16 0 0 0
      ++ row 2 0 0 0 0 0
      ++ constant (pos 2)
      ++ row 41 18 0 0 0 0
      ++ row 21 19 20 0 0 0
      ++ row 2 1 0 0 0 0
      ++ constant (pos 1);
  store = pos 0 ∷ pos 0 ∷ [];
  budget = 100;
  comes_to = record { ending = Plain; count = 13; store = pos 0 ∷ pos 1 ∷ [] };
}

-- while (v0) { v0--; if 1 -> { continue; } fi v1 = 1; } with v0 = 2
abbrev pub continue_through_guarded_if : Rule
continue_through_guarded_if = record {
  header = pos 2 ∷ [];
  rows = row 42 1 0 0 0 0
      ++ row 44 2 3 0 0 0
      ++ row 2 0 0 0 0 0
      ++ row 42 4 0 0 0 0
      ++ row 41 5 0 0 0 7
      ++ row 30 6 0 0 0 0
      ++ row 2 0 0 0 0 0
      ++ row 54 8 0 0 0 12
      ++ row 56 9 10 0 0 0
      ++ constant (pos 1)
      ++ row 42 11 0 0 0 0
      ++ row 51 0 0 0 0 0
      ++ row 41 13 0 0 0 0
      ++ row 21 14 15 0 0 0
      ++ row 2 1 0 0 0 0
      ++ constant (pos 1);
  store = pos 2 ∷ pos 0 ∷ [];
  budget = 100;
  comes_to = record { ending = Plain; count = 23; store = pos 0 ∷ pos 0 ∷ [] };
}

-- while (v0) { do 1 -> { v0--; continue; } od v1 = 1; } with v0 = 2
abbrev pub continue_through_guarded_do : Rule
continue_through_guarded_do = record {
  header = pos 2 ∷ [];
  rows = row 42 1 0 0 0 0
      ++ row 44 2 3 0 0 0
      ++ row 2 0 0 0 0 0
      ++ row 42 4 0 0 0 0
      ++ row 55 5 0 0 0 12
      ++ row 56 6 7 0 0 0
      ++ constant (pos 1)
      ++ row 42 8 0 0 0 0
      ++ row 41 9 0 0 0 11
      ++ row 30 10 0 0 0 0
      ++ row 2 0 0 0 0 0
      ++ row 51 0 0 0 0 0
      ++ row 41 13 0 0 0 0
      ++ row 21 14 15 0 0 0
      ++ row 2 1 0 0 0 0
      ++ constant (pos 1);
  store = pos 2 ∷ pos 0 ∷ [];
  budget = 100;
  comes_to = record { ending = Plain; count = 23; store = pos 0 ∷ pos 0 ∷ [] };
}

-- switch (1) { case 1: do 1 -> { if 1 -> { break; } fi } od v0 = 1; } v1 = 1;
abbrev pub break_leaves_switch_around_guards : Rule
break_leaves_switch_around_guards = record {
  header = pos 2 ∷ [];
  rows = row 42 1 0 0 0 0
      ++ row 47 2 3 0 0 17
      ++ constant (pos 1)
      ++ case (pos 1) 4
      ++ row 55 5 0 0 0 13
      ++ row 56 6 7 0 0 0
      ++ constant (pos 1)
      ++ row 42 8 0 0 0 0
      ++ row 54 9 0 0 0 0
      ++ row 56 10 11 0 0 0
      ++ constant (pos 1)
      ++ row 42 12 0 0 0 0
      ++ row 50 0 0 0 0 0
      ++ row 41 14 0 0 0 0
      ++ row 21 15 16 0 0 0
      ++ row 2 0 0 0 0 0
      ++ constant (pos 1)
      ++ row 41 18 0 0 0 0
      ++ row 21 19 20 0 0 0
      ++ row 2 1 0 0 0 0
      ++ constant (pos 1);
  store = pos 0 ∷ pos 0 ∷ [];
  budget = 100;
  comes_to = record { ending = Plain; count = 17; store = pos 0 ∷ pos 1 ∷ [] };
}

-- if 1 / v0 -> { v0 = 1; } [] 1 -> { v0 = 2; } fi
abbrev pub guard_faults : Rule
guard_faults = record {
  header = pos 1 ∷ [];
  rows = row 42 1 0 0 0 0
      ++ row 54 2 0 0 0 0
      ++ row 56 3 6 0 0 11
      ++ row 9 4 5 0 0 0
      ++ constant (pos 1)
      ++ row 2 0 0 0 0 0
      ++ row 42 7 0 0 0 0
      ++ row 41 8 0 0 0 0
      ++ row 21 9 10 0 0 0
      ++ row 2 0 0 0 0 0
      ++ constant (pos 1)
      ++ row 56 12 13 0 0 0
      ++ constant (pos 1)
      ++ row 42 14 0 0 0 0
      ++ row 41 15 0 0 0 0
      ++ row 21 16 17 0 0 0
      ++ row 2 0 0 0 0 0
      ++ constant (pos 2);
  store = pos 0 ∷ [];
  budget = 100;
  comes_to = record { ending = Fault ZeroDivisor; count = 6; store = pos 0 ∷ [] };
}

-- do 1 / v0 -> { v0--; } od with v0 = 1
abbrev pub guard_faults_in_a_later_round : Rule
guard_faults_in_a_later_round = record {
  header = pos 1 ∷ [];
  rows = row 42 1 0 0 0 0
      ++ row 55 2 0 0 0 0
      ++ row 56 3 6 0 0 0
      ++ row 9 4 5 0 0 0
      ++ constant (pos 1)
      ++ row 2 0 0 0 0 0
      ++ row 42 7 0 0 0 0
      ++ row 41 8 0 0 0 0
      ++ row 30 9 0 0 0 0
      ++ row 2 0 0 0 0 0;
  store = pos 1 ∷ [];
  budget = 100;
  comes_to = record { ending = Fault ZeroDivisor; count = 14; store = pos 0 ∷ [] };
}

-- do 1 -> { if v0 -> { v0--; } fi } od with v0 = 1
abbrev pub guarded_if_fails_in_guarded_do : Rule
guarded_if_fails_in_guarded_do = record {
  header = pos 1 ∷ [];
  rows = row 42 1 0 0 0 0
      ++ row 55 2 0 0 0 0
      ++ row 56 3 4 0 0 0
      ++ constant (pos 1)
      ++ row 42 5 0 0 0 0
      ++ row 54 6 0 0 0 0
      ++ row 56 7 8 0 0 0
      ++ row 2 0 0 0 0 0
      ++ row 42 9 0 0 0 0
      ++ row 41 10 0 0 0 0
      ++ row 30 11 0 0 0 0
      ++ row 2 0 0 0 0 0;
  store = pos 1 ∷ [];
  budget = 100;
  comes_to = record { ending = Fault Guard; count = 18; store = pos 0 ∷ [] };
}

-- do v0 -> {} [] 1 -> { v1 = 1; } od with budget 12
abbrev pub guarded_do_spent : Rule
guarded_do_spent = record {
  header = pos 2 ∷ [];
  rows = row 42 1 0 0 0 0
      ++ row 55 2 0 0 0 0
      ++ row 56 3 4 0 0 5
      ++ row 2 0 0 0 0 0
      ++ row 42 0 0 0 0 0
      ++ row 56 6 7 0 0 0
      ++ constant (pos 1)
      ++ row 42 8 0 0 0 0
      ++ row 41 9 0 0 0 0
      ++ row 21 10 11 0 0 0
      ++ row 2 1 0 0 0 0
      ++ constant (pos 1);
  store = pos 0 ∷ pos 0 ∷ [];
  budget = 12;
  comes_to = record { ending = Spent; count = 12; store = pos 0 ∷ pos 1 ∷ [] };
}
