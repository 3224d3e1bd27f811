-- Rules that pin the clauses of loops: while, do, for with and without its parts, break and continue in each.
use Rattle.std.specs.Prelude.{[], ◌∷◌, ◌++◌, pos}
use Rattle.words.specs.declared.Ending.TheVariants.{Plain, Spent}
use Rattle.language.specs.Rule.{Rule, row, constant}

-- while (0) v0 = 1;
abbrev pub while_never : Rule
while_never = record {
  header = pos 1 ∷ [];
  rows = row 42 1 0 0 0 0
      ++ row 44 2 3 0 0 0
      ++ constant (pos 0)
      ++ row 41 4 0 0 0 0
      ++ row 21 5 6 0 0 0
      ++ row 2 0 0 0 0 0
      ++ constant (pos 1);
  store = pos 5 ∷ [];
  budget = 100;
  comes_to = record { ending = Plain; count = 3; store = pos 5 ∷ [] };
}

-- while (v0) v0--; with v0 = 2
abbrev pub while_rounds : Rule
while_rounds = record {
  header = pos 1 ∷ [];
  rows = row 42 1 0 0 0 0
      ++ row 44 2 3 0 0 0
      ++ row 2 0 0 0 0 0
      ++ row 41 4 0 0 0 0
      ++ row 30 5 0 0 0 0
      ++ row 2 0 0 0 0 0;
  store = pos 2 ∷ [];
  budget = 100;
  comes_to = record { ending = Plain; count = 11; store = pos 0 ∷ [] };
}

-- while (v0) { v0--; continue; v1 = 1; } with v0 = 2
abbrev pub continue_in_while : Rule
continue_in_while = record {
  header = pos 2 ∷ [];
  rows = row 42 1 0 0 0 0
      ++ row 44 2 3 0 0 0
      ++ row 2 0 0 0 0 0
      ++ row 42 4 0 0 0 0
      ++ row 41 5 0 0 0 7
      ++ row 30 6 0 0 0 0
      ++ row 2 0 0 0 0 0
      ++ row 51 0 0 0 0 8
      ++ row 41 9 0 0 0 0
      ++ row 21 10 11 0 0 0
      ++ row 2 1 0 0 0 0
      ++ constant (pos 1);
  store = pos 2 ∷ pos 5 ∷ [];
  budget = 100;
  comes_to = record { ending = Plain; count = 15; store = pos 0 ∷ pos 5 ∷ [] };
}

-- while (1) { break; v0 = 1; } v1 = 1;
abbrev pub break_in_while : Rule
break_in_while = record {
  header = pos 2 ∷ [];
  rows = row 42 1 0 0 0 0
      ++ row 44 2 3 0 0 9
      ++ constant (pos 1)
      ++ row 42 4 0 0 0 0
      ++ row 50 0 0 0 0 5
      ++ row 41 6 0 0 0 0
      ++ row 21 7 8 0 0 0
      ++ row 2 0 0 0 0 0
      ++ constant (pos 1)
      ++ row 41 10 0 0 0 0
      ++ row 21 11 12 0 0 0
      ++ row 2 1 0 0 0 0
      ++ constant (pos 1);
  store = pos 0 ∷ pos 0 ∷ [];
  budget = 100;
  comes_to = record { ending = Plain; count = 9; store = pos 0 ∷ pos 1 ∷ [] };
}

-- while (v0) { v0--; while (1) break; v1++; } with v0 = 2
abbrev pub break_leaves_inner_loop : Rule
break_leaves_inner_loop = record {
  header = pos 2 ∷ [];
  rows = row 42 1 0 0 0 0
      ++ row 44 2 3 0 0 0
      ++ row 2 0 0 0 0 0
      ++ row 42 4 0 0 0 0
      ++ row 41 5 0 0 0 7
      ++ row 30 6 0 0 0 0
      ++ row 2 0 0 0 0 0
      ++ row 44 8 9 0 0 10
      ++ constant (pos 1)
      ++ row 50 0 0 0 0 0
      ++ row 41 11 0 0 0 0
      ++ row 29 12 0 0 0 0
      ++ row 2 1 0 0 0 0;
  store = pos 2 ∷ pos 0 ∷ [];
  budget = 100;
  comes_to = record { ending = Plain; count = 25; store = pos 0 ∷ pos 2 ∷ [] };
}

-- do v0++; while (0);
abbrev pub do_once : Rule
do_once = record {
  header = pos 1 ∷ [];
  rows = row 42 1 0 0 0 0
      ++ row 45 2 5 0 0 0
      ++ row 41 3 0 0 0 0
      ++ row 29 4 0 0 0 0
      ++ row 2 0 0 0 0 0
      ++ constant (pos 0);
  store = pos 0 ∷ [];
  budget = 100;
  comes_to = record { ending = Plain; count = 6; store = pos 1 ∷ [] };
}

-- do v0--; while (v0); with v0 = 2
abbrev pub do_rounds : Rule
do_rounds = record {
  header = pos 1 ∷ [];
  rows = row 42 1 0 0 0 0
      ++ row 45 2 5 0 0 0
      ++ row 41 3 0 0 0 0
      ++ row 30 4 0 0 0 0
      ++ row 2 0 0 0 0 0
      ++ row 2 0 0 0 0 0;
  store = pos 2 ∷ [];
  budget = 100;
  comes_to = record { ending = Plain; count = 10; store = pos 0 ∷ [] };
}

-- do { break; v0 = 1; } while (1);
abbrev pub break_in_do : Rule
break_in_do = record {
  header = pos 1 ∷ [];
  rows = row 42 1 0 0 0 0
      ++ row 45 2 8 0 0 0
      ++ row 42 3 0 0 0 0
      ++ row 50 0 0 0 0 4
      ++ row 41 5 0 0 0 0
      ++ row 21 6 7 0 0 0
      ++ row 2 0 0 0 0 0
      ++ constant (pos 1)
      ++ constant (pos 1);
  store = pos 5 ∷ [];
  budget = 100;
  comes_to = record { ending = Plain; count = 4; store = pos 5 ∷ [] };
}

-- for (v0 = 0; v0 < 2; v0++) { do continue; while (0); v1++; }
abbrev pub continue_stays_in_inner_loop : Rule
continue_stays_in_inner_loop = record {
  header = pos 2 ∷ [];
  rows = row 42 1 0 0 0 0
      ++ row 46 2 5 8 10 0
      ++ row 21 3 4 0 0 0
      ++ row 2 0 0 0 0 0
      ++ constant (pos 0)
      ++ row 11 6 7 0 0 0
      ++ row 2 0 0 0 0 0
      ++ constant (pos 2)
      ++ row 29 9 0 0 0 0
      ++ row 2 0 0 0 0 0
      ++ row 42 11 0 0 0 0
      ++ row 45 12 13 0 0 14
      ++ row 51 0 0 0 0 0
      ++ constant (pos 0)
      ++ row 41 15 0 0 0 0
      ++ row 29 16 0 0 0 0
      ++ row 2 1 0 0 0 0;
  store = pos 9 ∷ pos 0 ∷ [];
  budget = 100;
  comes_to = record { ending = Plain; count = 32; store = pos 2 ∷ pos 2 ∷ [] };
}

-- do { switch (1) { case 1: continue; case 2: v0 = 1; } v1 = 1; } while (0);
abbrev pub continue_leaves_switch : Rule
continue_leaves_switch = record {
  header = pos 2 ∷ [];
  rows = row 42 1 0 0 0 0
      ++ row 45 2 16 0 0 0
      ++ row 42 3 0 0 0 0
      ++ row 47 4 5 0 0 12
      ++ constant (pos 1)
      ++ row 48 1 0 0 0 6
      ++ row 51 0 0 0 0 7
      ++ row 48 2 0 0 0 8
      ++ row 41 9 0 0 0 0
      ++ row 21 10 11 0 0 0
      ++ row 2 0 0 0 0 0
      ++ constant (pos 1)
      ++ row 41 13 0 0 0 0
      ++ row 21 14 15 0 0 0
      ++ row 2 1 0 0 0 0
      ++ constant (pos 1)
      ++ constant (pos 0);
  store = pos 5 ∷ pos 6 ∷ [];
  budget = 100;
  comes_to = record { ending = Plain; count = 8; store = pos 5 ∷ pos 6 ∷ [] };
}

-- for (;;) { v0++; break; }
abbrev pub for_without_parts : Rule
for_without_parts = record {
  header = pos 1 ∷ [];
  rows = row 42 1 0 0 0 0
      ++ row 46 0 0 0 2 0
      ++ row 42 3 0 0 0 0
      ++ row 41 4 0 0 0 6
      ++ row 29 5 0 0 0 0
      ++ row 2 0 0 0 0 0
      ++ row 50 0 0 0 0 0;
  store = pos 0 ∷ [];
  budget = 100;
  comes_to = record { ending = Plain; count = 7; store = pos 1 ∷ [] };
}

-- for (v0 = 0;; v0++) if (v0 == 2) break;
abbrev pub for_without_test : Rule
for_without_test = record {
  header = pos 1 ∷ [];
  rows = row 42 1 0 0 0 0
      ++ row 46 2 0 5 7 0
      ++ row 21 3 4 0 0 0
      ++ row 2 0 0 0 0 0
      ++ constant (pos 0)
      ++ row 29 6 0 0 0 0
      ++ row 2 0 0 0 0 0
      ++ row 43 8 11 0 0 0
      ++ row 15 9 10 0 0 0
      ++ row 2 0 0 0 0 0
      ++ constant (pos 2)
      ++ row 50 0 0 0 0 0;
  store = pos 9 ∷ [];
  budget = 100;
  comes_to = record { ending = Plain; count = 22; store = pos 2 ∷ [] };
}

-- for (; v0 < 2;) v0++;
abbrev pub for_without_step : Rule
for_without_step = record {
  header = pos 1 ∷ [];
  rows = row 42 1 0 0 0 0
      ++ row 46 0 2 0 5 0
      ++ row 11 3 4 0 0 0
      ++ row 2 0 0 0 0 0
      ++ constant (pos 2)
      ++ row 41 6 0 0 0 0
      ++ row 29 7 0 0 0 0
      ++ row 2 0 0 0 0 0;
  store = pos 0 ∷ [];
  budget = 100;
  comes_to = record { ending = Plain; count = 17; store = pos 2 ∷ [] };
}

-- for (v0 = 5; v0 < 3; v0++) v1 = 1;
abbrev pub for_never : Rule
for_never = record {
  header = pos 2 ∷ [];
  rows = row 42 1 0 0 0 0
      ++ row 46 2 5 8 10 0
      ++ row 21 3 4 0 0 0
      ++ row 2 0 0 0 0 0
      ++ constant (pos 5)
      ++ row 11 6 7 0 0 0
      ++ row 2 0 0 0 0 0
      ++ constant (pos 3)
      ++ row 29 9 0 0 0 0
      ++ row 2 0 0 0 0 0
      ++ row 41 11 0 0 0 0
      ++ row 21 12 13 0 0 0
      ++ row 2 1 0 0 0 0
      ++ constant (pos 1);
  store = pos 0 ∷ pos 0 ∷ [];
  budget = 100;
  comes_to = record { ending = Plain; count = 8; store = pos 5 ∷ pos 0 ∷ [] };
}

-- for (v0 = 0; v0 < 3; v0++) break;
abbrev pub break_passes_step : Rule
break_passes_step = record {
  header = pos 1 ∷ [];
  rows = row 42 1 0 0 0 0
      ++ row 46 2 5 8 10 0
      ++ row 21 3 4 0 0 0
      ++ row 2 0 0 0 0 0
      ++ constant (pos 0)
      ++ row 11 6 7 0 0 0
      ++ row 2 0 0 0 0 0
      ++ constant (pos 3)
      ++ row 29 9 0 0 0 0
      ++ row 2 0 0 0 0 0
      ++ row 50 0 0 0 0 0;
  store = pos 9 ∷ [];
  budget = 100;
  comes_to = record { ending = Plain; count = 9; store = pos 0 ∷ [] };
}

-- for (;; v0++) { if (v0 == 1) break; continue; }
abbrev pub continue_without_test : Rule
continue_without_test = record {
  header = pos 1 ∷ [];
  rows = row 42 1 0 0 0 0
      ++ row 46 0 0 2 4 0
      ++ row 29 3 0 0 0 0
      ++ row 2 0 0 0 0 0
      ++ row 42 5 0 0 0 0
      ++ row 43 6 9 0 0 10
      ++ row 15 7 8 0 0 0
      ++ row 2 0 0 0 0 0
      ++ constant (pos 1)
      ++ row 50 0 0 0 0 0
      ++ row 51 0 0 0 0 0;
  store = pos 0 ∷ [];
  budget = 100;
  comes_to = record { ending = Plain; count = 16; store = pos 1 ∷ [] };
}

-- while (1) v0++; with budget 9
abbrev pub while_spent : Rule
while_spent = record {
  header = pos 1 ∷ [];
  rows = row 42 1 0 0 0 0
      ++ row 44 2 3 0 0 0
      ++ constant (pos 1)
      ++ row 41 4 0 0 0 0
      ++ row 29 5 0 0 0 0
      ++ row 2 0 0 0 0 0;
  store = pos 0 ∷ [];
  budget = 9;
  comes_to = record { ending = Spent; count = 9; store = pos 1 ∷ [] };
}

-- for (;;) ; with budget 10
abbrev pub for_spent : Rule
for_spent = record {
  header = pos 1 ∷ [];
  rows = row 42 1 0 0 0 0
      ++ row 46 0 0 0 2 0
      ++ row 40 0 0 0 0 0;
  store = pos 5 ∷ [];
  budget = 10;
  comes_to = record { ending = Spent; count = 10; store = pos 5 ∷ [] };
}
