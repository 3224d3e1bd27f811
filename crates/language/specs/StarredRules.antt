-- Document 01's starred rules, each of their halves. Counts were also worked out by the interpreter built apart.
use Rattle.std.specs.Prelude.{[], ◌∷◌, ◌++◌, pos, negsuc}
use Rattle.words.specs.declared.FaultSort.TheVariants.{Overflow, Index}
use Rattle.words.specs.declared.Ending.TheVariants.{Plain, Spent, Fault}
use Rattle.language.specs.Rule.{Rule, row, constant}

-- v0 = 0 || 7;
abbrev pub or_is_truth : Rule
or_is_truth = record {
  header = pos 1 ∷ [];
  rows = row 42 1 0 0 0 0
      ++ row 41 2 0 0 0 0
      ++ row 21 3 4 0 0 0
      ++ row 2 0 0 0 0 0
      ++ row 18 5 6 0 0 0
      ++ constant (pos 0)
      ++ constant (pos 7);
  store = pos 0 ∷ [];
  budget = 100;
  comes_to = record { ending = Plain; count = 7; store = pos 1 ∷ [] };
}

-- v1 = 0 && (v0 = 1);
abbrev pub and_stops : Rule
and_stops = record {
  header = pos 2 ∷ [];
  rows = row 42 1 0 0 0 0
      ++ row 41 2 0 0 0 0
      ++ row 21 3 4 0 0 0
      ++ row 2 1 0 0 0 0
      ++ row 17 5 6 0 0 0
      ++ constant (pos 0)
      ++ row 21 7 8 0 0 0
      ++ row 2 0 0 0 0 0
      ++ constant (pos 1);
  store = pos 5 ∷ pos 8 ∷ [];
  budget = 100;
  comes_to = record { ending = Plain; count = 6; store = pos 5 ∷ pos 0 ∷ [] };
}

-- v1 = (v0 = 5) + v0;
abbrev pub right_first : Rule
right_first = record {
  header = pos 2 ∷ [];
  rows = row 42 1 0 0 0 0
      ++ row 41 2 0 0 0 0
      ++ row 21 3 4 0 0 0
      ++ row 2 1 0 0 0 0
      ++ row 6 5 8 0 0 0
      ++ row 21 6 7 0 0 0
      ++ row 2 0 0 0 0 0
      ++ constant (pos 5)
      ++ row 2 0 0 0 0 0;
  store = pos 4 ∷ pos 0 ∷ [];
  budget = 100;
  comes_to = record { ending = Plain; count = 9; store = pos 5 ∷ pos 9 ∷ [] };
}

-- v0 += (v0 = 3);
abbrev pub compound_reads_last : Rule
compound_reads_last = record {
  header = pos 1 ∷ [];
  rows = row 42 1 0 0 0 0
      ++ row 41 2 0 0 0 0
      ++ row 22 3 4 0 0 0
      ++ row 2 0 0 0 0 0
      ++ row 21 5 6 0 0 0
      ++ row 2 0 0 0 0 0
      ++ constant (pos 3);
  store = pos 1 ∷ [];
  budget = 100;
  comes_to = record { ending = Plain; count = 7; store = pos 6 ∷ [] };
}

-- v0 = -7 / 2;
abbrev pub division : Rule
division = record {
  header = pos 1 ∷ [];
  rows = row 42 1 0 0 0 0
      ++ row 41 2 0 0 0 0
      ++ row 21 3 4 0 0 0
      ++ row 2 0 0 0 0 0
      ++ row 9 5 6 0 0 0
      ++ constant (negsuc 6)
      ++ constant (pos 2);
  store = pos 0 ∷ [];
  budget = 100;
  comes_to = record { ending = Plain; count = 7; store = negsuc 2 ∷ [] };
}

-- v0 = -7 % 2;
abbrev pub remainder : Rule
remainder = record {
  header = pos 1 ∷ [];
  rows = row 42 1 0 0 0 0
      ++ row 41 2 0 0 0 0
      ++ row 21 3 4 0 0 0
      ++ row 2 0 0 0 0 0
      ++ row 10 5 6 0 0 0
      ++ constant (negsuc 6)
      ++ constant (pos 2);
  store = pos 0 ∷ [];
  budget = 100;
  comes_to = record { ending = Plain; count = 7; store = negsuc 0 ∷ [] };
}

-- v0 = 2147483646 + 1;
abbrev pub largest_sum : Rule
largest_sum = record {
  header = pos 1 ∷ [];
  rows = row 42 1 0 0 0 0
      ++ row 41 2 0 0 0 0
      ++ row 21 3 4 0 0 0
      ++ row 2 0 0 0 0 0
      ++ row 6 5 6 0 0 0
      ++ constant (pos 2147483646)
      ++ constant (pos 1);
  store = pos 0 ∷ [];
  budget = 100;
  comes_to = record { ending = Plain; count = 7; store = pos 2147483647 ∷ [] };
}

-- v0 = 2147483647 + 1;
abbrev pub sum_overflows : Rule
sum_overflows = record {
  header = pos 1 ∷ [];
  rows = row 42 1 0 0 0 0
      ++ row 41 2 0 0 0 0
      ++ row 21 3 4 0 0 0
      ++ row 2 0 0 0 0 0
      ++ row 6 5 6 0 0 0
      ++ constant (pos 2147483647)
      ++ constant (pos 1);
  store = pos 5 ∷ [];
  budget = 100;
  comes_to = record { ending = Fault Overflow; count = 6; store = pos 5 ∷ [] };
}

-- v0 = a[2];
abbrev pub index_last : Rule
index_last = record {
  header = pos 1 ∷ pos 3 ∷ [];
  rows = row 42 1 0 0 0 0
      ++ row 41 2 0 0 0 0
      ++ row 21 3 4 0 0 0
      ++ row 2 0 0 0 0 0
      ++ row 3 0 5 0 0 0
      ++ constant (pos 2);
  store = pos 0 ∷ pos 7 ∷ pos 8 ∷ pos 9 ∷ [];
  budget = 100;
  comes_to = record { ending = Plain; count = 6; store = pos 9 ∷ pos 7 ∷ pos 8 ∷ pos 9 ∷ [] };
}

-- v0 = a[3];
abbrev pub index_beyond : Rule
index_beyond = record {
  header = pos 1 ∷ pos 3 ∷ [];
  rows = row 42 1 0 0 0 0
      ++ row 41 2 0 0 0 0
      ++ row 21 3 4 0 0 0
      ++ row 2 0 0 0 0 0
      ++ row 3 0 5 0 0 0
      ++ constant (pos 3);
  store = pos 0 ∷ pos 7 ∷ pos 8 ∷ pos 9 ∷ [];
  budget = 100;
  comes_to = record { ending = Fault Index; count = 5; store = pos 0 ∷ pos 7 ∷ pos 8 ∷ pos 9 ∷ [] };
}

-- v0 = a[-1];
abbrev pub index_negative : Rule
index_negative = record {
  header = pos 1 ∷ pos 3 ∷ [];
  rows = row 42 1 0 0 0 0
      ++ row 41 2 0 0 0 0
      ++ row 21 3 4 0 0 0
      ++ row 2 0 0 0 0 0
      ++ row 3 0 5 0 0 0
      ++ constant (negsuc 0);
  store = pos 0 ∷ pos 7 ∷ pos 8 ∷ pos 9 ∷ [];
  budget = 100;
  comes_to = record { ending = Fault Index; count = 5; store = pos 0 ∷ pos 7 ∷ pos 8 ∷ pos 9 ∷ [] };
}

-- switch (1) { case 1: v0 = 1; case 2: v1 = 1; default: v2 = 1; }
abbrev pub fall_through : Rule
fall_through = record {
  header = pos 3 ∷ [];
  rows = row 42 1 0 0 0 0
      ++ row 47 2 3 0 0 0
      ++ constant (pos 1)
      ++ row 48 1 0 0 0 4
      ++ row 41 5 0 0 0 8
      ++ row 21 6 7 0 0 0
      ++ row 2 0 0 0 0 0
      ++ constant (pos 1)
      ++ row 48 2 0 0 0 9
      ++ row 41 10 0 0 0 13
      ++ row 21 11 12 0 0 0
      ++ row 2 1 0 0 0 0
      ++ constant (pos 1)
      ++ row 49 0 0 0 0 14
      ++ row 41 15 0 0 0 0
      ++ row 21 16 17 0 0 0
      ++ row 2 2 0 0 0 0
      ++ constant (pos 1);
  store = pos 0 ∷ pos 0 ∷ pos 0 ∷ [];
  budget = 100;
  comes_to = record { ending = Plain; count = 18; store = pos 1 ∷ pos 1 ∷ pos 1 ∷ [] };
}

-- switch (9) { default: v0 = 1; case 2: v1 = 1; }
abbrev pub default_falls : Rule
default_falls = record {
  header = pos 2 ∷ [];
  rows = row 42 1 0 0 0 0
      ++ row 47 2 3 0 0 0
      ++ constant (pos 9)
      ++ row 49 0 0 0 0 4
      ++ row 41 5 0 0 0 8
      ++ row 21 6 7 0 0 0
      ++ row 2 0 0 0 0 0
      ++ constant (pos 1)
      ++ row 48 2 0 0 0 9
      ++ row 41 10 0 0 0 0
      ++ row 21 11 12 0 0 0
      ++ row 2 1 0 0 0 0
      ++ constant (pos 1);
  store = pos 0 ∷ pos 0 ∷ [];
  budget = 100;
  comes_to = record { ending = Plain; count = 13; store = pos 1 ∷ pos 1 ∷ [] };
}

-- switch (2) { default: v0 = 1; case 2: v1 = 1; }
abbrev pub case_over_default : Rule
case_over_default = record {
  header = pos 2 ∷ [];
  rows = row 42 1 0 0 0 0
      ++ row 47 2 3 0 0 0
      ++ constant (pos 2)
      ++ row 49 0 0 0 0 4
      ++ row 41 5 0 0 0 8
      ++ row 21 6 7 0 0 0
      ++ row 2 0 0 0 0 0
      ++ constant (pos 1)
      ++ row 48 2 0 0 0 9
      ++ row 41 10 0 0 0 0
      ++ row 21 11 12 0 0 0
      ++ row 2 1 0 0 0 0
      ++ constant (pos 1);
  store = pos 0 ∷ pos 0 ∷ [];
  budget = 100;
  comes_to = record { ending = Plain; count = 8; store = pos 0 ∷ pos 1 ∷ [] };
}

-- do { v0++; continue; } while (v0 < 3);
abbrev pub continue_in_do : Rule
continue_in_do = record {
  header = pos 1 ∷ [];
  rows = row 42 1 0 0 0 0
      ++ row 45 2 7 0 0 0
      ++ row 42 3 0 0 0 0
      ++ row 41 4 0 0 0 6
      ++ row 29 5 0 0 0 0
      ++ row 2 0 0 0 0 0
      ++ row 51 0 0 0 0 0
      ++ row 11 8 9 0 0 0
      ++ row 2 0 0 0 0 0
      ++ constant (pos 3);
  store = pos 0 ∷ [];
  budget = 100;
  comes_to = record { ending = Plain; count = 26; store = pos 3 ∷ [] };
}

-- Document 01's worked example with budget 12, one step too few.
-- v0 = 2; a[v0 -= 1] = v0++;
abbrev pub worked_spent : Rule
worked_spent = record {
  header = pos 1 ∷ pos 3 ∷ [];
  rows = row 42 1 0 0 0 0
      ++ row 41 2 0 0 0 5
      ++ row 21 3 4 0 0 0
      ++ row 2 0 0 0 0 0
      ++ constant (pos 2)
      ++ row 41 6 0 0 0 0
      ++ row 21 7 11 0 0 0
      ++ row 3 0 8 0 0 0
      ++ row 23 9 10 0 0 0
      ++ row 2 0 0 0 0 0
      ++ constant (pos 1)
      ++ row 29 12 0 0 0 0
      ++ row 2 0 0 0 0 0;
  store = pos 0 ∷ pos 0 ∷ pos 0 ∷ pos 0 ∷ [];
  budget = 12;
  comes_to = record { ending = Spent; count = 12; store = pos 3 ∷ pos 0 ∷ pos 0 ∷ pos 0 ∷ [] };
}

-- The same with budget 13.
-- v0 = 2; a[v0 -= 1] = v0++;
abbrev pub worked_ends : Rule
worked_ends = record {
  header = pos 1 ∷ pos 3 ∷ [];
  rows = row 42 1 0 0 0 0
      ++ row 41 2 0 0 0 5
      ++ row 21 3 4 0 0 0
      ++ row 2 0 0 0 0 0
      ++ constant (pos 2)
      ++ row 41 6 0 0 0 0
      ++ row 21 7 11 0 0 0
      ++ row 3 0 8 0 0 0
      ++ row 23 9 10 0 0 0
      ++ row 2 0 0 0 0 0
      ++ constant (pos 1)
      ++ row 29 12 0 0 0 0
      ++ row 2 0 0 0 0 0;
  store = pos 0 ∷ pos 0 ∷ pos 0 ∷ pos 0 ∷ [];
  budget = 13;
  comes_to = record { ending = Plain; count = 13; store = pos 2 ∷ pos 0 ∷ pos 0 ∷ pos 2 ∷ [] };
}
