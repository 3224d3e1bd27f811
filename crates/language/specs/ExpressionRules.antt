-- Rules that pin the clauses of expressions other than arithmetic: and, or, conditional, comma, places and what stores into them.
use Rattle.std.specs.Prelude.{[], ◌∷◌, ◌++◌, pos, negsuc}
use Rattle.words.specs.declared.FaultSort.TheVariants.{Overflow, Index}
use Rattle.words.specs.declared.Ending.TheVariants.{Plain, Fault}
use Rattle.language.specs.Rule.{Rule, row, constant}

-- v0 = -3 && 5;
abbrev pub and_is_truth : Rule
and_is_truth = record {
  header = pos 1 ∷ [];
  rows = row 42 1 0 0 0 0
      ++ row 41 2 0 0 0 0
      ++ row 21 3 4 0 0 0
      ++ row 2 0 0 0 0 0
      ++ row 17 5 6 0 0 0
      ++ constant (negsuc 2)
      ++ constant (pos 5);
  store = pos 9 ∷ [];
  budget = 100;
  comes_to = record { ending = Plain; count = 7; store = pos 1 ∷ [] };
}

-- v0 = 3 && 0;
abbrev pub and_right_false : Rule
and_right_false = record {
  header = pos 1 ∷ [];
  rows = row 42 1 0 0 0 0
      ++ row 41 2 0 0 0 0
      ++ row 21 3 4 0 0 0
      ++ row 2 0 0 0 0 0
      ++ row 17 5 6 0 0 0
      ++ constant (pos 3)
      ++ constant (pos 0);
  store = pos 9 ∷ [];
  budget = 100;
  comes_to = record { ending = Plain; count = 7; store = pos 0 ∷ [] };
}

-- v1 = 4 || (v0 = 1);
abbrev pub or_stops : Rule
or_stops = record {
  header = pos 2 ∷ [];
  rows = row 42 1 0 0 0 0
      ++ row 41 2 0 0 0 0
      ++ row 21 3 4 0 0 0
      ++ row 2 1 0 0 0 0
      ++ row 18 5 6 0 0 0
      ++ constant (pos 4)
      ++ row 21 7 8 0 0 0
      ++ row 2 0 0 0 0 0
      ++ constant (pos 1);
  store = pos 5 ∷ pos 8 ∷ [];
  budget = 100;
  comes_to = record { ending = Plain; count = 6; store = pos 5 ∷ pos 1 ∷ [] };
}

-- v0 = 0 || 0;
abbrev pub or_both_false : Rule
or_both_false = record {
  header = pos 1 ∷ [];
  rows = row 42 1 0 0 0 0
      ++ row 41 2 0 0 0 0
      ++ row 21 3 4 0 0 0
      ++ row 2 0 0 0 0 0
      ++ row 18 5 6 0 0 0
      ++ constant (pos 0)
      ++ constant (pos 0);
  store = pos 9 ∷ [];
  budget = 100;
  comes_to = record { ending = Plain; count = 7; store = pos 0 ∷ [] };
}

-- v0 = v1 ? 10 : 20; with v1 = -1
abbrev pub conditional_true : Rule
conditional_true = record {
  header = pos 2 ∷ [];
  rows = row 42 1 0 0 0 0
      ++ row 41 2 0 0 0 0
      ++ row 21 3 4 0 0 0
      ++ row 2 0 0 0 0 0
      ++ row 19 5 6 7 0 0
      ++ row 2 1 0 0 0 0
      ++ constant (pos 10)
      ++ constant (pos 20);
  store = pos 0 ∷ negsuc 0 ∷ [];
  budget = 100;
  comes_to = record { ending = Plain; count = 7; store = pos 10 ∷ negsuc 0 ∷ [] };
}

-- v0 = v1 ? 10 : 20; with v1 = 0
abbrev pub conditional_false : Rule
conditional_false = record {
  header = pos 2 ∷ [];
  rows = row 42 1 0 0 0 0
      ++ row 41 2 0 0 0 0
      ++ row 21 3 4 0 0 0
      ++ row 2 0 0 0 0 0
      ++ row 19 5 6 7 0 0
      ++ row 2 1 0 0 0 0
      ++ constant (pos 10)
      ++ constant (pos 20);
  store = pos 0 ∷ pos 0 ∷ [];
  budget = 100;
  comes_to = record { ending = Plain; count = 7; store = pos 20 ∷ pos 0 ∷ [] };
}

-- v1 = (v0 = 3, v0 + 1);
abbrev pub comma_left_first : Rule
comma_left_first = record {
  header = pos 2 ∷ [];
  rows = row 42 1 0 0 0 0
      ++ row 41 2 0 0 0 0
      ++ row 21 3 4 0 0 0
      ++ row 2 1 0 0 0 0
      ++ row 20 5 8 0 0 0
      ++ row 21 6 7 0 0 0
      ++ row 2 0 0 0 0 0
      ++ constant (pos 3)
      ++ row 6 9 10 0 0 0
      ++ row 2 0 0 0 0 0
      ++ constant (pos 1);
  store = pos 7 ∷ pos 0 ∷ [];
  budget = 100;
  comes_to = record { ending = Plain; count = 11; store = pos 3 ∷ pos 4 ∷ [] };
}

-- v0 = v1 = 7;
abbrev pub assign_gives_value : Rule
assign_gives_value = record {
  header = pos 2 ∷ [];
  rows = row 42 1 0 0 0 0
      ++ row 41 2 0 0 0 0
      ++ row 21 3 4 0 0 0
      ++ row 2 0 0 0 0 0
      ++ row 21 5 6 0 0 0
      ++ row 2 1 0 0 0 0
      ++ constant (pos 7);
  store = pos 0 ∷ pos 0 ∷ [];
  budget = 100;
  comes_to = record { ending = Plain; count = 7; store = pos 7 ∷ pos 7 ∷ [] };
}

-- b[1] = b[2]; with b behind an array of 2
abbrev pub second_array : Rule
second_array = record {
  header = pos 1 ∷ pos 2 ∷ pos 3 ∷ [];
  rows = row 42 1 0 0 0 0
      ++ row 41 2 0 0 0 0
      ++ row 21 3 5 0 0 0
      ++ row 3 1 4 0 0 0
      ++ constant (pos 1)
      ++ row 3 1 6 0 0 0
      ++ constant (pos 2);
  store = pos 9 ∷ pos 1 ∷ pos 2 ∷ pos 3 ∷ pos 4 ∷ pos 5 ∷ [];
  budget = 100;
  comes_to = record { ending = Plain; count = 7; store = pos 9 ∷ pos 1 ∷ pos 2 ∷ pos 3 ∷ pos 5 ∷ pos 5 ∷ [] };
}

-- v0 = b[2]; with b of 2 behind an array of 3
abbrev pub second_array_length : Rule
second_array_length = record {
  header = pos 1 ∷ pos 3 ∷ pos 2 ∷ [];
  rows = row 42 1 0 0 0 0
      ++ row 41 2 0 0 0 0
      ++ row 21 3 4 0 0 0
      ++ row 2 0 0 0 0 0
      ++ row 3 1 5 0 0 0
      ++ constant (pos 2);
  store = pos 9 ∷ pos 1 ∷ pos 2 ∷ pos 3 ∷ pos 4 ∷ pos 5 ∷ [];
  budget = 100;
  comes_to = record { ending = Fault Index; count = 5; store = pos 9 ∷ pos 1 ∷ pos 2 ∷ pos 3 ∷ pos 4 ∷ pos 5 ∷ [] };
}

-- v1 = a[v0 = 1];
abbrev pub index_assigns : Rule
index_assigns = record {
  header = pos 2 ∷ pos 3 ∷ [];
  rows = row 42 1 0 0 0 0
      ++ row 41 2 0 0 0 0
      ++ row 21 3 4 0 0 0
      ++ row 2 1 0 0 0 0
      ++ row 3 0 5 0 0 0
      ++ row 21 6 7 0 0 0
      ++ row 2 0 0 0 0 0
      ++ constant (pos 1);
  store = pos 0 ∷ pos 0 ∷ pos 4 ∷ pos 5 ∷ pos 6 ∷ [];
  budget = 100;
  comes_to = record { ending = Plain; count = 8; store = pos 1 ∷ pos 5 ∷ pos 4 ∷ pos 5 ∷ pos 6 ∷ [] };
}

-- v1 = v0 += 3;
abbrev pub compound_gives_new_value : Rule
compound_gives_new_value = record {
  header = pos 2 ∷ [];
  rows = row 42 1 0 0 0 0
      ++ row 41 2 0 0 0 0
      ++ row 21 3 4 0 0 0
      ++ row 2 1 0 0 0 0
      ++ row 22 5 6 0 0 0
      ++ row 2 0 0 0 0 0
      ++ constant (pos 3);
  store = pos 4 ∷ pos 0 ∷ [];
  budget = 100;
  comes_to = record { ending = Plain; count = 7; store = pos 7 ∷ pos 7 ∷ [] };
}

-- v0 += 10; v1 -= 10; v2 *= 10; v3 /= 10; v4 %= 10;
abbrev pub compound_operators : Rule
compound_operators = record {
  header = pos 5 ∷ [];
  rows = row 42 1 0 0 0 0
      ++ row 41 2 0 0 0 5
      ++ row 22 3 4 0 0 0
      ++ row 2 0 0 0 0 0
      ++ constant (pos 10)
      ++ row 41 6 0 0 0 9
      ++ row 23 7 8 0 0 0
      ++ row 2 1 0 0 0 0
      ++ constant (pos 10)
      ++ row 41 10 0 0 0 13
      ++ row 24 11 12 0 0 0
      ++ row 2 2 0 0 0 0
      ++ constant (pos 10)
      ++ row 41 14 0 0 0 17
      ++ row 25 15 16 0 0 0
      ++ row 2 3 0 0 0 0
      ++ constant (pos 10)
      ++ row 41 18 0 0 0 0
      ++ row 26 19 20 0 0 0
      ++ row 2 4 0 0 0 0
      ++ constant (pos 10);
  store = pos 7 ∷ pos 7 ∷ pos 7 ∷ pos 27 ∷ pos 27 ∷ [];
  budget = 100;
  comes_to = record { ending = Plain; count = 21; store = pos 17 ∷ negsuc 2 ∷ pos 70 ∷ pos 2 ∷ pos 7 ∷ [] };
}

-- a[v0 = 1] += v0;
abbrev pub compound_value_first : Rule
compound_value_first = record {
  header = pos 1 ∷ pos 3 ∷ [];
  rows = row 42 1 0 0 0 0
      ++ row 41 2 0 0 0 0
      ++ row 22 3 7 0 0 0
      ++ row 3 0 4 0 0 0
      ++ row 21 5 6 0 0 0
      ++ row 2 0 0 0 0 0
      ++ constant (pos 1)
      ++ row 2 0 0 0 0 0;
  store = pos 5 ∷ pos 10 ∷ pos 20 ∷ pos 30 ∷ [];
  budget = 100;
  comes_to = record { ending = Plain; count = 8; store = pos 1 ∷ pos 10 ∷ pos 25 ∷ pos 30 ∷ [] };
}

-- a[a[2] = 2] += 4;
abbrev pub compound_reads_after_index : Rule
compound_reads_after_index = record {
  header = pos 0 ∷ pos 3 ∷ [];
  rows = row 42 1 0 0 0 0
      ++ row 41 2 0 0 0 0
      ++ row 22 3 8 0 0 0
      ++ row 3 0 4 0 0 0
      ++ row 21 5 7 0 0 0
      ++ row 3 0 6 0 0 0
      ++ constant (pos 2)
      ++ constant (pos 2)
      ++ constant (pos 4);
  store = pos 7 ∷ pos 8 ∷ pos 9 ∷ [];
  budget = 100;
  comes_to = record { ending = Plain; count = 9; store = pos 7 ∷ pos 8 ∷ pos 6 ∷ [] };
}

-- v0 += 1; with v0 = 2147483647
abbrev pub compound_overflows : Rule
compound_overflows = record {
  header = pos 1 ∷ [];
  rows = row 42 1 0 0 0 0
      ++ row 41 2 0 0 0 0
      ++ row 22 3 4 0 0 0
      ++ row 2 0 0 0 0 0
      ++ constant (pos 1);
  store = pos 2147483647 ∷ [];
  budget = 100;
  comes_to = record { ending = Fault Overflow; count = 5; store = pos 2147483647 ∷ [] };
}

-- v1 = ++v0;
abbrev pub prefix_gives_new_value : Rule
prefix_gives_new_value = record {
  header = pos 2 ∷ [];
  rows = row 42 1 0 0 0 0
      ++ row 41 2 0 0 0 0
      ++ row 21 3 4 0 0 0
      ++ row 2 1 0 0 0 0
      ++ row 27 5 0 0 0 0
      ++ row 2 0 0 0 0 0;
  store = pos 4 ∷ pos 0 ∷ [];
  budget = 100;
  comes_to = record { ending = Plain; count = 6; store = pos 5 ∷ pos 5 ∷ [] };
}

-- v1 = --a[v0++];
abbrev pub prefix_index_once : Rule
prefix_index_once = record {
  header = pos 2 ∷ pos 3 ∷ [];
  rows = row 42 1 0 0 0 0
      ++ row 41 2 0 0 0 0
      ++ row 21 3 4 0 0 0
      ++ row 2 1 0 0 0 0
      ++ row 28 5 0 0 0 0
      ++ row 3 0 6 0 0 0
      ++ row 29 7 0 0 0 0
      ++ row 2 0 0 0 0 0;
  store = pos 1 ∷ pos 0 ∷ pos 5 ∷ pos 6 ∷ pos 7 ∷ [];
  budget = 100;
  comes_to = record { ending = Plain; count = 8; store = pos 2 ∷ pos 5 ∷ pos 5 ∷ pos 5 ∷ pos 7 ∷ [] };
}

-- --v0; with v0 = -2147483648
abbrev pub prefix_overflows : Rule
prefix_overflows = record {
  header = pos 1 ∷ [];
  rows = row 42 1 0 0 0 0
      ++ row 41 2 0 0 0 0
      ++ row 28 3 0 0 0 0
      ++ row 2 0 0 0 0 0;
  store = negsuc 2147483647 ∷ [];
  budget = 100;
  comes_to = record { ending = Fault Overflow; count = 4; store = negsuc 2147483647 ∷ [] };
}

-- v1 = v0--;
abbrev pub postfix_gives_old_value : Rule
postfix_gives_old_value = record {
  header = pos 2 ∷ [];
  rows = row 42 1 0 0 0 0
      ++ row 41 2 0 0 0 0
      ++ row 21 3 4 0 0 0
      ++ row 2 1 0 0 0 0
      ++ row 30 5 0 0 0 0
      ++ row 2 0 0 0 0 0;
  store = pos 4 ∷ pos 0 ∷ [];
  budget = 100;
  comes_to = record { ending = Plain; count = 6; store = pos 3 ∷ pos 4 ∷ [] };
}

-- v1 = a[v0--]++;
abbrev pub postfix_index_once : Rule
postfix_index_once = record {
  header = pos 2 ∷ pos 3 ∷ [];
  rows = row 42 1 0 0 0 0
      ++ row 41 2 0 0 0 0
      ++ row 21 3 4 0 0 0
      ++ row 2 1 0 0 0 0
      ++ row 29 5 0 0 0 0
      ++ row 3 0 6 0 0 0
      ++ row 30 7 0 0 0 0
      ++ row 2 0 0 0 0 0;
  store = pos 1 ∷ pos 0 ∷ pos 5 ∷ pos 6 ∷ pos 7 ∷ [];
  budget = 100;
  comes_to = record { ending = Plain; count = 8; store = pos 0 ∷ pos 6 ∷ pos 5 ∷ pos 7 ∷ pos 7 ∷ [] };
}

-- v0++; with v0 = 2147483647
abbrev pub postfix_overflows : Rule
postfix_overflows = record {
  header = pos 1 ∷ [];
  rows = row 42 1 0 0 0 0
      ++ row 41 2 0 0 0 0
      ++ row 29 3 0 0 0 0
      ++ row 2 0 0 0 0 0;
  store = pos 2147483647 ∷ [];
  budget = 100;
  comes_to = record { ending = Fault Overflow; count = 4; store = pos 2147483647 ∷ [] };
}
