-- Rules whose order of evaluation, or whose result, surprises. Counts were also worked out by the interpreter built apart.
use Rattle.std.specs.Prelude.{[], ◌∷◌, ◌++◌, pos, negsuc}
use Rattle.words.specs.declared.FaultSort.TheVariants.{Overflow, ZeroDivisor, Index}
use Rattle.words.specs.declared.Ending.TheVariants.{Plain, Fault}
use Rattle.language.specs.Rule.{Rule, row, constant}

-- a[v0 = 1] = v0;
abbrev pub value_before_index : Rule
value_before_index = record {
  header = pos 1 ∷ pos 3 ∷ [];
  rows = row 42 1 0 0 0 0
      ++ row 41 2 0 0 0 0
      ++ row 21 3 7 0 0 0
      ++ row 3 0 4 0 0 0
      ++ row 21 5 6 0 0 0
      ++ row 2 0 0 0 0 0
      ++ constant (pos 1)
      ++ row 2 0 0 0 0 0;
  store = pos 7 ∷ pos 0 ∷ pos 0 ∷ pos 0 ∷ [];
  budget = 100;
  comes_to = record { ending = Plain; count = 8; store = pos 1 ∷ pos 0 ∷ pos 7 ∷ pos 0 ∷ [] };
}

-- a[3] = 5; with a second array behind the first
abbrev pub store_needs_its_bounds : Rule
store_needs_its_bounds = record {
  header = pos 1 ∷ pos 3 ∷ pos 1 ∷ [];
  rows = row 42 1 0 0 0 0
      ++ row 41 2 0 0 0 0
      ++ row 21 3 5 0 0 0
      ++ row 3 0 4 0 0 0
      ++ constant (pos 3)
      ++ constant (pos 5);
  store = pos 0 ∷ pos 7 ∷ pos 8 ∷ pos 9 ∷ pos 4 ∷ [];
  budget = 100;
  comes_to = record { ending = Fault Index; count = 6; store = pos 0 ∷ pos 7 ∷ pos 8 ∷ pos 9 ∷ pos 4 ∷ [] };
}

-- v0 = v0++;
abbrev pub own_increment_lost : Rule
own_increment_lost = record {
  header = pos 1 ∷ [];
  rows = row 42 1 0 0 0 0
      ++ row 41 2 0 0 0 0
      ++ row 21 3 4 0 0 0
      ++ row 2 0 0 0 0 0
      ++ row 29 5 0 0 0 0
      ++ row 2 0 0 0 0 0;
  store = pos 5 ∷ [];
  budget = 100;
  comes_to = record { ending = Plain; count = 6; store = pos 5 ∷ [] };
}

-- 1 / 0; v0 = 1;
abbrev pub discarded_fault : Rule
discarded_fault = record {
  header = pos 1 ∷ [];
  rows = row 42 1 0 0 0 0
      ++ row 41 2 0 0 0 5
      ++ row 9 3 4 0 0 0
      ++ constant (pos 1)
      ++ constant (pos 0)
      ++ row 41 6 0 0 0 0
      ++ row 21 7 8 0 0 0
      ++ row 2 0 0 0 0 0
      ++ constant (pos 1);
  store = pos 0 ∷ [];
  budget = 100;
  comes_to = record { ending = Fault ZeroDivisor; count = 5; store = pos 0 ∷ [] };
}

-- a[9] /= 0;
abbrev pub index_before_operation : Rule
index_before_operation = record {
  header = pos 1 ∷ pos 3 ∷ [];
  rows = row 42 1 0 0 0 0
      ++ row 41 2 0 0 0 0
      ++ row 25 3 5 0 0 0
      ++ row 3 0 4 0 0 0
      ++ constant (pos 9)
      ++ constant (pos 0);
  store = pos 0 ∷ pos 0 ∷ pos 0 ∷ pos 0 ∷ [];
  budget = 100;
  comes_to = record { ending = Fault Index; count = 6; store = pos 0 ∷ pos 0 ∷ pos 0 ∷ pos 0 ∷ [] };
}

-- a[9] = 1 / 0;
abbrev pub value_fault_first : Rule
value_fault_first = record {
  header = pos 1 ∷ pos 3 ∷ [];
  rows = row 42 1 0 0 0 0
      ++ row 41 2 0 0 0 0
      ++ row 21 3 5 0 0 0
      ++ row 3 0 4 0 0 0
      ++ constant (pos 9)
      ++ row 9 6 7 0 0 0
      ++ constant (pos 1)
      ++ constant (pos 0);
  store = pos 0 ∷ pos 0 ∷ pos 0 ∷ pos 0 ∷ [];
  budget = 100;
  comes_to = record { ending = Fault ZeroDivisor; count = 6; store = pos 0 ∷ pos 0 ∷ pos 0 ∷ pos 0 ∷ [] };
}

-- switch (2) { default: v0 = 1; case 1: v1 = 1; case 2: v2 = 1; }
abbrev pub case_past_others : Rule
case_past_others = record {
  header = pos 3 ∷ [];
  rows = row 42 1 0 0 0 0
      ++ row 47 2 3 0 0 0
      ++ constant (pos 2)
      ++ row 49 0 0 0 0 4
      ++ row 41 5 0 0 0 8
      ++ row 21 6 7 0 0 0
      ++ row 2 0 0 0 0 0
      ++ constant (pos 1)
      ++ row 48 1 0 0 0 9
      ++ row 41 10 0 0 0 13
      ++ row 21 11 12 0 0 0
      ++ row 2 1 0 0 0 0
      ++ constant (pos 1)
      ++ row 48 2 0 0 0 14
      ++ row 41 15 0 0 0 0
      ++ row 21 16 17 0 0 0
      ++ row 2 2 0 0 0 0
      ++ constant (pos 1);
  store = pos 0 ∷ pos 0 ∷ pos 0 ∷ [];
  budget = 100;
  comes_to = record { ending = Plain; count = 8; store = pos 0 ∷ pos 0 ∷ pos 1 ∷ [] };
}

-- switch (1) { v0 = 1; case 1: v1 = 1; }
abbrev pub before_first_mark : Rule
before_first_mark = record {
  header = pos 2 ∷ [];
  rows = row 42 1 0 0 0 0
      ++ row 47 2 3 0 0 0
      ++ constant (pos 1)
      ++ row 41 4 0 0 0 7
      ++ row 21 5 6 0 0 0
      ++ row 2 0 0 0 0 0
      ++ constant (pos 1)
      ++ row 48 1 0 0 0 8
      ++ row 41 9 0 0 0 0
      ++ row 21 10 11 0 0 0
      ++ row 2 1 0 0 0 0
      ++ constant (pos 1);
  store = pos 0 ∷ pos 0 ∷ [];
  budget = 100;
  comes_to = record { ending = Plain; count = 8; store = pos 0 ∷ pos 1 ∷ [] };
}

-- for (v0 = 0; v0 < 3; v0++) { continue; v1 = 1; }
abbrev pub continue_to_step : Rule
continue_to_step = record {
  header = pos 2 ∷ [];
  rows = row 42 1 0 0 0 0
      ++ row 46 2 5 8 10 0
      ++ row 21 3 4 0 0 0
      ++ row 2 0 0 0 0 0
      ++ constant (pos 0)
      ++ row 11 6 7 0 0 0
      ++ row 2 0 0 0 0 0
      ++ constant (pos 3)
      ++ row 29 9 0 0 0 0
      ++ row 2 0 0 0 0 0
      ++ row 42 11 0 0 0 0
      ++ row 51 0 0 0 0 12
      ++ row 41 13 0 0 0 0
      ++ row 21 14 15 0 0 0
      ++ row 2 1 0 0 0 0
      ++ constant (pos 1);
  store = pos 9 ∷ pos 0 ∷ [];
  budget = 200;
  comes_to = record { ending = Plain; count = 29; store = pos 3 ∷ pos 0 ∷ [] };
}

-- while (v0 < 3) { ++v0; switch (1) { case 1: break; } ++v1; }
abbrev pub break_leaves_switch : Rule
break_leaves_switch = record {
  header = pos 2 ∷ [];
  rows = row 42 1 0 0 0 0
      ++ row 44 2 5 0 0 0
      ++ row 11 3 4 0 0 0
      ++ row 2 0 0 0 0 0
      ++ constant (pos 3)
      ++ row 42 6 0 0 0 0
      ++ row 41 7 0 0 0 9
      ++ row 27 8 0 0 0 0
      ++ row 2 0 0 0 0 0
      ++ row 47 10 11 0 0 13
      ++ constant (pos 1)
      ++ row 48 1 0 0 0 12
      ++ row 50 0 0 0 0 0
      ++ row 41 14 0 0 0 0
      ++ row 27 15 0 0 0 0
      ++ row 2 1 0 0 0 0;
  store = pos 0 ∷ pos 0 ∷ [];
  budget = 200;
  comes_to = record { ending = Plain; count = 47; store = pos 3 ∷ pos 3 ∷ [] };
}

-- v0 = -2147483648 / -1;
abbrev pub least_by_minus_one : Rule
least_by_minus_one = record {
  header = pos 1 ∷ [];
  rows = row 42 1 0 0 0 0
      ++ row 41 2 0 0 0 0
      ++ row 21 3 4 0 0 0
      ++ row 2 0 0 0 0 0
      ++ row 9 5 6 0 0 0
      ++ constant (negsuc 2147483647)
      ++ constant (negsuc 0);
  store = pos 4 ∷ [];
  budget = 100;
  comes_to = record { ending = Fault Overflow; count = 6; store = pos 4 ∷ [] };
}

-- v0 = -2147483648 % -1;
abbrev pub remainder_by_minus_one : Rule
remainder_by_minus_one = record {
  header = pos 1 ∷ [];
  rows = row 42 1 0 0 0 0
      ++ row 41 2 0 0 0 0
      ++ row 21 3 4 0 0 0
      ++ row 2 0 0 0 0 0
      ++ row 10 5 6 0 0 0
      ++ constant (negsuc 2147483647)
      ++ constant (negsuc 0);
  store = pos 4 ∷ [];
  budget = 100;
  comes_to = record { ending = Fault Overflow; count = 6; store = pos 4 ∷ [] };
}

-- v0 = -2147483647 % -1;
abbrev pub remainder_of_least_but_one : Rule
remainder_of_least_but_one = record {
  header = pos 1 ∷ [];
  rows = row 42 1 0 0 0 0
      ++ row 41 2 0 0 0 0
      ++ row 21 3 4 0 0 0
      ++ row 2 0 0 0 0 0
      ++ row 10 5 6 0 0 0
      ++ constant (negsuc 2147483646)
      ++ constant (negsuc 0);
  store = pos 4 ∷ [];
  budget = 100;
  comes_to = record { ending = Plain; count = 7; store = pos 0 ∷ [] };
}

-- v0 = -2147483648 % 1;
abbrev pub remainder_of_least_by_one : Rule
remainder_of_least_by_one = record {
  header = pos 1 ∷ [];
  rows = row 42 1 0 0 0 0
      ++ row 41 2 0 0 0 0
      ++ row 21 3 4 0 0 0
      ++ row 2 0 0 0 0 0
      ++ row 10 5 6 0 0 0
      ++ constant (negsuc 2147483647)
      ++ constant (pos 1);
  store = pos 4 ∷ [];
  budget = 100;
  comes_to = record { ending = Plain; count = 7; store = pos 0 ∷ [] };
}

-- v0 = -2147483648: v0 %= -1;
abbrev pub remainder_assigned_by_minus_one : Rule
remainder_assigned_by_minus_one = record {
  header = pos 1 ∷ [];
  rows = row 42 1 0 0 0 0
      ++ row 41 2 0 0 0 0
      ++ row 26 3 4 0 0 0
      ++ row 2 0 0 0 0 0
      ++ constant (negsuc 0);
  store = negsuc 2147483647 ∷ [];
  budget = 100;
  comes_to = record { ending = Fault Overflow; count = 5; store = negsuc 2147483647 ∷ [] };
}

-- a[0] = -2147483648: a[v0++] %= -1;
abbrev pub element_remainder_by_minus_one : Rule
element_remainder_by_minus_one = record {
  header = pos 1 ∷ pos 2 ∷ [];
  rows = row 42 1 0 0 0 0
      ++ row 41 2 0 0 0 0
      ++ row 26 3 6 0 0 0
      ++ row 3 0 4 0 0 0
      ++ row 29 5 0 0 0 0
      ++ row 2 0 0 0 0 0
      ++ constant (negsuc 0);
  store = pos 0 ∷ negsuc 2147483647 ∷ pos 5 ∷ [];
  budget = 100;
  comes_to = record { ending = Fault Overflow; count = 7; store = pos 1 ∷ negsuc 2147483647 ∷ pos 5 ∷ [] };
}

-- v0 = 1; v1 = v0++ / 0;
abbrev pub earlier_stores_stay : Rule
earlier_stores_stay = record {
  header = pos 2 ∷ [];
  rows = row 42 1 0 0 0 0
      ++ row 41 2 0 0 0 5
      ++ row 21 3 4 0 0 0
      ++ row 2 0 0 0 0 0
      ++ constant (pos 1)
      ++ row 41 6 0 0 0 0
      ++ row 21 7 8 0 0 0
      ++ row 2 1 0 0 0 0
      ++ row 9 9 11 0 0 0
      ++ row 29 10 0 0 0 0
      ++ row 2 0 0 0 0 0
      ++ constant (pos 0);
  store = pos 0 ∷ pos 5 ∷ [];
  budget = 100;
  comes_to = record { ending = Fault ZeroDivisor; count = 11; store = pos 2 ∷ pos 5 ∷ [] };
}
