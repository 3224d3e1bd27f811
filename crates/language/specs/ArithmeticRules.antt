-- Rules that pin the arithmetic: minus, not, each operator of kinds 6 to 10, its faults, both ends of a word.
use Rattle.std.specs.Prelude.{[], ◌∷◌, ◌++◌, pos, negsuc}
use Rattle.words.specs.declared.FaultSort.TheVariants.{Overflow, ZeroDivisor}
use Rattle.words.specs.declared.Ending.TheVariants.{Plain, Fault}
use Rattle.language.specs.Rule.{Rule, row, constant}

-- v0 = -v1;
abbrev pub minus_value : Rule
minus_value = record {
  header = pos 2 ∷ [];
  rows = row 42 1 0 0 0 0
      ++ row 41 2 0 0 0 0
      ++ row 21 3 4 0 0 0
      ++ row 2 0 0 0 0 0
      ++ row 4 5 0 0 0 0
      ++ row 2 1 0 0 0 0;
  store = pos 0 ∷ pos 5 ∷ [];
  budget = 100;
  comes_to = record { ending = Plain; count = 6; store = negsuc 4 ∷ pos 5 ∷ [] };
}

-- v0 = -v1; with v1 = -2147483647
abbrev pub minus_of_negative : Rule
minus_of_negative = record {
  header = pos 2 ∷ [];
  rows = row 42 1 0 0 0 0
      ++ row 41 2 0 0 0 0
      ++ row 21 3 4 0 0 0
      ++ row 2 0 0 0 0 0
      ++ row 4 5 0 0 0 0
      ++ row 2 1 0 0 0 0;
  store = pos 0 ∷ negsuc 2147483646 ∷ [];
  budget = 100;
  comes_to = record { ending = Plain; count = 6; store = pos 2147483647 ∷ negsuc 2147483646 ∷ [] };
}

-- v0 = -v1; with v1 = -2147483648
abbrev pub minus_overflows : Rule
minus_overflows = record {
  header = pos 2 ∷ [];
  rows = row 42 1 0 0 0 0
      ++ row 41 2 0 0 0 0
      ++ row 21 3 4 0 0 0
      ++ row 2 0 0 0 0 0
      ++ row 4 5 0 0 0 0
      ++ row 2 1 0 0 0 0;
  store = pos 3 ∷ negsuc 2147483647 ∷ [];
  budget = 100;
  comes_to = record { ending = Fault Overflow; count = 5; store = pos 3 ∷ negsuc 2147483647 ∷ [] };
}

-- v0 = !v0; v1 = !v1; v2 = !v2; with 0, 7 and -7
abbrev pub not_gives_bits : Rule
not_gives_bits = record {
  header = pos 3 ∷ [];
  rows = row 42 1 0 0 0 0
      ++ row 41 2 0 0 0 6
      ++ row 21 3 4 0 0 0
      ++ row 2 0 0 0 0 0
      ++ row 5 5 0 0 0 0
      ++ row 2 0 0 0 0 0
      ++ row 41 7 0 0 0 11
      ++ row 21 8 9 0 0 0
      ++ row 2 1 0 0 0 0
      ++ row 5 10 0 0 0 0
      ++ row 2 1 0 0 0 0
      ++ row 41 12 0 0 0 0
      ++ row 21 13 14 0 0 0
      ++ row 2 2 0 0 0 0
      ++ row 5 15 0 0 0 0
      ++ row 2 2 0 0 0 0;
  store = pos 0 ∷ pos 7 ∷ negsuc 6 ∷ [];
  budget = 100;
  comes_to = record { ending = Plain; count = 16; store = pos 1 ∷ pos 0 ∷ pos 0 ∷ [] };
}

-- v0 = -2147483647 + -1;
abbrev pub least_sum : Rule
least_sum = record {
  header = pos 1 ∷ [];
  rows = row 42 1 0 0 0 0
      ++ row 41 2 0 0 0 0
      ++ row 21 3 4 0 0 0
      ++ row 2 0 0 0 0 0
      ++ row 6 5 6 0 0 0
      ++ constant (negsuc 2147483646)
      ++ constant (negsuc 0);
  store = pos 0 ∷ [];
  budget = 100;
  comes_to = record { ending = Plain; count = 7; store = negsuc 2147483647 ∷ [] };
}

-- v0 = -2147483648 + -1;
abbrev pub sum_below_least : Rule
sum_below_least = record {
  header = pos 1 ∷ [];
  rows = row 42 1 0 0 0 0
      ++ row 41 2 0 0 0 0
      ++ row 21 3 4 0 0 0
      ++ row 2 0 0 0 0 0
      ++ row 6 5 6 0 0 0
      ++ constant (negsuc 2147483647)
      ++ constant (negsuc 0);
  store = pos 5 ∷ [];
  budget = 100;
  comes_to = record { ending = Fault Overflow; count = 6; store = pos 5 ∷ [] };
}

-- v0 = 3 - 5;
abbrev pub difference : Rule
difference = record {
  header = pos 1 ∷ [];
  rows = row 42 1 0 0 0 0
      ++ row 41 2 0 0 0 0
      ++ row 21 3 4 0 0 0
      ++ row 2 0 0 0 0 0
      ++ row 7 5 6 0 0 0
      ++ constant (pos 3)
      ++ constant (pos 5);
  store = pos 0 ∷ [];
  budget = 100;
  comes_to = record { ending = Plain; count = 7; store = negsuc 1 ∷ [] };
}

-- v0 = 0 - -2147483648;
abbrev pub difference_overflows : Rule
difference_overflows = record {
  header = pos 1 ∷ [];
  rows = row 42 1 0 0 0 0
      ++ row 41 2 0 0 0 0
      ++ row 21 3 4 0 0 0
      ++ row 2 0 0 0 0 0
      ++ row 7 5 6 0 0 0
      ++ constant (pos 0)
      ++ constant (negsuc 2147483647);
  store = pos 5 ∷ [];
  budget = 100;
  comes_to = record { ending = Fault Overflow; count = 6; store = pos 5 ∷ [] };
}

-- v0 = -3 * 4;
abbrev pub product : Rule
product = record {
  header = pos 1 ∷ [];
  rows = row 42 1 0 0 0 0
      ++ row 41 2 0 0 0 0
      ++ row 21 3 4 0 0 0
      ++ row 2 0 0 0 0 0
      ++ row 8 5 6 0 0 0
      ++ constant (negsuc 2)
      ++ constant (pos 4);
  store = pos 0 ∷ [];
  budget = 100;
  comes_to = record { ending = Plain; count = 7; store = negsuc 11 ∷ [] };
}

-- v0 = -65536 * 32768;
abbrev pub least_product : Rule
least_product = record {
  header = pos 1 ∷ [];
  rows = row 42 1 0 0 0 0
      ++ row 41 2 0 0 0 0
      ++ row 21 3 4 0 0 0
      ++ row 2 0 0 0 0 0
      ++ row 8 5 6 0 0 0
      ++ constant (negsuc 65535)
      ++ constant (pos 32768);
  store = pos 0 ∷ [];
  budget = 100;
  comes_to = record { ending = Plain; count = 7; store = negsuc 2147483647 ∷ [] };
}

-- v0 = 65536 * 32768;
abbrev pub product_overflows : Rule
product_overflows = record {
  header = pos 1 ∷ [];
  rows = row 42 1 0 0 0 0
      ++ row 41 2 0 0 0 0
      ++ row 21 3 4 0 0 0
      ++ row 2 0 0 0 0 0
      ++ row 8 5 6 0 0 0
      ++ constant (pos 65536)
      ++ constant (pos 32768);
  store = pos 5 ∷ [];
  budget = 100;
  comes_to = record { ending = Fault Overflow; count = 6; store = pos 5 ∷ [] };
}

-- v0 = 7 / -2; v1 = -7 / -2; v2 = 7 / 2;
abbrev pub divisions : Rule
divisions = record {
  header = pos 3 ∷ [];
  rows = row 42 1 0 0 0 0
      ++ row 41 2 0 0 0 7
      ++ row 21 3 4 0 0 0
      ++ row 2 0 0 0 0 0
      ++ row 9 5 6 0 0 0
      ++ constant (pos 7)
      ++ constant (negsuc 1)
      ++ row 41 8 0 0 0 13
      ++ row 21 9 10 0 0 0
      ++ row 2 1 0 0 0 0
      ++ row 9 11 12 0 0 0
      ++ constant (negsuc 6)
      ++ constant (negsuc 1)
      ++ row 41 14 0 0 0 0
      ++ row 21 15 16 0 0 0
      ++ row 2 2 0 0 0 0
      ++ row 9 17 18 0 0 0
      ++ constant (pos 7)
      ++ constant (pos 2);
  store = pos 0 ∷ pos 0 ∷ pos 0 ∷ [];
  budget = 100;
  comes_to = record { ending = Plain; count = 19; store = negsuc 2 ∷ pos 3 ∷ pos 3 ∷ [] };
}

-- v0 = 7 % -2; v1 = -7 % -2; v2 = 7 % 2;
abbrev pub remainders : Rule
remainders = record {
  header = pos 3 ∷ [];
  rows = row 42 1 0 0 0 0
      ++ row 41 2 0 0 0 7
      ++ row 21 3 4 0 0 0
      ++ row 2 0 0 0 0 0
      ++ row 10 5 6 0 0 0
      ++ constant (pos 7)
      ++ constant (negsuc 1)
      ++ row 41 8 0 0 0 13
      ++ row 21 9 10 0 0 0
      ++ row 2 1 0 0 0 0
      ++ row 10 11 12 0 0 0
      ++ constant (negsuc 6)
      ++ constant (negsuc 1)
      ++ row 41 14 0 0 0 0
      ++ row 21 15 16 0 0 0
      ++ row 2 2 0 0 0 0
      ++ row 10 17 18 0 0 0
      ++ constant (pos 7)
      ++ constant (pos 2);
  store = pos 0 ∷ pos 0 ∷ pos 0 ∷ [];
  budget = 100;
  comes_to = record { ending = Plain; count = 19; store = pos 1 ∷ negsuc 0 ∷ pos 1 ∷ [] };
}

-- v0 = 0 / 0;
abbrev pub zero_by_zero : Rule
zero_by_zero = record {
  header = pos 1 ∷ [];
  rows = row 42 1 0 0 0 0
      ++ row 41 2 0 0 0 0
      ++ row 21 3 4 0 0 0
      ++ row 2 0 0 0 0 0
      ++ row 9 5 6 0 0 0
      ++ constant (pos 0)
      ++ constant (pos 0);
  store = pos 5 ∷ [];
  budget = 100;
  comes_to = record { ending = Fault ZeroDivisor; count = 6; store = pos 5 ∷ [] };
}

-- v0 = 7 % 0;
abbrev pub remainder_by_zero : Rule
remainder_by_zero = record {
  header = pos 1 ∷ [];
  rows = row 42 1 0 0 0 0
      ++ row 41 2 0 0 0 0
      ++ row 21 3 4 0 0 0
      ++ row 2 0 0 0 0 0
      ++ row 10 5 6 0 0 0
      ++ constant (pos 7)
      ++ constant (pos 0);
  store = pos 5 ∷ [];
  budget = 100;
  comes_to = record { ending = Fault ZeroDivisor; count = 6; store = pos 5 ∷ [] };
}
