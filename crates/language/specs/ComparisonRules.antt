-- Rules that pin the comparisons, kinds 11 to 16, each where the left is less, equal and greater.
use Rattle.std.specs.Prelude.{[], ◌∷◌, ◌++◌, pos, negsuc}
use Rattle.words.specs.declared.Ending.TheVariants.{Plain}
use Rattle.language.specs.Rule.{Rule, row, constant}

-- v0 = -1 < 2; v1 = 2 < 2; v2 = 2 < -1;
abbrev pub less : Rule
less = record {
  header = pos 3 ∷ [];
  rows = row 42 1 0 0 0 0
      ++ row 41 2 0 0 0 7
      ++ row 21 3 4 0 0 0
      ++ row 2 0 0 0 0 0
      ++ row 11 5 6 0 0 0
      ++ constant (negsuc 0)
      ++ constant (pos 2)
      ++ row 41 8 0 0 0 13
      ++ row 21 9 10 0 0 0
      ++ row 2 1 0 0 0 0
      ++ row 11 11 12 0 0 0
      ++ constant (pos 2)
      ++ constant (pos 2)
      ++ row 41 14 0 0 0 0
      ++ row 21 15 16 0 0 0
      ++ row 2 2 0 0 0 0
      ++ row 11 17 18 0 0 0
      ++ constant (pos 2)
      ++ constant (negsuc 0);
  store = pos 9 ∷ pos 9 ∷ pos 9 ∷ [];
  budget = 100;
  comes_to = record { ending = Plain; count = 19; store = pos 1 ∷ pos 0 ∷ pos 0 ∷ [] };
}

-- v0 = -1 > 2; v1 = 2 > 2; v2 = 2 > -1;
abbrev pub greater : Rule
greater = record {
  header = pos 3 ∷ [];
  rows = row 42 1 0 0 0 0
      ++ row 41 2 0 0 0 7
      ++ row 21 3 4 0 0 0
      ++ row 2 0 0 0 0 0
      ++ row 12 5 6 0 0 0
      ++ constant (negsuc 0)
      ++ constant (pos 2)
      ++ row 41 8 0 0 0 13
      ++ row 21 9 10 0 0 0
      ++ row 2 1 0 0 0 0
      ++ row 12 11 12 0 0 0
      ++ constant (pos 2)
      ++ constant (pos 2)
      ++ row 41 14 0 0 0 0
      ++ row 21 15 16 0 0 0
      ++ row 2 2 0 0 0 0
      ++ row 12 17 18 0 0 0
      ++ constant (pos 2)
      ++ constant (negsuc 0);
  store = pos 9 ∷ pos 9 ∷ pos 9 ∷ [];
  budget = 100;
  comes_to = record { ending = Plain; count = 19; store = pos 0 ∷ pos 0 ∷ pos 1 ∷ [] };
}

-- v0 = -1 <= 2; v1 = 2 <= 2; v2 = 2 <= -1;
abbrev pub less_or_equal : Rule
less_or_equal = record {
  header = pos 3 ∷ [];
  rows = row 42 1 0 0 0 0
      ++ row 41 2 0 0 0 7
      ++ row 21 3 4 0 0 0
      ++ row 2 0 0 0 0 0
      ++ row 13 5 6 0 0 0
      ++ constant (negsuc 0)
      ++ constant (pos 2)
      ++ row 41 8 0 0 0 13
      ++ row 21 9 10 0 0 0
      ++ row 2 1 0 0 0 0
      ++ row 13 11 12 0 0 0
      ++ constant (pos 2)
      ++ constant (pos 2)
      ++ row 41 14 0 0 0 0
      ++ row 21 15 16 0 0 0
      ++ row 2 2 0 0 0 0
      ++ row 13 17 18 0 0 0
      ++ constant (pos 2)
      ++ constant (negsuc 0);
  store = pos 9 ∷ pos 9 ∷ pos 9 ∷ [];
  budget = 100;
  comes_to = record { ending = Plain; count = 19; store = pos 1 ∷ pos 1 ∷ pos 0 ∷ [] };
}

-- v0 = -1 >= 2; v1 = 2 >= 2; v2 = 2 >= -1;
abbrev pub greater_or_equal : Rule
greater_or_equal = record {
  header = pos 3 ∷ [];
  rows = row 42 1 0 0 0 0
      ++ row 41 2 0 0 0 7
      ++ row 21 3 4 0 0 0
      ++ row 2 0 0 0 0 0
      ++ row 14 5 6 0 0 0
      ++ constant (negsuc 0)
      ++ constant (pos 2)
      ++ row 41 8 0 0 0 13
      ++ row 21 9 10 0 0 0
      ++ row 2 1 0 0 0 0
      ++ row 14 11 12 0 0 0
      ++ constant (pos 2)
      ++ constant (pos 2)
      ++ row 41 14 0 0 0 0
      ++ row 21 15 16 0 0 0
      ++ row 2 2 0 0 0 0
      ++ row 14 17 18 0 0 0
      ++ constant (pos 2)
      ++ constant (negsuc 0);
  store = pos 9 ∷ pos 9 ∷ pos 9 ∷ [];
  budget = 100;
  comes_to = record { ending = Plain; count = 19; store = pos 0 ∷ pos 1 ∷ pos 1 ∷ [] };
}

-- v0 = -1 == 2; v1 = 2 == 2; v2 = 2 == -1;
abbrev pub equal : Rule
equal = record {
  header = pos 3 ∷ [];
  rows = row 42 1 0 0 0 0
      ++ row 41 2 0 0 0 7
      ++ row 21 3 4 0 0 0
      ++ row 2 0 0 0 0 0
      ++ row 15 5 6 0 0 0
      ++ constant (negsuc 0)
      ++ constant (pos 2)
      ++ row 41 8 0 0 0 13
      ++ row 21 9 10 0 0 0
      ++ row 2 1 0 0 0 0
      ++ row 15 11 12 0 0 0
      ++ constant (pos 2)
      ++ constant (pos 2)
      ++ row 41 14 0 0 0 0
      ++ row 21 15 16 0 0 0
      ++ row 2 2 0 0 0 0
      ++ row 15 17 18 0 0 0
      ++ constant (pos 2)
      ++ constant (negsuc 0);
  store = pos 9 ∷ pos 9 ∷ pos 9 ∷ [];
  budget = 100;
  comes_to = record { ending = Plain; count = 19; store = pos 0 ∷ pos 1 ∷ pos 0 ∷ [] };
}

-- v0 = -1 != 2; v1 = 2 != 2; v2 = 2 != -1;
abbrev pub not_equal : Rule
not_equal = record {
  header = pos 3 ∷ [];
  rows = row 42 1 0 0 0 0
      ++ row 41 2 0 0 0 7
      ++ row 21 3 4 0 0 0
      ++ row 2 0 0 0 0 0
      ++ row 16 5 6 0 0 0
      ++ constant (negsuc 0)
      ++ constant (pos 2)
      ++ row 41 8 0 0 0 13
      ++ row 21 9 10 0 0 0
      ++ row 2 1 0 0 0 0
      ++ row 16 11 12 0 0 0
      ++ constant (pos 2)
      ++ constant (pos 2)
      ++ row 41 14 0 0 0 0
      ++ row 21 15 16 0 0 0
      ++ row 2 2 0 0 0 0
      ++ row 16 17 18 0 0 0
      ++ constant (pos 2)
      ++ constant (negsuc 0);
  store = pos 9 ∷ pos 9 ∷ pos 9 ∷ [];
  budget = 100;
  comes_to = record { ending = Plain; count = 19; store = pos 1 ∷ pos 0 ∷ pos 1 ∷ [] };
}

-- v0 = -3 < -2; v1 = -3 == -3; v2 = -3 == -2;
abbrev pub both_negative : Rule
both_negative = record {
  header = pos 3 ∷ [];
  rows = row 42 1 0 0 0 0
      ++ row 41 2 0 0 0 7
      ++ row 21 3 4 0 0 0
      ++ row 2 0 0 0 0 0
      ++ row 11 5 6 0 0 0
      ++ constant (negsuc 2)
      ++ constant (negsuc 1)
      ++ row 41 8 0 0 0 13
      ++ row 21 9 10 0 0 0
      ++ row 2 1 0 0 0 0
      ++ row 15 11 12 0 0 0
      ++ constant (negsuc 2)
      ++ constant (negsuc 2)
      ++ row 41 14 0 0 0 0
      ++ row 21 15 16 0 0 0
      ++ row 2 2 0 0 0 0
      ++ row 15 17 18 0 0 0
      ++ constant (negsuc 2)
      ++ constant (negsuc 1);
  store = pos 9 ∷ pos 9 ∷ pos 9 ∷ [];
  budget = 100;
  comes_to = record { ending = Plain; count = 19; store = pos 1 ∷ pos 1 ∷ pos 0 ∷ [] };
}
