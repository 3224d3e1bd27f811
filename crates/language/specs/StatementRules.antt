-- Rules that pin the clauses of statements other than loops: empty, block, if, switch and its marks, break.
use Rattle.std.specs.Prelude.{[], ◌∷◌, ◌++◌, pos, negsuc}
use Rattle.words.specs.declared.Ending.TheVariants.{Plain}
use Rattle.language.specs.Rule.{Rule, row, constant, case}

-- an empty program
abbrev pub no_items : Rule
no_items = record {
  header = pos 0 ∷ [];
  rows = row 42 0 0 0 0 0;
  store = [];
  budget = 100;
  comes_to = record { ending = Plain; count = 1; store = [] };
}

-- ; {} { v0 = 1; }
abbrev pub empty_and_blocks : Rule
empty_and_blocks = record {
  header = pos 1 ∷ [];
  rows = row 42 1 0 0 0 0
      ++ row 40 0 0 0 0 2
      ++ row 42 0 0 0 0 3
      ++ row 42 4 0 0 0 0
      ++ row 41 5 0 0 0 0
      ++ row 21 6 7 0 0 0
      ++ row 2 0 0 0 0 0
      ++ constant (pos 1);
  store = pos 0 ∷ [];
  budget = 100;
  comes_to = record { ending = Plain; count = 8; store = pos 1 ∷ [] };
}

-- if (v0) v1 = 1; v2 = 1; with v0 = -2
abbrev pub if-true : Rule
if-true = record {
  header = pos 3 ∷ [];
  rows = row 42 1 0 0 0 0
      ++ row 43 2 3 0 0 7
      ++ row 2 0 0 0 0 0
      ++ row 41 4 0 0 0 0
      ++ row 21 5 6 0 0 0
      ++ row 2 1 0 0 0 0
      ++ constant (pos 1)
      ++ row 41 8 0 0 0 0
      ++ row 21 9 10 0 0 0
      ++ row 2 2 0 0 0 0
      ++ constant (pos 1);
  store = negsuc 1 ∷ pos 0 ∷ pos 0 ∷ [];
  budget = 100;
  comes_to = record { ending = Plain; count = 11; store = negsuc 1 ∷ pos 1 ∷ pos 1 ∷ [] };
}

-- if (v0) v1 = 1; v2 = 1; with v0 = 0
abbrev pub if_false : Rule
if_false = record {
  header = pos 3 ∷ [];
  rows = row 42 1 0 0 0 0
      ++ row 43 2 3 0 0 7
      ++ row 2 0 0 0 0 0
      ++ row 41 4 0 0 0 0
      ++ row 21 5 6 0 0 0
      ++ row 2 1 0 0 0 0
      ++ constant (pos 1)
      ++ row 41 8 0 0 0 0
      ++ row 21 9 10 0 0 0
      ++ row 2 2 0 0 0 0
      ++ constant (pos 1);
  store = pos 0 ∷ pos 0 ∷ pos 0 ∷ [];
  budget = 100;
  comes_to = record { ending = Plain; count = 7; store = pos 0 ∷ pos 0 ∷ pos 1 ∷ [] };
}

-- if (v0) v1 = 1; else v2 = 1; with v0 = 2
abbrev pub if_else_true : Rule
if_else_true = record {
  header = pos 3 ∷ [];
  rows = row 42 1 0 0 0 0
      ++ row 43 2 3 7 0 0
      ++ row 2 0 0 0 0 0
      ++ row 41 4 0 0 0 0
      ++ row 21 5 6 0 0 0
      ++ row 2 1 0 0 0 0
      ++ constant (pos 1)
      ++ row 41 8 0 0 0 0
      ++ row 21 9 10 0 0 0
      ++ row 2 2 0 0 0 0
      ++ constant (pos 1);
  store = pos 2 ∷ pos 0 ∷ pos 0 ∷ [];
  budget = 100;
  comes_to = record { ending = Plain; count = 7; store = pos 2 ∷ pos 1 ∷ pos 0 ∷ [] };
}

-- if (v0) v1 = 1; else v2 = 1; with v0 = 0
abbrev pub if_else_false : Rule
if_else_false = record {
  header = pos 3 ∷ [];
  rows = row 42 1 0 0 0 0
      ++ row 43 2 3 7 0 0
      ++ row 2 0 0 0 0 0
      ++ row 41 4 0 0 0 0
      ++ row 21 5 6 0 0 0
      ++ row 2 1 0 0 0 0
      ++ constant (pos 1)
      ++ row 41 8 0 0 0 0
      ++ row 21 9 10 0 0 0
      ++ row 2 2 0 0 0 0
      ++ constant (pos 1);
  store = pos 0 ∷ pos 0 ∷ pos 0 ∷ [];
  budget = 100;
  comes_to = record { ending = Plain; count = 7; store = pos 0 ∷ pos 0 ∷ pos 1 ∷ [] };
}

-- switch (5) { case 1: v0 = 1; } v1 = 1;
abbrev pub switch_without_match : Rule
switch_without_match = record {
  header = pos 2 ∷ [];
  rows = row 42 1 0 0 0 0
      ++ row 47 2 3 0 0 8
      ++ constant (pos 5)
      ++ row 48 1 0 0 0 4
      ++ row 41 5 0 0 0 0
      ++ row 21 6 7 0 0 0
      ++ row 2 0 0 0 0 0
      ++ constant (pos 1)
      ++ row 41 9 0 0 0 0
      ++ row 21 10 11 0 0 0
      ++ row 2 1 0 0 0 0
      ++ constant (pos 1);
  store = pos 0 ∷ pos 0 ∷ [];
  budget = 100;
  comes_to = record { ending = Plain; count = 7; store = pos 0 ∷ pos 1 ∷ [] };
}

-- switch (1) { case 1: v0 = 1; } v1 = 1;
abbrev pub switch_ends_by_itself : Rule
switch_ends_by_itself = record {
  header = pos 2 ∷ [];
  rows = row 42 1 0 0 0 0
      ++ row 47 2 3 0 0 8
      ++ constant (pos 1)
      ++ row 48 1 0 0 0 4
      ++ row 41 5 0 0 0 0
      ++ row 21 6 7 0 0 0
      ++ row 2 0 0 0 0 0
      ++ constant (pos 1)
      ++ row 41 9 0 0 0 0
      ++ row 21 10 11 0 0 0
      ++ row 2 1 0 0 0 0
      ++ constant (pos 1);
  store = pos 0 ∷ pos 0 ∷ [];
  budget = 100;
  comes_to = record { ending = Plain; count = 12; store = pos 1 ∷ pos 1 ∷ [] };
}

-- switch (v0++) {}
abbrev pub switch_without_items : Rule
switch_without_items = record {
  header = pos 1 ∷ [];
  rows = row 42 1 0 0 0 0
      ++ row 47 2 0 0 0 0
      ++ row 29 3 0 0 0 0
      ++ row 2 0 0 0 0 0;
  store = pos 0 ∷ [];
  budget = 100;
  comes_to = record { ending = Plain; count = 4; store = pos 1 ∷ [] };
}

-- switch (1) { v0 = 1; }
abbrev pub switch_without_marks : Rule
switch_without_marks = record {
  header = pos 1 ∷ [];
  rows = row 42 1 0 0 0 0
      ++ row 47 2 3 0 0 0
      ++ constant (pos 1)
      ++ row 41 4 0 0 0 0
      ++ row 21 5 6 0 0 0
      ++ row 2 0 0 0 0 0
      ++ constant (pos 1);
  store = pos 0 ∷ [];
  budget = 100;
  comes_to = record { ending = Plain; count = 3; store = pos 0 ∷ [] };
}

-- switch (1) { case 1: v0 = 1; break; case 2: v1 = 1; default: v2 = 1; }
abbrev pub break_passes_marks : Rule
break_passes_marks = record {
  header = pos 3 ∷ [];
  rows = row 42 1 0 0 0 0
      ++ row 47 2 3 0 0 0
      ++ constant (pos 1)
      ++ row 48 1 0 0 0 4
      ++ row 41 5 0 0 0 8
      ++ row 21 6 7 0 0 0
      ++ row 2 0 0 0 0 0
      ++ constant (pos 1)
      ++ row 50 0 0 0 0 9
      ++ row 48 2 0 0 0 10
      ++ row 41 11 0 0 0 14
      ++ row 21 12 13 0 0 0
      ++ row 2 1 0 0 0 0
      ++ constant (pos 1)
      ++ row 49 0 0 0 0 15
      ++ row 41 16 0 0 0 0
      ++ row 21 17 18 0 0 0
      ++ row 2 2 0 0 0 0
      ++ constant (pos 1);
  store = pos 0 ∷ pos 0 ∷ pos 0 ∷ [];
  budget = 100;
  comes_to = record { ending = Plain; count = 9; store = pos 1 ∷ pos 0 ∷ pos 0 ∷ [] };
}

-- switch (9) { case 1: v0 = 1; default: v1 = 1; }
abbrev pub default_last : Rule
default_last = record {
  header = pos 2 ∷ [];
  rows = row 42 1 0 0 0 0
      ++ row 47 2 3 0 0 0
      ++ constant (pos 9)
      ++ row 48 1 0 0 0 4
      ++ row 41 5 0 0 0 8
      ++ row 21 6 7 0 0 0
      ++ row 2 0 0 0 0 0
      ++ constant (pos 1)
      ++ row 49 0 0 0 0 9
      ++ row 41 10 0 0 0 0
      ++ row 21 11 12 0 0 0
      ++ row 2 1 0 0 0 0
      ++ constant (pos 1);
  store = pos 0 ∷ pos 0 ∷ [];
  budget = 100;
  comes_to = record { ending = Plain; count = 8; store = pos 0 ∷ pos 1 ∷ [] };
}

-- switch (-1) { case 1: v0 = 1; break; case -1: v1 = 1; }
abbrev pub negative_case : Rule
negative_case = record {
  header = pos 2 ∷ [];
  rows = row 42 1 0 0 0 0
      ++ row 47 2 3 0 0 0
      ++ constant (negsuc 0)
      ++ row 48 1 0 0 0 4
      ++ row 41 5 0 0 0 8
      ++ row 21 6 7 0 0 0
      ++ row 2 0 0 0 0 0
      ++ constant (pos 1)
      ++ row 50 0 0 0 0 9
      ++ case (negsuc 0) 10
      ++ row 41 11 0 0 0 0
      ++ row 21 12 13 0 0 0
      ++ row 2 1 0 0 0 0
      ++ constant (pos 1);
  store = pos 0 ∷ pos 0 ∷ [];
  budget = 100;
  comes_to = record { ending = Plain; count = 8; store = pos 0 ∷ pos 1 ∷ [] };
}

-- switch (v0++) { case 0: v1 = 1; case 1: v2 = 1; }
abbrev pub selector_once : Rule
selector_once = record {
  header = pos 3 ∷ [];
  rows = row 42 1 0 0 0 0
      ++ row 47 2 4 0 0 0
      ++ row 29 3 0 0 0 0
      ++ row 2 0 0 0 0 0
      ++ row 48 0 0 0 0 5
      ++ row 41 6 0 0 0 9
      ++ row 21 7 8 0 0 0
      ++ row 2 1 0 0 0 0
      ++ constant (pos 1)
      ++ row 48 1 0 0 0 10
      ++ row 41 11 0 0 0 0
      ++ row 21 12 13 0 0 0
      ++ row 2 2 0 0 0 0
      ++ constant (pos 1);
  store = pos 0 ∷ pos 0 ∷ pos 0 ∷ [];
  budget = 100;
  comes_to = record { ending = Plain; count = 14; store = pos 1 ∷ pos 1 ∷ pos 1 ∷ [] };
}

-- switch (2) { case 1: switch (0) { case 2: v0 = 1; } default: v1 = 1; }
abbrev pub marks_of_inner_switch : Rule
marks_of_inner_switch = record {
  header = pos 2 ∷ [];
  rows = row 42 1 0 0 0 0
      ++ row 47 2 3 0 0 0
      ++ constant (pos 2)
      ++ row 48 1 0 0 0 4
      ++ row 47 5 6 0 0 11
      ++ constant (pos 0)
      ++ row 48 2 0 0 0 7
      ++ row 41 8 0 0 0 0
      ++ row 21 9 10 0 0 0
      ++ row 2 0 0 0 0 0
      ++ constant (pos 1)
      ++ row 49 0 0 0 0 12
      ++ row 41 13 0 0 0 0
      ++ row 21 14 15 0 0 0
      ++ row 2 1 0 0 0 0
      ++ constant (pos 1);
  store = pos 0 ∷ pos 0 ∷ [];
  budget = 100;
  comes_to = record { ending = Plain; count = 8; store = pos 0 ∷ pos 1 ∷ [] };
}

-- switch (1) { case 1: switch (2) { case 2: break; } v0 = 1; }
abbrev pub break_leaves_inner_switch : Rule
break_leaves_inner_switch = record {
  header = pos 1 ∷ [];
  rows = row 42 1 0 0 0 0
      ++ row 47 2 3 0 0 0
      ++ constant (pos 1)
      ++ row 48 1 0 0 0 4
      ++ row 47 5 6 0 0 8
      ++ constant (pos 2)
      ++ row 48 2 0 0 0 7
      ++ row 50 0 0 0 0 0
      ++ row 41 9 0 0 0 0
      ++ row 21 10 11 0 0 0
      ++ row 2 0 0 0 0 0
      ++ constant (pos 1);
  store = pos 0 ∷ [];
  budget = 100;
  comes_to = record { ending = Plain; count = 12; store = pos 1 ∷ [] };
}

-- switch (1) { case 1: { break; } v0 = 1; }
abbrev pub break_in_block : Rule
break_in_block = record {
  header = pos 1 ∷ [];
  rows = row 42 1 0 0 0 0
      ++ row 47 2 3 0 0 0
      ++ constant (pos 1)
      ++ row 48 1 0 0 0 4
      ++ row 42 5 0 0 0 6
      ++ row 50 0 0 0 0 0
      ++ row 41 7 0 0 0 0
      ++ row 21 8 9 0 0 0
      ++ row 2 0 0 0 0 0
      ++ constant (pos 1);
  store = pos 0 ∷ [];
  budget = 100;
  comes_to = record { ending = Plain; count = 6; store = pos 0 ∷ [] };
}
