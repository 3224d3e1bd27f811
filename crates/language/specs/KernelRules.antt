-- Rules in kernel form: temporaries, goto and label, abort, and the count of what a jump passes over. Their table.
use Rattle.std.specs.Prelude.{List, [], ◌∷◌, ◌++◌, pos}
use Rattle.words.specs.declared.FaultSort.TheVariants.{Index, Guard}
use Rattle.words.specs.declared.Ending.TheVariants.{Plain, Spent, Fault}
use Rattle.language.specs.Rule.{Rule, row, constant}

-- v4 = 5; v5 = v4 + 2; a[2] = v5; v0 = a[2]; with temporaries v4 and v5 behind an array of 3
abbrev pub temporaries : Rule
temporaries = record {
  header = pos 1 ∷ pos 0 ∷ pos 2 ∷ pos 3 ∷ [];
  rows = row 42 1 0 0 0 0
      ++ row 41 2 0 0 0 5
      ++ row 21 3 4 0 0 0
      ++ row 2 4 0 0 0 0
      ++ constant (pos 5)
      ++ row 41 6 0 0 0 11
      ++ row 21 7 8 0 0 0
      ++ row 2 5 0 0 0 0
      ++ row 6 9 10 0 0 0
      ++ row 2 4 0 0 0 0
      ++ constant (pos 2)
      ++ row 41 12 0 0 0 16
      ++ row 21 13 15 0 0 0
      ++ row 3 0 14 0 0 0
      ++ constant (pos 2)
      ++ row 2 5 0 0 0 0
      ++ row 41 17 0 0 0 0
      ++ row 21 18 19 0 0 0
      ++ row 2 0 0 0 0 0
      ++ row 3 0 20 0 0 0
      ++ constant (pos 2);
  store = pos 0 ∷ pos 8 ∷ pos 9 ∷ pos 6 ∷ pos 1 ∷ pos 1 ∷ [];
  budget = 100;
  comes_to = record { ending = Plain; count = 21; store = pos 7 ∷ pos 8 ∷ pos 9 ∷ pos 7 ∷ pos 5 ∷ pos 7 ∷ [] };
}

-- goto 7; v0 = 1; label 7: v1 = 1;
abbrev pub goto_passes_over : Rule
goto_passes_over = record {
  header = pos 2 ∷ pos 0 ∷ pos 0 ∷ [];
  rows = row 42 1 0 0 0 0
      ++ row 52 7 0 0 0 2
      ++ row 41 3 0 0 0 6
      ++ row 21 4 5 0 0 0
      ++ row 2 0 0 0 0 0
      ++ constant (pos 1)
      ++ row 53 7 0 0 0 7
      ++ row 41 8 0 0 0 0
      ++ row 21 9 10 0 0 0
      ++ row 2 1 0 0 0 0
      ++ constant (pos 1);
  store = pos 0 ∷ pos 0 ∷ [];
  budget = 100;
  comes_to = record { ending = Plain; count = 7; store = pos 0 ∷ pos 1 ∷ [] };
}

-- label 0: v0 = 1;
abbrev pub label_fallen_into : Rule
label_fallen_into = record {
  header = pos 1 ∷ pos 0 ∷ pos 0 ∷ [];
  rows = row 42 1 0 0 0 0
      ++ row 53 0 0 0 0 2
      ++ row 41 3 0 0 0 0
      ++ row 21 4 5 0 0 0
      ++ row 2 0 0 0 0 0
      ++ constant (pos 1);
  store = pos 0 ∷ [];
  budget = 100;
  comes_to = record { ending = Plain; count = 6; store = pos 1 ∷ [] };
}

-- { { goto 1; v0 = 1; } label 0: v1 = 1; } label 1: v2 = 1;
abbrev pub goto_leaves_blocks : Rule
goto_leaves_blocks = record {
  header = pos 3 ∷ pos 0 ∷ pos 0 ∷ [];
  rows = row 42 1 0 0 0 0
      ++ row 42 2 0 0 0 13
      ++ row 42 3 0 0 0 8
      ++ row 52 1 0 0 0 4
      ++ row 41 5 0 0 0 0
      ++ row 21 6 7 0 0 0
      ++ row 2 0 0 0 0 0
      ++ constant (pos 1)
      ++ row 53 0 0 0 0 9
      ++ row 41 10 0 0 0 0
      ++ row 21 11 12 0 0 0
      ++ row 2 1 0 0 0 0
      ++ constant (pos 1)
      ++ row 53 1 0 0 0 14
      ++ row 41 15 0 0 0 0
      ++ row 21 16 17 0 0 0
      ++ row 2 2 0 0 0 0
      ++ constant (pos 1);
  store = pos 0 ∷ pos 0 ∷ pos 0 ∷ [];
  budget = 100;
  comes_to = record { ending = Plain; count = 9; store = pos 0 ∷ pos 0 ∷ pos 1 ∷ [] };
}

-- { goto 0; v0 = 1; label 0: v1 = 1; } v2 = 1;
abbrev pub goto_stays_in_block : Rule
goto_stays_in_block = record {
  header = pos 3 ∷ pos 0 ∷ pos 0 ∷ [];
  rows = row 42 1 0 0 0 0
      ++ row 42 2 0 0 0 12
      ++ row 52 0 0 0 0 3
      ++ row 41 4 0 0 0 7
      ++ row 21 5 6 0 0 0
      ++ row 2 0 0 0 0 0
      ++ constant (pos 1)
      ++ row 53 0 0 0 0 8
      ++ row 41 9 0 0 0 0
      ++ row 21 10 11 0 0 0
      ++ row 2 1 0 0 0 0
      ++ constant (pos 1)
      ++ row 41 13 0 0 0 0
      ++ row 21 14 15 0 0 0
      ++ row 2 2 0 0 0 0
      ++ constant (pos 1);
  store = pos 0 ∷ pos 0 ∷ pos 0 ∷ [];
  budget = 100;
  comes_to = record { ending = Plain; count = 12; store = pos 0 ∷ pos 1 ∷ pos 1 ∷ [] };
}

-- while (1) { goto 3; v0 = 1; } v1 = 1; label 3: v2 = 1;
abbrev pub goto_leaves_while : Rule
goto_leaves_while = record {
  header = pos 3 ∷ pos 0 ∷ pos 0 ∷ [];
  rows = row 42 1 0 0 0 0
      ++ row 44 2 3 0 0 9
      ++ constant (pos 1)
      ++ row 42 4 0 0 0 0
      ++ row 52 3 0 0 0 5
      ++ row 41 6 0 0 0 0
      ++ row 21 7 8 0 0 0
      ++ row 2 0 0 0 0 0
      ++ constant (pos 1)
      ++ row 41 10 0 0 0 13
      ++ row 21 11 12 0 0 0
      ++ row 2 1 0 0 0 0
      ++ constant (pos 1)
      ++ row 53 3 0 0 0 14
      ++ row 41 15 0 0 0 0
      ++ row 21 16 17 0 0 0
      ++ row 2 2 0 0 0 0
      ++ constant (pos 1);
  store = pos 0 ∷ pos 0 ∷ pos 0 ∷ [];
  budget = 100;
  comes_to = record { ending = Plain; count = 10; store = pos 0 ∷ pos 0 ∷ pos 1 ∷ [] };
}

-- while (v0) { v0 = v0 - 1; if (v0) { goto 2; } else {} v1 = v1 + 1; label 2: } with v0 = 2
abbrev pub goto_in_while : Rule
goto_in_while = record {
  header = pos 2 ∷ pos 0 ∷ pos 0 ∷ [];
  rows = row 42 1 0 0 0 0
      ++ row 44 2 3 0 0 0
      ++ row 2 0 0 0 0 0
      ++ row 42 4 0 0 0 0
      ++ row 41 5 0 0 0 10
      ++ row 21 6 7 0 0 0
      ++ row 2 0 0 0 0 0
      ++ row 7 8 9 0 0 0
      ++ row 2 0 0 0 0 0
      ++ constant (pos 1)
      ++ row 43 11 12 14 0 15
      ++ row 2 0 0 0 0 0
      ++ row 42 13 0 0 0 0
      ++ row 52 2 0 0 0 0
      ++ row 42 0 0 0 0 0
      ++ row 41 16 0 0 0 21
      ++ row 21 17 18 0 0 0
      ++ row 2 1 0 0 0 0
      ++ row 6 19 20 0 0 0
      ++ row 2 1 0 0 0 0
      ++ constant (pos 1)
      ++ row 53 2 0 0 0 0;
  store = pos 2 ∷ pos 0 ∷ [];
  budget = 100;
  comes_to = record { ending = Plain; count = 34; store = pos 0 ∷ pos 1 ∷ [] };
}

-- a[v0] = 1; with v0 = 2, an array of 2 and 3 temporaries behind it
abbrev pub kernel_index : Rule
kernel_index = record {
  header = pos 1 ∷ pos 0 ∷ pos 3 ∷ pos 2 ∷ [];
  rows = row 42 1 0 0 0 0
      ++ row 41 2 0 0 0 0
      ++ row 21 3 5 0 0 0
      ++ row 3 0 4 0 0 0
      ++ row 2 0 0 0 0 0
      ++ constant (pos 1);
  store = pos 2 ∷ pos 8 ∷ pos 9 ∷ pos 7 ∷ pos 7 ∷ pos 7 ∷ [];
  budget = 100;
  comes_to = record { ending = Fault Index; count = 6; store = pos 2 ∷ pos 8 ∷ pos 9 ∷ pos 7 ∷ pos 7 ∷ pos 7 ∷ [] };
}

-- while (1) {} with budget 9
abbrev pub kernel_spent : Rule
kernel_spent = record {
  header = pos 0 ∷ pos 0 ∷ pos 0 ∷ [];
  rows = row 42 1 0 0 0 0
      ++ row 44 2 3 0 0 0
      ++ constant (pos 1)
      ++ row 42 0 0 0 0 0;
  store = [];
  budget = 9;
  comes_to = record { ending = Spent; count = 9; store = [] };
}

-- v0 = 1; { abort; } v0 = 2;
abbrev pub abort_fails : Rule
abort_fails = record {
  header = pos 1 ∷ pos 0 ∷ pos 0 ∷ [];
  rows = row 42 1 0 0 0 0
      ++ row 41 2 0 0 0 5
      ++ row 21 3 4 0 0 0
      ++ row 2 0 0 0 0 0
      ++ constant (pos 1)
      ++ row 42 6 0 0 0 7
      ++ row 57 0 0 0 0 0
      ++ row 41 8 0 0 0 0
      ++ row 21 9 10 0 0 0
      ++ row 2 0 0 0 0 0
      ++ constant (pos 2);
  store = pos 0 ∷ [];
  budget = 100;
  comes_to = record { ending = Fault Guard; count = 7; store = pos 1 ∷ [] };
}

-- goto 0; abort; label 0: v0 = 1;
abbrev pub goto_passes_abort : Rule
goto_passes_abort = record {
  header = pos 1 ∷ pos 0 ∷ pos 0 ∷ [];
  rows = row 42 1 0 0 0 0
      ++ row 52 0 0 0 0 2
      ++ row 57 0 0 0 0 3
      ++ row 53 0 0 0 0 4
      ++ row 41 5 0 0 0 0
      ++ row 21 6 7 0 0 0
      ++ row 2 0 0 0 0 0
      ++ constant (pos 1);
  store = pos 0 ∷ [];
  budget = 100;
  comes_to = record { ending = Plain; count = 7; store = pos 1 ∷ [] };
}

abbrev pub kernel_table : List Rule
kernel_table =
    temporaries ∷
    goto_passes_over ∷
    label_fallen_into ∷
    goto_leaves_blocks ∷
    goto_stays_in_block ∷
    goto_leaves_while ∷
    goto_in_while ∷
    kernel_index ∷
    kernel_spent ∷
    abort_fails ∷
    goto_passes_abort ∷
    []
