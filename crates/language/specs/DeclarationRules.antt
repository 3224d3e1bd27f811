-- Rules that pin the clause of declarations: the count, the initial value before the store, each entry anew, each object a word of its own.
-- Names stand as store words, as in a resolved table: the objects that a C text declares lie behind the header's words. Their table.
use Rattle.std.specs.Prelude.{List, [], ◌∷◌, ◌++◌, ℕ, ℤ, pos, negsuc}
use Rattle.words.specs.declared.FaultSort.TheVariants.{ZeroDivisor}
use Rattle.words.specs.declared.Ending.TheVariants.{Plain, Fault}
use Rattle.language.specs.Rule.{Rule, row, constant}

-- ---- rows, by what stands for each declared object: its number in a program, its store word in the resolved table

-- int v0 = v1 + 1; v1 = v0;
abbrev pub initial_value : ℕ → List ℤ
initial_value object =
    row 42 1 0 0 0 0
    ++ row 58 object 2 0 0 5
    ++ row 6 3 4 0 0 0
    ++ row 2 1 0 0 0 0
    ++ constant (pos 1)
    ++ row 41 6 0 0 0 0
    ++ row 21 7 8 0 0 0
    ++ row 2 1 0 0 0 0
    ++ row 2 object 0 0 0 0

-- int v0 = 1 / v1;
abbrev pub faulting_value : ℕ → List ℤ
faulting_value object = row 42 1 0 0 0 0 ++ row 58 object 2 0 0 0 ++ row 9 3 4 0 0 0 ++ constant (pos 1) ++ row 2 1 0 0 0 0

-- while (v1--) { int v0 = 3; v0 += v1; }
abbrev pub declaring_loop : ℕ → List ℤ
declaring_loop object =
    row 42 1 0 0 0 0
    ++ row 44 2 4 0 0 0
    ++ row 30 3 0 0 0 0
    ++ row 2 1 0 0 0 0
    ++ row 42 5 0 0 0 0
    ++ row 58 object 6 0 0 7
    ++ constant (pos 3)
    ++ row 41 8 0 0 0 0
    ++ row 22 9 10 0 0 0
    ++ row 2 object 0 0 0 0
    ++ row 2 1 0 0 0 0

-- { v0 = 1; int v0 = v1; v0 = 2; } v2 = v0;
abbrev pub outer_around : ℕ → List ℤ
outer_around object =
    row 42 1 0 0 0 0
    ++ row 42 2 0 0 0 12
    ++ row 41 3 0 0 0 6
    ++ row 21 4 5 0 0 0
    ++ row 2 0 0 0 0 0
    ++ constant (pos 1)
    ++ row 58 object 7 0 0 8
    ++ row 2 1 0 0 0 0
    ++ row 41 9 0 0 0 0
    ++ row 21 10 11 0 0 0
    ++ row 2 object 0 0 0 0
    ++ constant (pos 2)
    ++ row 41 13 0 0 0 0
    ++ row 21 14 15 0 0 0
    ++ row 2 2 0 0 0 0
    ++ row 2 0 0 0 0 0

-- int v0 = 1; { int v0 = 2; v0 = 3; } v1 = v0;
abbrev pub inner_hides : ℕ → ℕ → List ℤ
inner_hides outer inner =
    row 42 1 0 0 0 0
    ++ row 58 outer 2 0 0 3
    ++ constant (pos 1)
    ++ row 42 4 0 0 0 10
    ++ row 58 inner 5 0 0 6
    ++ constant (pos 2)
    ++ row 41 7 0 0 0 0
    ++ row 21 8 9 0 0 0
    ++ row 2 inner 0 0 0 0
    ++ constant (pos 3)
    ++ row 41 11 0 0 0 0
    ++ row 21 12 13 0 0 0
    ++ row 2 1 0 0 0 0
    ++ row 2 outer 0 0 0 0

-- { int v0 = 10; } { int v0 = 20; }, the rows of the second block's list first
abbrev pub rows_crossed : ℕ → ℕ → List ℤ
rows_crossed second first =
    row 42 1 0 0 0 0
    ++ row 42 5 0 0 0 2
    ++ row 42 3 0 0 0 0
    ++ row 58 second 4 0 0 0
    ++ constant (pos 20)
    ++ row 58 first 6 0 0 0
    ++ constant (pos 10)

-- ---- rules

-- with v1 = 8: three rows for the value, none for the store
abbrev pub declared_object : Rule
declared_object = record {
  header = pos 2 ∷ [];
  rows = initial_value 2;
  store = pos 7 ∷ pos 8 ∷ pos 5 ∷ [];
  budget = 100;
  comes_to = record { ending = Plain; count = 9; store = pos 7 ∷ pos 9 ∷ pos 9 ∷ [] };
}

-- with v1 = 0: the object keeps what it held
abbrev pub initial_value_faults : Rule
initial_value_faults = record {
  header = pos 2 ∷ [];
  rows = faulting_value 2;
  store = pos 7 ∷ pos 0 ∷ pos 5 ∷ [];
  budget = 100;
  comes_to = record { ending = Fault ZeroDivisor; count = 5; store = pos 7 ∷ pos 0 ∷ pos 5 ∷ [] };
}

-- with v1 = 2
abbrev pub declared_anew : Rule
declared_anew = record {
  header = pos 2 ∷ [];
  rows = declaring_loop 2;
  store = pos 7 ∷ pos 2 ∷ pos 5 ∷ [];
  budget = 100;
  comes_to = record { ending = Plain; count = 22; store = pos 7 ∷ negsuc 0 ∷ pos 3 ∷ [] };
}

-- with v1 = 7: before the declaration and behind the block the number means the outer object
abbrev pub outer_object_around : Rule
outer_object_around = record {
  header = pos 3 ∷ [];
  rows = outer_around 3;
  store = pos 0 ∷ pos 7 ∷ pos 0 ∷ pos 9 ∷ [];
  budget = 100;
  comes_to = record { ending = Plain; count = 16; store = pos 1 ∷ pos 7 ∷ pos 1 ∷ pos 2 ∷ [] };
}

-- the inner block stores in its own object
abbrev pub inner_object_hides : Rule
inner_object_hides = record {
  header = pos 2 ∷ [];
  rows = inner_hides 2 3;
  store = pos 7 ∷ pos 8 ∷ pos 5 ∷ pos 5 ∷ [];
  budget = 100;
  comes_to = record { ending = Plain; count = 14; store = pos 7 ∷ pos 1 ∷ pos 1 ∷ pos 3 ∷ [] };
}

-- behind an array of 2: the first word is that of the lower row
abbrev pub words_in_row_order : Rule
words_in_row_order = record {
  header = pos 1 ∷ pos 2 ∷ [];
  rows = rows_crossed 3 4;
  store = pos 7 ∷ pos 8 ∷ pos 9 ∷ pos 5 ∷ pos 5 ∷ [];
  budget = 100;
  comes_to = record { ending = Plain; count = 7; store = pos 7 ∷ pos 8 ∷ pos 9 ∷ pos 20 ∷ pos 10 ∷ [] };
}

abbrev pub declaration_table : List Rule
declaration_table =
    declared_object ∷
    initial_value_faults ∷
    declared_anew ∷
    outer_object_around ∷
    inner_object_hides ∷
    words_in_row_order ∷
    []
