-- Declaration samples: small source programs with declarations, and what the check must answer of each, worked out from document 02.
use Rattle.std.specs.Prelude.{List, [], ◌∷◌, ◌++◌, pos, negsuc, Ok}
use Rattle.check_answers.specs.Sample.{Sample, sample, row, refused}

-- Causes 4 to 6 of kind 58, and programs that have none of them.
abbrev pub declaration_rows : List Sample
declaration_rows =
    sample (pos 1 ∷ []) (row 42 1 0 0 0 0 ++ row 58 0 2 0 0 3 ++ row 1 1 0 0 0 0 ++ row 44 4 5 0 0 8 ++ row 2 0 0 0 0 0 ++ row 42 6 0 0 0 0 ++ row 58 0 7 0 0 0 ++ row 1 2 0 0 0 0 ++ row 54 9 0 0 0 14 ++ row 56 10 11 0 0 0 ++ row 2 0 0 0 0 0 ++ row 42 12 0 0 0 0 ++ row 58 0 13 0 0 0 ++ row 1 3 0 0 0 0 ++ row 47 15 16 0 0 0 ++ row 2 0 0 0 0 0 ++ row 42 17 0 0 0 0 ++ row 58 0 18 0 0 0 ++ row 1 4 0 0 0 0) (Ok tt) ∷  -- in row 0, in the blocks of a body, an arm and a switch
    sample (pos 2 ∷ []) (row 42 1 0 0 0 0 ++ row 40 0 0 0 0 2 ++ row 58 1 3 0 0 0 ++ row 2 0 0 0 0 0) (Ok tt) ∷  -- the last variable, the last item
    sample (pos 1 ∷ []) (row 42 1 0 0 0 0 ++ row 58 0 0 0 0 0) (refused 4 1) ∷  -- no initial expression
    sample (pos 1 ∷ []) (row 42 1 0 0 0 0 ++ row 58 0 2 0 0 0 ++ row 40 0 0 0 0 0) (refused 4 1) ∷  -- a statement for it
    sample (pos 1 ∷ []) (row 42 1 0 0 0 0 ++ row 41 2 0 0 0 0 ++ row 58 0 3 0 0 0 ++ row 1 0 0 0 0 0) (refused 4 1) ∷  -- a declaration for an expression
    sample (pos 1 ∷ []) (row 42 1 0 0 0 0 ++ row 54 2 0 0 0 0 ++ row 56 3 4 0 0 0 ++ row 1 0 0 0 0 0 ++ row 58 0 5 0 0 0 ++ row 1 0 0 0 0 0) (refused 4 2) ∷  -- for an arm's block
    sample (pos 1 ∷ []) (row 42 1 0 0 0 0 ++ row 54 2 0 0 0 0 ++ row 58 0 3 0 0 0 ++ row 1 0 0 0 0 0) (refused 4 1) ∷  -- for an arm
    sample (pos 1 ∷ []) (row 42 1 0 0 0 0 ++ row 44 2 3 0 0 0 ++ row 1 0 0 0 0 0 ++ row 58 0 4 0 0 5 ++ row 1 0 0 0 0 0 ++ row 40 0 0 0 0 0) (refused 4 1) ∷  -- a body with next
    sample (pos 1 ∷ []) (row 58 0 1 0 0 0 ++ row 1 0 0 0 0 0) (refused 5 0) ∷  -- row 0 a declaration
    sample (pos 1 ∷ []) (row 42 0 0 0 0 0 ++ row 58 0 2 0 0 0 ++ row 1 0 0 0 0 0) (refused 5 1) ∷  -- not linked
    sample (pos 1 ∷ pos 3 ∷ []) (row 42 1 0 0 0 0 ++ row 58 1 2 0 0 0 ++ row 1 0 0 0 0 0) (refused 6 1) ∷  -- number V, which an array has
    sample (pos 0 ∷ []) (row 42 1 0 0 0 0 ++ row 58 0 2 0 0 0 ++ row 1 0 0 0 0 0) (refused 6 1) ∷  -- of no variables
    sample (pos 1 ∷ []) (row 42 1 0 0 0 0 ++ (pos 58 ∷ negsuc 0 ∷ pos 2 ∷ pos 0 ∷ pos 0 ∷ pos 0 ∷ []) ++ row 1 0 0 0 0 0) (refused 6 1) ∷  -- negative
    sample (pos 1 ∷ []) (row 42 1 0 0 0 0 ++ row 58 0 2 0 0 3 ++ row 1 0 0 0 0 0 ++ row 41 4 0 0 0 0 ++ row 2 1 0 0 0 0) (refused 6 4) ∷  -- a name behind V, which no declaration makes
    []

-- Cause 7, "It is an item of a block (elsewhere 7)": with that of document 01, the lowest row.
abbrev pub declaration_places : List Sample
declaration_places =
    sample (pos 1 ∷ []) (row 42 1 0 0 0 0 ++ row 44 2 3 0 0 0 ++ row 1 0 0 0 0 0 ++ row 58 0 4 0 0 0 ++ row 1 0 0 0 0 0) (refused 7 3) ∷  -- a body
    sample (pos 1 ∷ []) (row 42 1 0 0 0 0 ++ row 43 2 3 4 0 0 ++ row 1 0 0 0 0 0 ++ row 40 0 0 0 0 0 ++ row 58 0 5 0 0 0 ++ row 1 0 0 0 0 0) (refused 7 4) ∷  -- a branch
    sample (pos 1 ∷ []) (row 42 1 0 0 0 0 ++ row 46 0 0 0 2 0 ++ row 58 0 3 0 0 0 ++ row 1 0 0 0 0 0) (refused 7 2) ∷  -- of a for
    sample (pos 1 ∷ []) (row 42 1 0 0 0 0 ++ row 45 2 4 0 0 0 ++ row 58 0 3 0 0 0 ++ row 1 0 0 0 0 0 ++ row 1 0 0 0 0 0) (refused 7 2) ∷  -- of a do
    sample (pos 1 ∷ []) (row 42 1 0 0 0 0 ++ row 47 2 3 0 0 0 ++ row 1 0 0 0 0 0 ++ row 58 0 4 0 0 0 ++ row 1 0 0 0 0 0) (refused 7 3) ∷  -- the first item of a switch
    sample (pos 1 ∷ []) (row 42 1 0 0 0 0 ++ row 47 2 3 0 0 0 ++ row 1 0 0 0 0 0 ++ row 49 0 0 0 0 4 ++ row 58 0 5 0 0 0 ++ row 1 0 0 0 0 0) (refused 7 4) ∷  -- a later one
    sample (pos 1 ∷ []) (row 42 1 0 0 0 0 ++ row 47 2 3 0 0 5 ++ row 1 0 0 0 0 0 ++ row 58 0 4 0 0 0 ++ row 1 0 0 0 0 0 ++ row 51 0 0 0 0 0) (refused 7 3) ∷  -- before a continue
    sample (pos 1 ∷ []) (row 42 1 0 0 0 0 ++ row 51 0 0 0 0 2 ++ row 47 3 4 0 0 0 ++ row 1 0 0 0 0 0 ++ row 58 0 5 0 0 0 ++ row 1 0 0 0 0 0) (refused 7 1) ∷  -- behind a continue
    sample (pos 1 ∷ []) (row 42 1 0 0 0 0 ++ row 47 2 3 0 0 0 ++ row 1 0 0 0 0 0 ++ row 49 0 0 0 0 4 ++ row 49 0 0 0 0 5 ++ row 58 0 6 0 0 0 ++ row 1 0 0 0 0 0) (refused 7 5) ∷  -- 7 before 8
    sample (pos 2 ∷ []) (row 42 1 0 0 0 0 ++ row 58 0 2 0 0 3 ++ row 2 0 0 0 0 0 ++ row 44 4 5 0 0 0 ++ row 1 0 0 0 0 0 ++ row 58 1 6 0 0 0 ++ row 1 0 0 0 0 0) (refused 7 5) ∷  -- 7 before 18
    sample (pos 1 ∷ []) (row 42 1 0 0 0 0 ++ row 58 0 2 0 0 3 ++ row 2 0 0 0 0 0 ++ row 47 4 5 0 0 0 ++ row 1 0 0 0 0 0 ++ row 49 0 0 0 0 6 ++ row 49 0 0 0 0 0) (refused 8 6) ∷  -- 8 before 18
    []

-- Cause 18, "An initial expression naming its own number".
abbrev pub initial_names : List Sample
initial_names =
    sample (pos 1 ∷ []) (row 42 1 0 0 0 0 ++ row 58 0 2 0 0 0 ++ row 2 0 0 0 0 0) (refused 18 1) ∷  -- the value
    sample (pos 1 ∷ []) (row 42 1 0 0 0 0 ++ row 58 0 2 0 0 0 ++ row 6 3 4 0 0 0 ++ row 1 0 0 0 0 0 ++ row 4 5 0 0 0 0 ++ row 2 0 0 0 0 0) (refused 18 1) ∷  -- below an operand
    sample (pos 1 ∷ []) (row 42 1 0 0 0 0 ++ row 58 0 2 0 0 0 ++ row 21 3 4 0 0 0 ++ row 2 0 0 0 0 0 ++ row 1 0 0 0 0 0) (refused 18 1) ∷  -- a place
    sample (pos 1 ∷ pos 3 ∷ []) (row 42 1 0 0 0 0 ++ row 58 0 2 0 0 0 ++ row 3 0 3 0 0 0 ++ row 2 0 0 0 0 0) (refused 18 1) ∷  -- an index
    sample (pos 1 ∷ []) (row 42 1 0 0 0 0 ++ row 58 0 2 0 0 0 ++ row 19 3 4 5 0 0 ++ row 1 0 0 0 0 0 ++ row 1 0 0 0 0 0 ++ row 2 0 0 0 0 0) (refused 18 1) ∷  -- in a branch
    sample (pos 1 ∷ []) (row 42 1 0 0 0 0 ++ row 58 0 2 0 0 3 ++ row 1 1 0 0 0 0 ++ row 42 4 0 0 0 0 ++ row 58 0 5 0 0 0 ++ row 2 0 0 0 0 0) (refused 18 4) ∷  -- where the number means an outer declared object
    sample (pos 2 ∷ []) (row 42 1 0 0 0 0 ++ row 40 0 0 0 0 2 ++ row 58 1 3 0 0 4 ++ row 2 1 0 0 0 0 ++ row 58 0 5 0 0 0 ++ row 2 0 0 0 0 0) (refused 18 2) ∷  -- the lower of two rows
    sample (pos 2 ∷ []) (row 42 1 0 0 0 0 ++ row 58 0 2 0 0 3 ++ row 1 0 0 0 0 0 ++ row 58 0 4 0 0 5 ++ row 1 0 0 0 0 0 ++ row 58 1 6 0 0 0 ++ row 2 1 0 0 0 0) (refused 18 5) ∷  -- 18 before 19
    sample (pos 2 ∷ []) (row 42 1 0 0 0 0 ++ row 41 2 0 0 0 3 ++ row 2 0 0 0 0 0 ++ row 58 0 4 0 0 5 ++ row 2 1 0 0 0 0 ++ row 41 6 0 0 0 0 ++ row 2 0 0 0 0 0) (Ok tt) ∷  -- another number; its own before and behind the declaration
    sample (pos 2 ∷ pos 3 ∷ []) (row 42 1 0 0 0 0 ++ row 58 0 2 0 0 0 ++ row 6 3 5 0 0 0 ++ row 3 0 4 0 0 0 ++ row 1 0 0 0 0 0 ++ row 1 0 0 0 0 0) (Ok tt) ∷  -- its own number as an array and as a value
    sample (pos 2 ∷ []) (row 42 1 0 0 0 0 ++ row 58 0 2 0 0 3 ++ row 2 1 0 0 0 0 ++ row 58 1 4 0 0 0 ++ row 2 0 0 0 0 0) (Ok tt) ∷  -- the number of the declaration before
    []

-- Cause 19, "a number declared twice in one block". For cause 20 see `count-answers` (check_declaration_causes/Examples) and program check_trial.
abbrev pub declared_numbers : List Sample
declared_numbers =
    sample (pos 1 ∷ []) (row 42 1 0 0 0 0 ++ row 58 0 2 0 0 3 ++ row 1 0 0 0 0 0 ++ row 58 0 4 0 0 0 ++ row 1 0 0 0 0 0) (refused 19 3) ∷  -- in one list
    sample (pos 2 ∷ []) (row 42 1 0 0 0 0 ++ row 58 0 2 0 0 3 ++ row 1 0 0 0 0 0 ++ row 42 0 0 0 0 4 ++ row 58 1 5 0 0 6 ++ row 1 0 0 0 0 0 ++ row 58 0 7 0 0 0 ++ row 1 0 0 0 0 0) (refused 19 6) ∷  -- a block and another declaration between
    sample (pos 1 ∷ []) (row 42 1 0 0 0 0 ++ row 42 2 0 0 0 0 ++ row 58 0 3 0 0 4 ++ row 1 0 0 0 0 0 ++ row 58 0 5 0 0 0 ++ row 1 0 0 0 0 0) (refused 19 4) ∷  -- in an inner block
    sample (pos 2 ∷ []) (row 42 1 0 0 0 0 ++ row 58 0 2 0 0 3 ++ row 1 0 0 0 0 0 ++ row 58 0 4 0 0 5 ++ row 1 0 0 0 0 0 ++ row 58 0 6 0 0 0 ++ row 1 0 0 0 0 0) (refused 19 3) ∷  -- the lower of two rows
    sample (pos 1 ∷ []) (row 42 1 0 0 0 0 ++ row 42 2 0 0 0 7 ++ row 58 0 3 0 0 4 ++ row 1 0 0 0 0 0 ++ row 42 5 0 0 0 0 ++ row 58 0 6 0 0 0 ++ row 1 0 0 0 0 0 ++ row 42 8 0 0 0 0 ++ row 58 0 9 0 0 0 ++ row 1 0 0 0 0 0) (Ok tt) ∷  -- in a block, in a block of it, in the next
    sample (pos 1 ∷ []) (row 42 1 0 0 0 0 ++ row 42 2 0 0 0 4 ++ row 58 0 3 0 0 0 ++ row 1 0 0 0 0 0 ++ row 58 0 5 0 0 0 ++ row 1 0 0 0 0 0) (Ok tt) ∷  -- behind a block that declares it
    []

abbrev pub declaration_samples : List Sample
declaration_samples = declaration_rows ++ declaration_places ++ initial_names ++ declared_numbers
