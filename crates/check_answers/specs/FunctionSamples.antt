-- Function samples: small source programs with functions, and what the check must answer of each, worked out from document 02.
use Rattle.std.specs.Prelude.{List, [], ◌∷◌, ◌++◌, ℤ, pos, Ok}
use Rattle.check_answers.specs.Sample.{Sample, sample, row, unused_from, refused}

-- Causes 4 to 6 of the kinds of functions, and programs that have none of them. Kind 58 by its role.
abbrev pub function_rows : List Sample
function_rows =
    sample (pos 1 ∷ []) (row 42 1 0 0 0 0 ++ row 59 0 2 3 0 6 ++ row 58 0 0 0 0 0 ++ row 42 4 0 0 0 0 ++ row 60 5 0 0 0 0 ++ row 2 0 0 0 0 0 ++ row 41 7 0 0 0 0 ++ row 21 8 9 0 0 0 ++ row 2 0 0 0 0 0 ++ row 31 0 10 0 0 0 ++ row 32 11 0 0 0 0 ++ row 1 1 0 0 0 0) (Ok tt) ∷  -- a function with a parameter, and its call
    sample (pos 1 ∷ []) (row 42 1 0 0 0 0 ++ row 59 0 0 2 0 0 ++ row 42 0 0 0 0 0) (Ok tt) ∷  -- a definition only
    sample (pos 1 ∷ []) (row 42 1 0 0 0 0 ++ row 59 0 2 3 0 0 ++ row 40 0 0 0 0 0 ++ row 42 0 0 0 0 0) (refused 4 1) ∷  -- a statement for the first parameter
    sample (pos 1 ∷ []) (row 42 1 0 0 0 0 ++ row 59 0 2 3 0 0 ++ row 1 0 0 0 0 0 ++ row 42 0 0 0 0 0) (refused 4 1) ∷  -- an expression for it
    sample (pos 1 ∷ []) (row 42 1 0 0 0 0 ++ row 59 0 2 4 0 0 ++ row 58 0 3 0 0 0 ++ row 1 0 0 0 0 0 ++ row 42 0 0 0 0 0) (refused 4 2) ∷  -- a parameter with an initial expression: its own row
    sample (pos 1 ∷ []) (row 42 1 0 0 0 0 ++ row 59 0 2 3 0 0 ++ row 58 0 0 0 0 4 ++ row 42 0 0 0 0 0 ++ row 40 0 0 0 0 0) (refused 4 2) ∷  -- a statement behind a parameter
    sample (pos 2 ∷ []) (row 42 1 0 0 0 0 ++ row 59 0 2 4 0 0 ++ row 58 0 0 0 0 3 ++ row 58 1 0 0 0 0 ++ row 42 0 0 0 0 0) (Ok tt) ∷  -- two parameters
    sample (pos 2 ∷ []) (row 42 1 0 0 0 0 ++ row 59 0 2 4 0 0 ++ row 58 0 0 0 0 3 ++ row 58 1 5 0 0 0 ++ row 42 0 0 0 0 0 ++ row 1 0 0 0 0 0) (refused 4 3) ∷  -- the second with an initial expression
    sample (pos 1 ∷ []) (row 42 1 0 0 0 0 ++ row 59 0 0 2 0 0 ++ row 40 0 0 0 0 0) (refused 4 1) ∷  -- a body that is no block
    sample (pos 1 ∷ []) (row 42 1 0 0 0 0 ++ row 59 0 0 0 0 0) (refused 4 1) ∷  -- no body
    sample (pos 1 ∷ []) (row 42 1 0 0 0 0 ++ row 59 0 0 2 0 0 ++ row 42 0 0 0 0 3 ++ row 40 0 0 0 0 0) (refused 4 1) ∷  -- a body with next
    sample (pos 1 ∷ []) (row 42 1 0 0 0 0 ++ row 59 0 0 2 0 3 ++ row 42 0 0 0 0 0 ++ row 41 4 0 0 0 0 ++ row 31 0 5 0 0 0 ++ row 1 0 0 0 0 0) (refused 4 4) ∷  -- an expression for the first argument
    sample (pos 1 ∷ []) (row 42 1 0 0 0 0 ++ row 41 2 0 0 0 0 ++ row 32 3 0 0 0 0 ++ row 1 0 0 0 0 0) (refused 4 1) ∷  -- an argument for an expression
    sample (pos 1 ∷ []) (row 42 1 0 0 0 0 ++ row 32 2 0 0 0 0 ++ row 1 0 0 0 0 0) (refused 4 0) ∷  -- an argument for an item
    sample (pos 1 ∷ []) (row 42 1 0 0 0 0 ++ row 59 0 2 3 0 4 ++ row 58 0 0 0 0 0 ++ row 42 0 0 0 0 0 ++ row 41 5 0 0 0 0 ++ row 31 0 6 0 0 0 ++ row 32 7 0 0 0 8 ++ row 1 1 0 0 0 0 ++ row 1 2 0 0 0 0) (refused 4 6) ∷  -- an expression behind an argument
    sample (pos 1 ∷ []) (row 42 1 0 0 0 0 ++ row 59 0 2 3 0 4 ++ row 58 0 0 0 0 0 ++ row 42 0 0 0 0 0 ++ row 41 5 0 0 0 0 ++ row 31 0 6 0 0 0 ++ row 32 0 0 0 0 0) (refused 4 6) ∷  -- an argument without its expression
    sample (pos 1 ∷ []) (row 42 1 0 0 0 0 ++ row 59 0 0 2 0 0 ++ row 42 3 0 0 0 0 ++ row 60 4 0 0 0 0 ++ row 40 0 0 0 0 0) (refused 4 3) ∷  -- a return of a statement
    sample (pos 1 ∷ []) (row 42 1 0 0 0 0 ++ row 59 0 0 3 0 0 ++ row 58 0 0 0 0 0 ++ row 42 0 0 0 0 0) (refused 4 2) ∷  -- no row links it, so that it is a declaration
    sample (pos 1 ∷ []) (row 42 1 0 0 0 0 ++ row 59 0 2 3 0 0 ++ row 58 1 0 0 0 0 ++ row 42 0 0 0 0 0) (refused 6 2) ∷  -- a parameter with number V
    []

-- Cause 7, "A return outside a function gets 7".
abbrev pub return_places : List Sample
return_places =
    sample (pos 1 ∷ []) (row 42 1 0 0 0 0 ++ row 60 0 0 0 0 0) (refused 7 1) ∷  -- in the program
    sample (pos 1 ∷ []) (row 42 1 0 0 0 0 ++ row 44 2 3 0 0 0 ++ row 1 1 0 0 0 0 ++ row 42 4 0 0 0 0 ++ row 60 0 0 0 0 0) (refused 7 4) ∷  -- in a loop of it
    sample (pos 1 ∷ []) (row 42 1 0 0 0 0 ++ row 59 0 0 2 0 3 ++ row 42 0 0 0 0 0 ++ row 60 0 0 0 0 0) (refused 7 3) ∷  -- behind a definition
    sample (pos 1 ∷ []) (row 42 1 0 0 0 0 ++ row 59 0 0 2 0 0 ++ row 42 3 0 0 0 0 ++ row 60 0 0 0 0 0) (Ok tt) ∷  -- in a function, without its expression
    sample (pos 1 ∷ []) (row 42 1 0 0 0 0 ++ row 59 0 0 2 0 0 ++ row 42 3 0 0 0 0 ++ row 44 4 5 0 0 0 ++ row 1 1 0 0 0 0 ++ row 47 6 7 0 0 0 ++ row 1 0 0 0 0 0 ++ row 49 0 0 0 0 8 ++ row 60 9 0 0 0 0 ++ row 1 0 0 0 0 0) (Ok tt) ∷  -- in a switch of a loop in a function
    sample (pos 1 ∷ []) (row 42 1 0 0 0 0 ++ row 59 0 0 2 0 4 ++ row 42 3 0 0 0 0 ++ row 50 0 0 0 0 0 ++ row 60 0 0 0 0 0) (refused 7 3) ∷  -- 7 at the lowest row: a break
    []

-- Cause 19: "Parameters count .. for .. 19 as c's first items".
abbrev pub parameter_numbers : List Sample
parameter_numbers =
    sample (pos 1 ∷ []) (row 42 1 0 0 0 0 ++ row 59 0 2 4 0 0 ++ row 58 0 0 0 0 3 ++ row 58 0 0 0 0 0 ++ row 42 0 0 0 0 0) (refused 19 3) ∷  -- two parameters with one number
    sample (pos 1 ∷ []) (row 42 1 0 0 0 0 ++ row 59 0 2 3 0 0 ++ row 58 0 0 0 0 0 ++ row 42 4 0 0 0 0 ++ row 58 0 5 0 0 0 ++ row 1 0 0 0 0 0) (refused 19 4) ∷  -- a parameter, and a declaration of the block
    sample (pos 1 ∷ []) (row 42 1 0 0 0 0 ++ row 59 0 5 2 0 0 ++ row 42 3 0 0 0 0 ++ row 58 0 4 0 0 0 ++ row 1 0 0 0 0 0 ++ row 58 0 0 0 0 0) (refused 19 3) ∷  -- the declaration is the later of the two, also in the lower row
    sample (pos 1 ∷ []) (row 42 1 0 0 0 0 ++ row 59 0 2 3 0 0 ++ row 58 0 0 0 0 0 ++ row 42 4 0 0 0 0 ++ row 42 5 0 0 0 0 ++ row 58 0 6 0 0 0 ++ row 1 0 0 0 0 0) (Ok tt) ∷  -- a declaration in a block of the block
    sample (pos 1 ∷ []) (row 42 1 0 0 0 0 ++ row 59 0 2 3 0 4 ++ row 58 0 0 0 0 0 ++ row 42 0 0 0 0 0 ++ row 59 1 5 6 0 0 ++ row 58 0 0 0 0 0 ++ row 42 0 0 0 0 0) (Ok tt) ∷  -- parameters of two functions
    sample (pos 1 ∷ []) (row 42 1 0 0 0 0 ++ row 59 0 2 3 0 4 ++ row 58 0 0 0 0 0 ++ row 42 0 0 0 0 0 ++ row 58 0 5 0 0 0 ++ row 1 0 0 0 0 0) (Ok tt) ∷  -- a parameter, and a declaration of the program
    []

-- Cause 23, "A definition out of order or not at the front".
abbrev pub definition_order : List Sample
definition_order =
    sample (pos 1 ∷ []) (row 42 1 0 0 0 0 ++ row 59 1 0 2 0 0 ++ row 42 0 0 0 0 0) (refused 23 1) ∷  -- the first has number 1
    sample (pos 1 ∷ []) (row 42 1 0 0 0 0 ++ row 59 0 0 2 0 3 ++ row 42 0 0 0 0 0 ++ row 59 0 0 4 0 0 ++ row 42 0 0 0 0 0) (refused 23 3) ∷  -- two with number 0
    sample (pos 1 ∷ []) (row 42 1 0 0 0 0 ++ row 59 0 0 2 0 3 ++ row 42 0 0 0 0 0 ++ row 59 1 0 4 0 0 ++ row 42 0 0 0 0 0) (Ok tt) ∷  -- 0 and 1
    sample (pos 1 ∷ []) (row 42 1 0 0 0 0 ++ row 59 1 0 2 0 3 ++ row 42 0 0 0 0 0 ++ row 59 0 0 4 0 0 ++ row 42 0 0 0 0 0) (refused 23 1) ∷  -- 1 and 0: the lowest row
    sample (pos 1 ∷ []) (row 42 1 0 0 0 0 ++ row 40 0 0 0 0 2 ++ row 59 0 0 3 0 0 ++ row 42 0 0 0 0 0) (refused 23 2) ∷  -- behind an item
    sample (pos 1 ∷ []) (row 42 1 0 0 0 0 ++ row 42 2 0 0 0 0 ++ row 59 0 0 3 0 0 ++ row 42 0 0 0 0 0) (refused 23 2) ∷  -- in a block of the program
    sample (pos 1 ∷ []) (row 42 1 0 0 0 0 ++ row 44 2 3 0 0 0 ++ row 1 0 0 0 0 0 ++ row 59 0 0 4 0 0 ++ row 42 0 0 0 0 0) (refused 23 3) ∷  -- as a body
    sample (pos 1 ∷ []) (row 42 1 0 0 0 0 ++ row 59 0 0 2 0 0 ++ row 42 3 0 0 0 0 ++ row 59 1 0 4 0 0 ++ row 42 0 0 0 0 0) (refused 23 3) ∷  -- in a function
    sample (pos 1 ∷ []) (row 42 1 0 0 0 0 ++ row 59 0 0 2 0 3 ++ row 42 0 0 0 0 0 ++ row 58 0 4 0 0 5 ++ row 1 0 0 0 0 0 ++ row 58 0 6 0 0 7 ++ row 1 0 0 0 0 0 ++ row 59 1 0 8 0 0 ++ row 42 0 0 0 0 0) (refused 19 5) ∷  -- 19 before 23
    sample (pos 1 ∷ []) (row 42 1 0 0 0 0 ++ row 41 2 0 0 0 3 ++ row 31 0 0 0 0 0 ++ row 59 0 0 4 0 0 ++ row 42 0 0 0 0 0) (refused 23 3) ∷  -- 23 before 24
    []

-- Cause 24, "a call to no function, to its own or a higher one, or with the wrong number of arguments".
abbrev pub wrong_calls : List Sample
wrong_calls =
    sample (pos 1 ∷ []) (row 42 1 0 0 0 0 ++ row 41 2 0 0 0 0 ++ row 31 0 0 0 0 0) (refused 24 2) ∷  -- no function
    sample (pos 1 ∷ []) (row 42 1 0 0 0 0 ++ row 59 0 0 2 0 3 ++ row 42 0 0 0 0 0 ++ row 41 4 0 0 0 0 ++ row 31 1 0 0 0 0) (refused 24 4) ∷  -- the number behind the last
    sample (pos 1 ∷ []) (row 42 1 0 0 0 0 ++ row 59 0 0 2 0 3 ++ row 42 0 0 0 0 0 ++ row 41 4 0 0 0 0 ++ row 31 0 0 0 0 0) (Ok tt) ∷  -- the last
    sample (pos 1 ∷ []) (row 42 1 0 0 0 0 ++ row 59 0 0 2 0 0 ++ row 42 3 0 0 0 0 ++ row 41 4 0 0 0 0 ++ row 31 0 0 0 0 0) (refused 24 4) ∷  -- its own
    sample (pos 1 ∷ []) (row 42 1 0 0 0 0 ++ row 59 0 0 2 0 5 ++ row 42 3 0 0 0 0 ++ row 41 4 0 0 0 0 ++ row 31 1 0 0 0 0 ++ row 59 1 0 6 0 0 ++ row 42 0 0 0 0 0) (refused 24 4) ∷  -- a higher one
    sample (pos 1 ∷ []) (row 42 1 0 0 0 0 ++ row 59 0 0 2 0 3 ++ row 42 0 0 0 0 0 ++ row 59 1 0 4 0 0 ++ row 42 5 0 0 0 0 ++ row 41 6 0 0 0 0 ++ row 31 0 0 0 0 0) (Ok tt) ∷  -- a lower one
    sample (pos 1 ∷ []) (row 42 1 0 0 0 0 ++ row 59 0 2 3 0 4 ++ row 58 0 0 0 0 0 ++ row 42 0 0 0 0 0 ++ row 41 5 0 0 0 0 ++ row 31 0 0 0 0 0) (refused 24 5) ∷  -- one argument missing
    sample (pos 1 ∷ []) (row 42 1 0 0 0 0 ++ row 59 0 0 2 0 3 ++ row 42 0 0 0 0 0 ++ row 41 4 0 0 0 0 ++ row 31 0 5 0 0 0 ++ row 32 6 0 0 0 0 ++ row 1 0 0 0 0 0) (refused 24 4) ∷  -- one too many
    sample (pos 1 ∷ []) (row 42 1 0 0 0 0 ++ row 59 0 2 3 0 4 ++ row 58 0 0 0 0 0 ++ row 42 0 0 0 0 0 ++ row 41 5 0 0 0 0 ++ row 31 0 6 0 0 0 ++ row 32 7 0 0 0 8 ++ row 1 0 0 0 0 0 ++ row 32 9 0 0 0 0 ++ row 1 0 0 0 0 0) (refused 24 5) ∷  -- two for one
    sample (pos 1 ∷ []) (row 42 1 0 0 0 0 ++ row 59 0 2 3 0 4 ++ row 58 0 0 0 0 0 ++ row 42 0 0 0 0 0 ++ row 41 5 0 0 0 0 ++ row 31 0 6 0 0 0 ++ row 32 7 0 0 0 0 ++ row 31 0 8 0 0 0 ++ row 32 9 0 0 0 0 ++ row 1 0 0 0 0 0) (Ok tt) ∷  -- a call as an argument
    sample (pos 1 ∷ []) (row 42 1 0 0 0 0 ++ row 59 0 2 3 0 4 ++ row 58 0 0 0 0 0 ++ row 42 0 0 0 0 0 ++ row 41 5 0 0 0 0 ++ row 31 0 6 0 0 0 ++ row 32 7 0 0 0 0 ++ row 31 0 0 0 0 0) (refused 24 7) ∷  -- as an argument, without its own
    []

-- Cause 3 for each field that the table of kinds does not name.
abbrev pub unused_function_fields : List ℤ → List Sample
unused_function_fields header = unused_from header 3 3 (31 ∷ []) ++ unused_from header 2 3 (32 ∷ 60 ∷ []) ++ unused_from header 4 1 (59 ∷ [])

abbrev pub function_samples : List Sample
function_samples = function_rows ++ return_places ++ parameter_numbers ++ definition_order ++ wrong_calls ++ unused_function_fields (pos 1 ∷ [])
