-- Kernel function samples: small kernel programs with functions, and what the kernel check must answer of each, and the check of plain kernel programs,
-- which come before a flat list; worked out from document 02.
use Rattle.std.specs.Prelude.{List, [], ◌∷◌, ◌++◌, pos, Ok}
use Rattle.check_answers.specs.Sample.{Sample, sample, row, refused}
use Rattle.check_answers.specs.FunctionSamples.{unused_function_fields}

-- Causes 4, 6 and 19: "in the kernel they name their words, S to S+D−1 (else 6)".
abbrev pub kernel_parameters : List Sample
kernel_parameters =
    sample (pos 1 ∷ pos 1 ∷ pos 0 ∷ []) (row 42 1 0 0 0 0 ++ row 59 0 2 3 0 6 ++ row 58 1 0 0 0 0 ++ row 42 4 0 0 0 0 ++ row 60 5 0 0 0 0 ++ row 2 1 0 0 0 0 ++ row 41 7 0 0 0 0 ++ row 21 8 9 0 0 0 ++ row 2 0 0 0 0 0 ++ row 31 0 10 0 0 0 ++ row 32 11 0 0 0 0 ++ row 1 1 0 0 0 0) (Ok tt) ∷  -- a function with a parameter, and its call
    sample (pos 1 ∷ pos 1 ∷ pos 0 ∷ []) (row 42 1 0 0 0 0 ++ row 59 0 2 3 0 6 ++ row 58 0 0 0 0 0 ++ row 42 4 0 0 0 0 ++ row 60 5 0 0 0 0 ++ row 2 1 0 0 0 0 ++ row 41 7 0 0 0 0 ++ row 21 8 9 0 0 0 ++ row 2 0 0 0 0 0 ++ row 31 0 10 0 0 0 ++ row 32 11 0 0 0 0 ++ row 1 1 0 0 0 0) (refused 6 2) ∷  -- a variable for its word
    sample (pos 1 ∷ pos 1 ∷ pos 0 ∷ []) (row 42 1 0 0 0 0 ++ row 59 0 2 3 0 6 ++ row 58 2 0 0 0 0 ++ row 42 4 0 0 0 0 ++ row 60 5 0 0 0 0 ++ row 2 1 0 0 0 0 ++ row 41 7 0 0 0 0 ++ row 21 8 9 0 0 0 ++ row 2 0 0 0 0 0 ++ row 31 0 10 0 0 0 ++ row 32 11 0 0 0 0 ++ row 1 1 0 0 0 0) (refused 6 2) ∷  -- word S+D
    sample (pos 1 ∷ pos 0 ∷ pos 0 ∷ []) (row 42 1 0 0 0 0 ++ row 59 0 2 3 0 0 ++ row 58 1 0 0 0 0 ++ row 42 0 0 0 0 0) (refused 6 2) ∷  -- of no declared words
    sample (pos 1 ∷ pos 1 ∷ pos 0 ∷ pos 3 ∷ []) (row 42 1 0 0 0 0 ++ row 59 0 2 3 0 0 ++ row 58 4 0 0 0 0 ++ row 42 0 0 0 0 0) (Ok tt) ∷  -- word S, behind an array
    sample (pos 1 ∷ pos 1 ∷ pos 0 ∷ pos 3 ∷ []) (row 42 1 0 0 0 0 ++ row 59 0 2 3 0 0 ++ row 58 1 0 0 0 0 ++ row 42 0 0 0 0 0) (refused 6 2) ∷  -- a word of the array
    sample (pos 1 ∷ pos 1 ∷ pos 1 ∷ []) (row 42 1 0 0 0 0 ++ row 59 0 2 3 0 0 ++ row 58 2 0 0 0 0 ++ row 42 0 0 0 0 0) (refused 6 2) ∷  -- a temporary
    sample (pos 1 ∷ pos 2 ∷ pos 0 ∷ []) (row 42 1 0 0 0 0 ++ row 59 0 2 4 0 0 ++ row 58 1 0 0 0 3 ++ row 58 2 0 0 0 0 ++ row 42 0 0 0 0 0) (Ok tt) ∷  -- two words
    sample (pos 1 ∷ pos 2 ∷ pos 0 ∷ []) (row 42 1 0 0 0 0 ++ row 59 0 2 4 0 0 ++ row 58 1 0 0 0 3 ++ row 58 1 0 0 0 0 ++ row 42 0 0 0 0 0) (refused 19 3) ∷  -- one word for two parameters
    sample (pos 1 ∷ pos 2 ∷ pos 0 ∷ []) (row 42 1 0 0 0 0 ++ row 59 0 2 3 0 4 ++ row 58 1 0 0 0 0 ++ row 42 0 0 0 0 0 ++ row 59 1 5 6 0 0 ++ row 58 1 0 0 0 0 ++ row 42 0 0 0 0 0) (Ok tt) ∷  -- one word in two functions
    sample (pos 1 ∷ pos 1 ∷ pos 0 ∷ []) (row 42 1 0 0 0 0 ++ row 59 0 2 4 0 0 ++ row 58 1 3 0 0 0 ++ row 1 0 0 0 0 0 ++ row 42 0 0 0 0 0) (refused 4 2) ∷  -- a parameter with an initial expression
    []

-- Causes 7, 12 and 13: "Kernel calls assign to a variable and take atoms"; "a kernel return takes an atom, and a goto stays inside its function".
abbrev pub kernel_functions : List Sample
kernel_functions =
    sample (pos 1 ∷ pos 1 ∷ pos 0 ∷ []) (row 42 1 0 0 0 0 ++ row 60 2 0 0 0 0 ++ row 1 0 0 0 0 0) (refused 7 1) ∷  -- a return in the program
    sample (pos 1 ∷ pos 1 ∷ pos 0 ∷ []) (row 42 1 0 0 0 0 ++ row 59 0 0 2 0 0 ++ row 42 3 0 0 0 0 ++ row 60 0 0 0 0 0) (refused 12 3) ∷  -- a return without its atom
    sample (pos 1 ∷ pos 1 ∷ pos 0 ∷ []) (row 42 1 0 0 0 0 ++ row 59 0 0 2 0 0 ++ row 42 3 0 0 0 0 ++ row 60 4 0 0 0 0 ++ row 4 5 0 0 0 0 ++ row 1 0 0 0 0 0) (refused 12 3) ∷  -- a return of minus an atom
    sample (pos 1 ∷ pos 1 ∷ pos 0 ∷ []) (row 42 1 0 0 0 0 ++ row 59 0 0 2 0 0 ++ row 42 3 0 0 0 0 ++ row 60 4 0 0 0 0 ++ row 1 0 0 0 0 0) (Ok tt) ∷  -- a return of a constant
    sample (pos 1 ∷ pos 1 ∷ pos 0 ∷ []) (row 42 1 0 0 0 0 ++ row 59 0 2 3 0 4 ++ row 58 1 0 0 0 0 ++ row 42 0 0 0 0 0 ++ row 41 5 0 0 0 0 ++ row 21 6 7 0 0 0 ++ row 2 0 0 0 0 0 ++ row 31 0 8 0 0 0 ++ row 32 9 0 0 0 0 ++ row 4 10 0 0 0 0 ++ row 1 0 0 0 0 0) (refused 12 4) ∷  -- an argument that is no atom
    sample (pos 1 ∷ pos 2 ∷ pos 0 ∷ []) (row 42 1 0 0 0 0 ++ row 59 0 2 4 0 5 ++ row 58 1 0 0 0 3 ++ row 58 2 0 0 0 0 ++ row 42 0 0 0 0 0 ++ row 41 6 0 0 0 0 ++ row 21 7 8 0 0 0 ++ row 2 0 0 0 0 0 ++ row 31 0 9 0 0 0 ++ row 32 10 0 0 0 11 ++ row 1 0 0 0 0 0 ++ row 32 12 0 0 0 0 ++ row 4 13 0 0 0 0 ++ row 1 0 0 0 0 0) (refused 12 5) ∷  -- the second one
    sample (pos 1 ∷ pos 1 ∷ pos 0 ∷ []) (row 42 1 0 0 0 0 ++ row 59 0 0 2 0 3 ++ row 42 0 0 0 0 0 ++ row 41 4 0 0 0 0 ++ row 31 0 0 0 0 0) (refused 12 3) ∷  -- a call that is not assigned
    sample (pos 1 ∷ pos 1 ∷ pos 0 ∷ pos 3 ∷ []) (row 42 1 0 0 0 0 ++ row 59 0 0 2 0 3 ++ row 42 0 0 0 0 0 ++ row 41 4 0 0 0 0 ++ row 21 5 7 0 0 0 ++ row 3 0 6 0 0 0 ++ row 1 0 0 0 0 0 ++ row 31 0 0 0 0 0) (refused 12 3) ∷  -- a call assigned to an element
    sample (pos 1 ∷ pos 1 ∷ pos 0 ∷ []) (row 42 1 0 0 0 0 ++ row 59 0 0 2 0 3 ++ row 42 0 0 0 0 0 ++ row 43 4 5 6 0 0 ++ row 31 0 0 0 0 0 ++ row 42 0 0 0 0 0 ++ row 42 0 0 0 0 0) (refused 12 3) ∷  -- a call as a test
    sample (pos 1 ∷ pos 1 ∷ pos 0 ∷ []) (row 42 1 0 0 0 0 ++ row 58 1 2 0 0 0 ++ row 1 0 0 0 0 0) (refused 12 1) ∷  -- a declaration in a list
    sample (pos 1 ∷ pos 1 ∷ pos 0 ∷ []) (row 42 1 0 0 0 0 ++ row 59 0 0 2 0 4 ++ row 42 3 0 0 0 0 ++ row 52 5 0 0 0 0 ++ row 53 5 0 0 0 0) (refused 13 3) ∷  -- a goto out of its function
    sample (pos 1 ∷ pos 1 ∷ pos 0 ∷ []) (row 42 1 0 0 0 0 ++ row 59 0 0 2 0 0 ++ row 42 3 0 0 0 0 ++ row 42 4 0 0 0 5 ++ row 52 5 0 0 0 0 ++ row 53 5 0 0 0 0) (Ok tt) ∷  -- a goto inside it
    sample (pos 1 ∷ pos 1 ∷ pos 0 ∷ []) (row 42 1 0 0 0 0 ++ row 52 5 0 0 0 2 ++ row 42 3 0 0 0 0 ++ row 59 0 0 4 0 0 ++ row 42 5 0 0 0 0 ++ row 53 5 0 0 0 0) (refused 13 1) ∷  -- a goto into one, and 13 before 23
    sample (pos 1 ∷ pos 1 ∷ pos 0 ∷ []) (row 42 1 0 0 0 0 ++ row 40 0 0 0 0 2 ++ row 59 0 0 3 0 0 ++ row 42 0 0 0 0 0) (refused 23 2) ∷  -- a definition behind an item
    sample (pos 1 ∷ pos 1 ∷ pos 0 ∷ []) (row 42 1 0 0 0 0 ++ row 59 0 0 2 0 0 ++ row 42 3 0 0 0 0 ++ row 41 4 0 0 0 0 ++ row 21 5 6 0 0 0 ++ row 2 0 0 0 0 0 ++ row 31 0 0 0 0 0) (refused 24 6) ∷  -- a call to its own function
    sample (pos 1 ∷ pos 1 ∷ pos 0 ∷ []) (row 42 1 0 0 0 0 ++ row 59 0 2 3 0 4 ++ row 58 1 0 0 0 0 ++ row 42 0 0 0 0 0 ++ row 41 5 0 0 0 0 ++ row 21 6 7 0 0 0 ++ row 2 0 0 0 0 0 ++ row 31 0 0 0 0 0) (refused 24 7) ∷  -- one argument missing
    []

abbrev pub kernel_function_samples : List Sample
kernel_function_samples = kernel_parameters ++ kernel_functions ++ unused_function_fields (pos 1 ∷ pos 1 ∷ pos 0 ∷ [])

-- Cause 25, "The flat list refuses functions with 25 and the first one's row, just before its 10".
abbrev pub plain_samples : List Sample
plain_samples =
    sample (pos 1 ∷ pos 1 ∷ pos 0 ∷ []) (row 42 1 0 0 0 0 ++ row 59 0 2 3 0 6 ++ row 58 1 0 0 0 0 ++ row 42 4 0 0 0 0 ++ row 60 5 0 0 0 0 ++ row 2 1 0 0 0 0 ++ row 41 7 0 0 0 0 ++ row 21 8 9 0 0 0 ++ row 2 0 0 0 0 0 ++ row 31 0 10 0 0 0 ++ row 32 11 0 0 0 0 ++ row 1 1 0 0 0 0) (refused 25 1) ∷  -- a function
    sample (pos 1 ∷ pos 1 ∷ pos 0 ∷ []) (row 42 1 0 0 0 0 ++ row 59 0 0 4 0 2 ++ row 59 1 0 3 0 0 ++ row 42 0 0 0 0 0 ++ row 42 0 0 0 0 0) (refused 25 1) ∷  -- two functions: the first row
    sample (pos 1 ∷ pos 1 ∷ pos 0 ∷ []) (row 42 1 0 0 0 0 ++ row 59 0 0 2 0 0 ++ row 42 3 0 0 0 0 ++ row 41 4 0 0 0 0 ++ row 21 5 6 0 0 0 ++ row 2 0 0 0 0 0 ++ row 31 0 0 0 0 0) (refused 24 6) ∷  -- 24 before 25
    sample (pos 1 ∷ pos 1 ∷ pos 0 ∷ []) (row 42 1 0 0 0 0 ++ row 40 0 0 0 0 0) (Ok tt) ∷  -- no function
    []
