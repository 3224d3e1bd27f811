-- Kernel samples: small kernel programs, and what the kernel check must answer of each, worked out from documents 01 and 02.
use Rattle.std.specs.Prelude.{List, [], ◌∷◌, ◌++◌, pos, negsuc, replicate, Ok}
use Rattle.check_answers.specs.Sample.{Sample, sample, row, unused_from, refused}

-- Causes 1, 3 and 6: the header with D and T, the kinds, temporaries and labels.
abbrev pub kernel_headers : List Sample
kernel_headers =
    sample (pos 256 ∷ pos 0 ∷ pos 8192 ∷ []) (row 42 0 0 0 0 0) (Ok tt) ∷  -- 256 variables, 8,192 temporaries
    sample (pos 257 ∷ pos 0 ∷ pos 0 ∷ []) (row 42 0 0 0 0 0) (refused 1 0) ∷  -- 257 variables
    sample (pos 0 ∷ pos 0 ∷ pos 8193 ∷ []) (row 42 0 0 0 0 0) (refused 1 0) ∷  -- 8,193 temporaries
    sample (pos 0 ∷ pos 0 ∷ []) (row 42 0 0 0 0 0) (refused 1 0) ∷  -- no T
    sample (pos 0 ∷ pos 64 ∷ pos 0 ∷ []) (row 42 0 0 0 0 0) (Ok tt) ∷  -- 64 declared words
    sample (pos 0 ∷ pos 65 ∷ pos 0 ∷ []) (row 42 0 0 0 0 0) (refused 1 0) ∷  -- 65
    sample (pos 0 ∷ negsuc 0 ∷ pos 0 ∷ []) (row 42 0 0 0 0 0) (refused 1 0) ∷  -- D = −1
    sample (pos 0 ∷ pos 0 ∷ negsuc 0 ∷ []) (row 42 0 0 0 0 0) (refused 1 0) ∷  -- T = −1
    sample (pos 0 ∷ pos 0 ∷ pos 0 ∷ replicate 32 (pos 1)) (row 42 0 0 0 0 0) (Ok tt) ∷  -- 32 arrays
    sample (pos 0 ∷ pos 0 ∷ pos 0 ∷ replicate 33 (pos 1)) (row 42 0 0 0 0 0) (refused 1 0) ∷  -- 33
    sample (pos 0 ∷ pos 0 ∷ pos 0 ∷ []) (row 42 1 0 0 0 0 ++ row 5 0 0 0 0 0) (refused 3 1) ∷  -- kind 5
    sample (pos 0 ∷ pos 0 ∷ pos 0 ∷ []) (row 42 1 0 0 0 0 ++ row 17 0 0 0 0 0) (refused 3 1) ∷  -- kind 17
    sample (pos 0 ∷ pos 0 ∷ pos 0 ∷ []) (row 42 1 0 0 0 0 ++ row 18 0 0 0 0 0) (refused 3 1) ∷  -- kind 18
    sample (pos 0 ∷ pos 0 ∷ pos 0 ∷ []) (row 42 1 0 0 0 0 ++ row 19 0 0 0 0 0) (refused 3 1) ∷  -- kind 19
    sample (pos 0 ∷ pos 0 ∷ pos 0 ∷ []) (row 42 1 0 0 0 0 ++ row 20 0 0 0 0 0) (refused 3 1) ∷  -- kind 20
    sample (pos 0 ∷ pos 0 ∷ pos 0 ∷ []) (row 42 1 0 0 0 0 ++ row 22 0 0 0 0 0) (refused 3 1) ∷  -- kind 22
    sample (pos 0 ∷ pos 0 ∷ pos 0 ∷ []) (row 42 1 0 0 0 0 ++ row 30 0 0 0 0 0) (refused 3 1) ∷  -- kind 30
    sample (pos 0 ∷ pos 0 ∷ pos 0 ∷ []) (row 42 1 0 0 0 0 ++ row 45 0 0 0 0 0) (refused 3 1) ∷  -- kind 45
    sample (pos 0 ∷ pos 0 ∷ pos 0 ∷ []) (row 42 1 0 0 0 0 ++ row 46 0 0 0 0 0) (refused 3 1) ∷  -- kind 46
    sample (pos 0 ∷ pos 0 ∷ pos 0 ∷ []) (row 42 1 0 0 0 0 ++ row 47 0 0 0 0 0) (refused 3 1) ∷  -- kind 47
    sample (pos 0 ∷ pos 0 ∷ pos 0 ∷ []) (row 42 1 0 0 0 0 ++ row 48 0 0 0 0 0) (refused 3 1) ∷  -- kind 48
    sample (pos 0 ∷ pos 0 ∷ pos 0 ∷ []) (row 42 1 0 0 0 0 ++ row 49 0 0 0 0 0) (refused 3 1) ∷  -- kind 49
    sample (pos 0 ∷ pos 0 ∷ pos 0 ∷ []) (row 42 1 0 0 0 0 ++ row 50 0 0 0 0 0) (refused 3 1) ∷  -- kind 50
    sample (pos 0 ∷ pos 0 ∷ pos 0 ∷ []) (row 42 1 0 0 0 0 ++ row 51 0 0 0 0 0) (refused 3 1) ∷  -- kind 51
    sample (pos 0 ∷ pos 0 ∷ pos 0 ∷ []) (row 42 1 0 0 0 0 ++ row 54 0 0 0 0 0) (refused 3 1) ∷  -- kind 54
    sample (pos 0 ∷ pos 0 ∷ pos 0 ∷ []) (row 42 1 0 0 0 0 ++ row 55 0 0 0 0 0) (refused 3 1) ∷  -- kind 55
    sample (pos 0 ∷ pos 0 ∷ pos 0 ∷ []) (row 42 1 0 0 0 0 ++ row 56 0 0 0 0 0) (refused 3 1) ∷  -- kind 56
    sample (pos 0 ∷ pos 0 ∷ pos 0 ∷ []) (row 42 1 0 0 0 0 ++ row 61 0 0 0 0 0) (refused 3 1) ∷  -- kind 61
    sample (pos 0 ∷ pos 0 ∷ pos 0 ∷ []) (row 42 1 0 0 0 0 ++ row 40 0 0 0 0 0) (Ok tt) ∷  -- 40 empty
    sample (pos 0 ∷ pos 0 ∷ pos 0 ∷ []) (row 42 1 0 0 0 0 ++ row 42 0 0 0 0 0) (Ok tt) ∷  -- 42 block
    sample (pos 0 ∷ pos 0 ∷ pos 0 ∷ []) (row 42 1 0 0 0 0 ++ row 53 0 0 0 0 0) (Ok tt) ∷  -- 53 label
    sample (pos 0 ∷ pos 0 ∷ pos 0 ∷ []) (row 42 1 0 0 0 0 ++ row 57 0 0 0 0 0) (Ok tt) ∷  -- 57 abort
    sample (pos 1 ∷ pos 0 ∷ pos 1 ∷ pos 3 ∷ []) (row 42 1 0 0 0 0 ++ row 41 2 0 0 0 0 ++ row 21 3 4 0 0 0 ++ row 2 0 0 0 0 0 ++ row 1 7 0 0 0 0) (Ok tt) ∷  -- the variable
    sample (pos 1 ∷ pos 0 ∷ pos 1 ∷ pos 3 ∷ []) (row 42 1 0 0 0 0 ++ row 41 2 0 0 0 0 ++ row 21 3 4 0 0 0 ++ row 2 1 0 0 0 0 ++ row 1 7 0 0 0 0) (refused 6 3) ∷  -- number V
    sample (pos 1 ∷ pos 0 ∷ pos 1 ∷ pos 3 ∷ []) (row 42 1 0 0 0 0 ++ row 41 2 0 0 0 0 ++ row 21 3 4 0 0 0 ++ row 2 3 0 0 0 0 ++ row 1 7 0 0 0 0) (refused 6 3) ∷  -- number S−1
    sample (pos 1 ∷ pos 0 ∷ pos 1 ∷ pos 3 ∷ []) (row 42 1 0 0 0 0 ++ row 41 2 0 0 0 0 ++ row 21 3 4 0 0 0 ++ row 2 4 0 0 0 0 ++ row 1 7 0 0 0 0) (Ok tt) ∷  -- the temporary
    sample (pos 1 ∷ pos 0 ∷ pos 1 ∷ pos 3 ∷ []) (row 42 1 0 0 0 0 ++ row 41 2 0 0 0 0 ++ row 21 3 4 0 0 0 ++ row 2 5 0 0 0 0 ++ row 1 7 0 0 0 0) (refused 6 3) ∷  -- number S+T
    sample (pos 1 ∷ pos 1 ∷ pos 1 ∷ pos 3 ∷ []) (row 42 1 0 0 0 0 ++ row 41 2 0 0 0 0 ++ row 21 3 4 0 0 0 ++ row 2 5 0 0 0 0 ++ row 1 7 0 0 0 0) (Ok tt) ∷  -- the temporary behind a declared word
    sample (pos 1 ∷ pos 1 ∷ pos 1 ∷ pos 3 ∷ []) (row 42 1 0 0 0 0 ++ row 41 2 0 0 0 0 ++ row 21 3 4 0 0 0 ++ row 2 6 0 0 0 0 ++ row 1 7 0 0 0 0) (refused 6 3) ∷  -- number S+D+T
    sample (pos 0 ∷ pos 0 ∷ pos 0 ∷ []) (row 42 1 0 0 0 0 ++ row 53 40979 0 0 0 0) (Ok tt) ∷  -- the last label number
    sample (pos 0 ∷ pos 0 ∷ pos 0 ∷ []) (row 42 1 0 0 0 0 ++ row 53 40980 0 0 0 0) (refused 6 1) ∷  -- one more
    []

-- Cause 12, "statement not of kernel form": the expression statement.
abbrev pub assignments : List Sample
assignments =
    sample (pos 1 ∷ pos 0 ∷ pos 0 ∷ pos 3 ∷ []) (row 42 1 0 0 0 0 ++ row 41 2 0 0 0 0 ++ row 21 3 4 0 0 0 ++ row 2 0 0 0 0 0 ++ row 1 7 0 0 0 0) (Ok tt) ∷  -- a variable and a constant
    sample (pos 1 ∷ pos 0 ∷ pos 0 ∷ pos 3 ∷ []) (row 42 1 0 0 0 0 ++ row 41 2 0 0 0 0 ++ row 21 3 4 0 0 0 ++ row 2 0 0 0 0 0 ++ row 2 0 0 0 0 0) (Ok tt) ∷  -- and a variable
    sample (pos 1 ∷ pos 0 ∷ pos 0 ∷ pos 3 ∷ []) (row 42 1 0 0 0 0 ++ row 41 2 0 0 0 0 ++ row 21 3 4 0 0 0 ++ row 2 0 0 0 0 0 ++ row 4 5 0 0 0 0 ++ row 1 0 0 0 0 0) (Ok tt) ∷  -- and minus an atom
    sample (pos 1 ∷ pos 0 ∷ pos 0 ∷ pos 3 ∷ []) (row 42 1 0 0 0 0 ++ row 41 2 0 0 0 0 ++ row 21 3 4 0 0 0 ++ row 2 0 0 0 0 0 ++ row 4 5 0 0 0 0 ++ row 4 6 0 0 0 0 ++ row 1 0 0 0 0 0) (refused 12 1) ∷  -- minus of a minus
    sample (pos 1 ∷ pos 0 ∷ pos 0 ∷ pos 3 ∷ []) (row 42 1 0 0 0 0 ++ row 41 2 0 0 0 0 ++ row 21 3 4 0 0 0 ++ row 2 0 0 0 0 0 ++ row 6 5 6 0 0 0 ++ row 1 1 0 0 0 0 ++ row 1 1 0 0 0 0) (Ok tt) ∷  -- and kind 6
    sample (pos 1 ∷ pos 0 ∷ pos 0 ∷ pos 3 ∷ []) (row 42 1 0 0 0 0 ++ row 41 2 0 0 0 0 ++ row 21 3 4 0 0 0 ++ row 2 0 0 0 0 0 ++ row 16 5 6 0 0 0 ++ row 1 1 0 0 0 0 ++ row 1 1 0 0 0 0) (Ok tt) ∷  -- and kind 16
    sample (pos 1 ∷ pos 0 ∷ pos 0 ∷ pos 3 ∷ []) (row 42 1 0 0 0 0 ++ row 41 2 0 0 0 0 ++ row 21 3 4 0 0 0 ++ row 2 0 0 0 0 0 ++ row 6 5 7 0 0 0 ++ row 4 6 0 0 0 0 ++ row 1 0 0 0 0 0 ++ row 1 0 0 0 0 0) (refused 12 1) ∷  -- its left no atom
    sample (pos 1 ∷ pos 0 ∷ pos 0 ∷ pos 3 ∷ []) (row 42 1 0 0 0 0 ++ row 41 2 0 0 0 0 ++ row 21 3 4 0 0 0 ++ row 2 0 0 0 0 0 ++ row 6 5 6 0 0 0 ++ row 1 0 0 0 0 0 ++ row 4 7 0 0 0 0 ++ row 1 0 0 0 0 0) (refused 12 1) ∷  -- its right no atom
    sample (pos 1 ∷ pos 0 ∷ pos 0 ∷ pos 3 ∷ []) (row 42 1 0 0 0 0 ++ row 41 2 0 0 0 0 ++ row 21 3 4 0 0 0 ++ row 2 0 0 0 0 0 ++ row 3 0 5 0 0 0 ++ row 1 0 0 0 0 0) (Ok tt) ∷  -- and an element
    sample (pos 1 ∷ pos 0 ∷ pos 0 ∷ pos 3 ∷ []) (row 42 1 0 0 0 0 ++ row 41 2 0 0 0 0 ++ row 21 3 4 0 0 0 ++ row 2 0 0 0 0 0 ++ row 3 0 5 0 0 0 ++ row 4 6 0 0 0 0 ++ row 1 0 0 0 0 0) (refused 12 1) ∷  -- its index no atom
    sample (pos 1 ∷ pos 0 ∷ pos 0 ∷ pos 3 ∷ []) (row 42 1 0 0 0 0 ++ row 41 2 0 0 0 0 ++ row 21 3 4 0 0 0 ++ row 2 0 0 0 0 0 ++ row 21 5 6 0 0 0 ++ row 2 0 0 0 0 0 ++ row 1 0 0 0 0 0) (refused 12 1) ∷  -- and an assignment
    sample (pos 1 ∷ pos 0 ∷ pos 0 ∷ pos 3 ∷ []) (row 42 1 0 0 0 0 ++ row 41 2 0 0 0 0 ++ row 21 3 5 0 0 0 ++ row 3 0 4 0 0 0 ++ row 1 0 0 0 0 0 ++ row 1 0 0 0 0 0) (Ok tt) ∷  -- an element and a constant
    sample (pos 1 ∷ pos 0 ∷ pos 0 ∷ pos 3 ∷ []) (row 42 1 0 0 0 0 ++ row 41 2 0 0 0 0 ++ row 21 3 5 0 0 0 ++ row 3 0 4 0 0 0 ++ row 1 0 0 0 0 0 ++ row 2 0 0 0 0 0) (Ok tt) ∷  -- and a variable
    sample (pos 1 ∷ pos 0 ∷ pos 0 ∷ pos 3 ∷ []) (row 42 1 0 0 0 0 ++ row 41 2 0 0 0 0 ++ row 21 3 5 0 0 0 ++ row 3 0 4 0 0 0 ++ row 1 0 0 0 0 0 ++ row 4 6 0 0 0 0 ++ row 1 0 0 0 0 0) (refused 12 1) ∷  -- and minus an atom
    sample (pos 1 ∷ pos 0 ∷ pos 0 ∷ pos 3 ∷ []) (row 42 1 0 0 0 0 ++ row 41 2 0 0 0 0 ++ row 21 3 5 0 0 0 ++ row 3 0 4 0 0 0 ++ row 1 0 0 0 0 0 ++ row 3 0 6 0 0 0 ++ row 1 0 0 0 0 0) (refused 12 1) ∷  -- and an element
    sample (pos 1 ∷ pos 0 ∷ pos 0 ∷ pos 3 ∷ []) (row 42 1 0 0 0 0 ++ row 41 2 0 0 0 0 ++ row 21 3 6 0 0 0 ++ row 3 0 4 0 0 0 ++ row 4 5 0 0 0 0 ++ row 1 0 0 0 0 0 ++ row 1 0 0 0 0 0) (refused 12 1) ∷  -- an element, its index no atom
    sample (pos 1 ∷ pos 0 ∷ pos 0 ∷ pos 3 ∷ []) (row 42 1 0 0 0 0 ++ row 41 2 0 0 0 0 ++ row 1 0 0 0 0 0) (refused 12 1) ∷  -- no assignment
    []

-- Cause 12: if and while.
abbrev pub statements : List Sample
statements =
    sample (pos 1 ∷ pos 0 ∷ pos 0 ∷ pos 3 ∷ []) (row 42 1 0 0 0 0 ++ row 43 2 3 4 0 0 ++ row 1 0 0 0 0 0 ++ row 42 0 0 0 0 0 ++ row 42 0 0 0 0 0) (Ok tt) ∷  -- if
    sample (pos 1 ∷ pos 0 ∷ pos 0 ∷ pos 3 ∷ []) (row 42 1 0 0 0 0 ++ row 43 2 3 0 0 0 ++ row 1 0 0 0 0 0 ++ row 42 0 0 0 0 0) (refused 12 1) ∷  -- without else
    sample (pos 1 ∷ pos 0 ∷ pos 0 ∷ pos 3 ∷ []) (row 42 1 0 0 0 0 ++ row 43 2 4 5 0 0 ++ row 4 3 0 0 0 0 ++ row 1 0 0 0 0 0 ++ row 42 0 0 0 0 0 ++ row 42 0 0 0 0 0) (refused 12 1) ∷  -- its test no atom
    sample (pos 1 ∷ pos 0 ∷ pos 0 ∷ pos 3 ∷ []) (row 42 1 0 0 0 0 ++ row 43 2 3 4 0 0 ++ row 1 0 0 0 0 0 ++ row 40 0 0 0 0 0 ++ row 42 0 0 0 0 0) (refused 12 1) ∷  -- its branch no block
    sample (pos 1 ∷ pos 0 ∷ pos 0 ∷ pos 3 ∷ []) (row 42 1 0 0 0 0 ++ row 43 2 3 4 0 0 ++ row 1 0 0 0 0 0 ++ row 42 0 0 0 0 0 ++ row 40 0 0 0 0 0) (refused 12 1) ∷  -- its else no block
    sample (pos 1 ∷ pos 0 ∷ pos 0 ∷ pos 3 ∷ []) (row 42 1 0 0 0 0 ++ row 44 2 3 0 0 0 ++ row 1 0 0 0 0 0 ++ row 42 0 0 0 0 0) (Ok tt) ∷  -- while
    sample (pos 1 ∷ pos 0 ∷ pos 0 ∷ pos 3 ∷ []) (row 42 1 0 0 0 0 ++ row 44 2 4 0 0 0 ++ row 4 3 0 0 0 0 ++ row 1 0 0 0 0 0 ++ row 42 0 0 0 0 0) (refused 12 1) ∷  -- its test no atom
    sample (pos 1 ∷ pos 0 ∷ pos 0 ∷ pos 3 ∷ []) (row 42 1 0 0 0 0 ++ row 44 2 3 0 0 0 ++ row 1 0 0 0 0 0 ++ row 40 0 0 0 0 0) (refused 12 1) ∷  -- its body no block
    sample (pos 1 ∷ pos 0 ∷ pos 0 ∷ pos 3 ∷ []) (row 42 1 0 0 0 0 ++ row 44 2 3 0 0 0 ++ row 1 0 0 0 0 0 ++ row 57 0 0 0 0 0) (refused 12 1) ∷  -- its body an abort
    sample (pos 1 ∷ pos 0 ∷ pos 0 ∷ pos 3 ∷ []) (row 42 1 0 0 0 0 ++ row 57 0 0 0 0 2 ++ row 40 0 0 0 0 0) (Ok tt) ∷  -- abort, an item behind it
    sample (pos 1 ∷ pos 0 ∷ pos 0 ∷ pos 3 ∷ []) (row 42 1 0 0 0 0 ++ row 42 2 0 0 0 0 ++ row 44 3 4 0 0 0 ++ row 1 0 0 0 0 0 ++ row 40 0 0 0 0 0) (refused 12 2) ∷  -- at the row of the statement
    []

-- Cause 13, "goto without its label ahead, or label repeated".
abbrev pub labels : List Sample
labels =
    sample (pos 0 ∷ pos 0 ∷ pos 0 ∷ []) (row 42 1 0 0 0 0 ++ row 52 5 0 0 0 2 ++ row 53 5 0 0 0 0) (Ok tt) ∷  -- a later item
    sample (pos 0 ∷ pos 0 ∷ pos 0 ∷ []) (row 42 1 0 0 0 0 ++ row 52 5 0 0 0 2 ++ row 40 0 0 0 0 3 ++ row 53 5 0 0 0 0) (Ok tt) ∷  -- an item between
    sample (pos 0 ∷ pos 0 ∷ pos 0 ∷ []) (row 42 1 0 0 0 0 ++ row 53 5 0 0 0 2 ++ row 52 5 0 0 0 0) (refused 13 2) ∷  -- an earlier item
    sample (pos 0 ∷ pos 0 ∷ pos 0 ∷ []) (row 42 1 0 0 0 0 ++ row 52 5 0 0 0 2 ++ row 53 6 0 0 0 0) (refused 13 1) ∷  -- another number
    sample (pos 0 ∷ pos 0 ∷ pos 0 ∷ []) (row 42 1 0 0 0 0 ++ row 42 2 0 0 0 3 ++ row 52 5 0 0 0 0 ++ row 53 5 0 0 0 0) (Ok tt) ∷  -- of a list around it
    sample (pos 0 ∷ pos 0 ∷ pos 0 ∷ []) (row 42 1 0 0 0 0 ++ row 52 5 0 0 0 2 ++ row 42 3 0 0 0 0 ++ row 53 5 0 0 0 0) (refused 13 1) ∷  -- inside a later block
    sample (pos 0 ∷ pos 0 ∷ pos 0 ∷ []) (row 42 1 0 0 0 0 ++ row 42 2 0 0 0 3 ++ row 53 5 0 0 0 0 ++ row 52 5 0 0 0 0) (refused 13 3) ∷  -- inside an earlier block
    sample (pos 0 ∷ pos 0 ∷ pos 0 ∷ []) (row 42 1 0 0 0 0 ++ row 44 2 3 0 0 5 ++ row 1 0 0 0 0 0 ++ row 42 4 0 0 0 0 ++ row 52 5 0 0 0 0 ++ row 53 5 0 0 0 0) (Ok tt) ∷  -- behind the while around it
    sample (pos 0 ∷ pos 0 ∷ pos 0 ∷ []) (row 42 1 0 0 0 0 ++ row 53 5 0 0 0 2 ++ row 53 5 0 0 0 0) (refused 13 2) ∷  -- a label twice
    sample (pos 0 ∷ pos 0 ∷ pos 0 ∷ []) (row 42 1 0 0 0 0 ++ row 42 2 0 0 0 3 ++ row 53 5 0 0 0 0 ++ row 53 5 0 0 0 0) (refused 13 3) ∷  -- in two lists
    sample (pos 0 ∷ pos 0 ∷ pos 0 ∷ []) (row 42 1 0 0 0 0 ++ row 53 5 0 0 0 2 ++ row 53 6 0 0 0 0) (Ok tt) ∷  -- two labels
    sample (pos 0 ∷ pos 0 ∷ pos 0 ∷ []) (row 42 1 0 0 0 0 ++ row 52 5 0 0 0 2 ++ row 44 3 4 0 0 0 ++ row 1 0 0 0 0 0 ++ row 40 0 0 0 0 0) (refused 12 2) ∷  -- 12 before 13
    []

-- Cause 3 for each field that the table of kinds does not name, of the kinds that only the kernel has.
abbrev pub unused_kernel_fields : List Sample
unused_kernel_fields = unused_from (pos 0 ∷ pos 0 ∷ pos 0 ∷ []) 2 3 (52 ∷ 53 ∷ []) ++ unused_from (pos 0 ∷ pos 0 ∷ pos 0 ∷ []) 1 4 (57 ∷ [])

abbrev pub kernel_samples : List Sample
kernel_samples = kernel_headers ++ assignments ++ statements ++ labels ++ unused_kernel_fields
