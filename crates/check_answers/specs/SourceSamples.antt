-- Source samples: small source programs, and what the check must answer of each, worked out from documents 01 and 02. For each cause the last program
-- that it does not turn down, and the first that it does.
use Rattle.std.specs.Prelude.{List, [], ◌∷◌, ◌++◌, map, ℕ, ℤ, pos, negsuc, replicate, Ok, Result}
use Rattle.words.specs.Refusals.{NumberedRefusal}
use Rattle.words.specs.Layout.{zeros}
use Rattle.check_answers.specs.Sample.{Sample, sample, row, unused_from, refused}
use Rattle.check_answers.specs.DeclarationSamples.{declaration_samples}

-- Cause 1, "header outside its limits"; cause 2, "no rows, too many, or words not a multiple of 6".
abbrev pub headers : List Sample
headers =
    sample (pos 256 ∷ []) (row 42 0 0 0 0 0) (Ok tt) ∷  -- 256 variables
    sample (pos 257 ∷ []) (row 42 0 0 0 0 0) (refused 1 0) ∷  -- 257
    sample (negsuc 0 ∷ []) (row 42 0 0 0 0 0) (refused 1 0) ∷  -- −1
    sample [] (row 42 0 0 0 0 0) (refused 1 0) ∷  -- no number
    sample (pos 0 ∷ pos 1 ∷ pos 4096 ∷ []) (row 42 0 0 0 0 0) (Ok tt) ∷  -- lengths 1 and 4,096
    sample (pos 0 ∷ pos 4097 ∷ []) (row 42 0 0 0 0 0) (refused 1 0) ∷  -- length 4,097
    sample (pos 0 ∷ pos 0 ∷ []) (row 42 0 0 0 0 0) (refused 1 0) ∷  -- length 0
    sample (pos 0 ∷ negsuc 0 ∷ []) (row 42 0 0 0 0 0) (refused 1 0) ∷  -- length −1
    sample (pos 0 ∷ replicate 32 (pos 1)) (row 42 0 0 0 0 0) (Ok tt) ∷  -- 32 arrays
    sample (pos 0 ∷ replicate 33 (pos 1)) (row 42 0 0 0 0 0) (refused 1 0) ∷  -- 33
    sample (pos 0 ∷ pos 4096 ∷ pos 4096 ∷ []) (row 42 0 0 0 0 0) (Ok tt) ∷  -- 8,192 words
    sample (pos 1 ∷ pos 4096 ∷ pos 4096 ∷ []) (row 42 0 0 0 0 0) (refused 1 0) ∷  -- 8,193
    sample (pos 0 ∷ []) [] (refused 2 0) ∷  -- no rows
    sample (pos 0 ∷ []) (row 42 0 0 0 0 0 ++ pos 0 ∷ []) (refused 2 0) ∷  -- 7 words
    sample (pos 0 ∷ []) (zeros 12294) (refused 2 0) ∷  -- 2,049 rows
    sample (pos 0 ∷ []) (zeros 12288) (refused 3 0) ∷  -- 2,048, of no kind
    sample (pos 257 ∷ []) [] (refused 1 0) ∷  -- 1 before 2
    []

-- Cause 3, "kind not in the language, or unused field not 0".
abbrev pub fields : List Sample
fields =
    sample (pos 0 ∷ []) (row 42 1 0 0 0 0 ++ row 0 0 0 0 0 0) (refused 3 1) ∷  -- kind 0
    sample (pos 0 ∷ []) (row 42 1 0 0 0 0 ++ row 33 0 0 0 0 0) (refused 3 1) ∷  -- kind 33
    sample (pos 0 ∷ []) (row 42 1 0 0 0 0 ++ row 39 0 0 0 0 0) (refused 3 1) ∷  -- kind 39
    sample (pos 0 ∷ []) (row 42 1 0 0 0 0 ++ row 52 0 0 0 0 0) (refused 3 1) ∷  -- kind 52
    sample (pos 0 ∷ []) (row 42 1 0 0 0 0 ++ row 53 0 0 0 0 0) (refused 3 1) ∷  -- kind 53
    sample (pos 0 ∷ []) (row 42 1 0 0 0 0 ++ row 57 0 0 0 0 0) (refused 3 1) ∷  -- kind 57
    sample (pos 0 ∷ []) (row 42 1 0 0 0 0 ++ row 61 0 0 0 0 0) (refused 3 1) ∷  -- kind 61
    sample (pos 0 ∷ []) (row 42 1 0 0 0 0 ++ (negsuc 0 ∷ pos 0 ∷ pos 0 ∷ pos 0 ∷ pos 0 ∷ pos 0 ∷ [])) (refused 3 1) ∷  -- kind −1
    sample (pos 0 ∷ []) (row 42 1 0 0 0 0 ++ row 40 0 0 0 0 0) (Ok tt) ∷  -- 40 empty
    sample (pos 0 ∷ []) (row 42 1 0 0 0 0 ++ row 51 0 0 0 0 0) (refused 7 1) ∷  -- 51 is in the language
    sample (pos 0 ∷ []) (row 42 0 0 0 0 0 ++ row 33 0 0 0 0 0) (refused 3 1) ∷  -- 3 before 5
    sample (pos 0 ∷ []) (row 42 1 0 0 0 0 ++ row 41 0 0 0 0 0 ++ row 33 0 0 0 0 0) (refused 3 2) ∷  -- 3 before 4
    sample (pos 0 ∷ []) (row 42 1 0 0 0 0 ++ row 40 0 0 0 7 0) (refused 3 1) ∷  -- d of an empty statement
    sample (pos 0 ∷ []) (row 42 1 0 0 0 0 ++ (pos 40 ∷ negsuc 0 ∷ pos 0 ∷ pos 0 ∷ pos 0 ∷ pos 0 ∷ [])) (refused 3 1) ∷  -- a, negative
    sample (pos 0 ∷ []) (row 42 1 0 0 0 0 ++ row 41 2 0 0 0 0 ++ row 1 5 0 0 0 1) (refused 3 2) ∷  -- next of an expression
    []

-- Cause 4, "link not to a later row of the fitting sort, or a branch or body with next not 0".
abbrev pub links : List Sample
links =
    sample (pos 0 ∷ []) (row 42 1 0 0 0 0) (refused 4 0) ∷  -- past the end
    sample (pos 0 ∷ []) (pos 42 ∷ negsuc 0 ∷ pos 0 ∷ pos 0 ∷ pos 0 ∷ pos 0 ∷ []) (refused 4 0) ∷  -- negative
    sample (pos 0 ∷ []) (row 42 1 0 0 0 0 ++ row 41 0 0 0 0 0) (refused 4 1) ∷  -- required, absent
    sample (pos 0 ∷ []) (row 42 1 0 0 0 0 ++ row 41 1 0 0 0 0) (refused 4 1) ∷  -- its own row
    sample (pos 0 ∷ []) (row 42 2 0 0 0 0 ++ row 1 0 0 0 0 0 ++ row 41 1 0 0 0 0) (refused 4 2) ∷  -- an earlier row
    sample (pos 0 ∷ []) (row 42 1 0 0 0 0 ++ row 41 2 0 0 0 0 ++ row 40 0 0 0 0 0) (refused 4 1) ∷  -- a statement for an expression
    sample (pos 0 ∷ []) (row 42 1 0 0 0 0 ++ row 1 0 0 0 0 0) (refused 4 0) ∷  -- an expression for an item
    sample (pos 0 ∷ []) (row 42 1 0 0 0 0 ++ row 40 0 0 0 0 2 ++ row 1 0 0 0 0 0) (refused 4 1) ∷  -- an expression for the next item
    sample (pos 0 ∷ []) (row 42 1 0 0 0 0 ++ row 41 2 0 0 0 0 ++ row 27 3 0 0 0 0 ++ row 1 0 0 0 0 0) (refused 4 2) ∷  -- a constant for a place
    sample (pos 0 ∷ []) (row 42 1 0 0 0 0 ++ row 43 2 3 0 0 0 ++ row 1 0 0 0 0 0 ++ row 1 0 0 0 0 0) (refused 4 1) ∷  -- an expression for a branch
    sample (pos 0 ∷ []) (row 42 1 0 0 0 0 ++ row 43 2 3 0 0 0 ++ row 1 0 0 0 0 0 ++ row 40 0 0 0 0 4 ++ row 40 0 0 0 0 0) (refused 4 1) ∷  -- a branch with next
    sample (pos 0 ∷ []) (row 42 1 0 0 0 0 ++ row 43 2 3 4 0 0 ++ row 1 0 0 0 0 0 ++ row 40 0 0 0 0 0 ++ row 40 0 0 0 0 5 ++ row 40 0 0 0 0 0) (refused 4 1) ∷  -- an else with next
    sample (pos 0 ∷ []) (row 42 1 0 0 0 0 ++ row 44 2 3 0 0 0 ++ row 1 0 0 0 0 0 ++ row 40 0 0 0 0 4 ++ row 40 0 0 0 0 0) (refused 4 1) ∷  -- a body with next
    sample (pos 0 ∷ []) (row 42 1 0 0 0 0 ++ row 40 0 0 0 0 2 ++ row 40 0 0 0 0 0) (Ok tt) ∷  -- an item with next
    sample (pos 0 ∷ []) (row 42 1 0 0 0 0 ++ row 46 0 0 0 0 0) (refused 4 1) ∷  -- for without a body
    sample (pos 0 ∷ []) (row 42 1 0 0 0 0 ++ row 46 0 0 0 2 0 ++ row 40 0 0 0 0 0) (Ok tt) ∷  -- for without its parts
    sample (pos 0 ∷ []) (row 42 1 0 0 0 0 ++ row 44 2 0 0 0 0 ++ row 1 0 0 0 0 0) (refused 4 1) ∷  -- while without a body
    sample (pos 0 ∷ []) (row 42 1 0 0 0 0 ++ row 46 2 3 4 5 0 ++ row 1 0 0 0 0 0 ++ row 1 0 0 0 0 0 ++ row 1 0 0 0 0 0 ++ row 40 0 0 0 0 0) (Ok tt) ∷  -- for with its parts
    sample (pos 0 ∷ []) (row 42 1 0 0 0 0 ++ row 46 2 0 0 3 0 ++ row 40 0 0 0 0 0 ++ row 40 0 0 0 0 0) (refused 4 1) ∷  -- a statement for its start
    sample (pos 0 ∷ []) (row 42 1 0 0 0 0 ++ row 46 0 2 0 3 0 ++ row 40 0 0 0 0 0 ++ row 40 0 0 0 0 0) (refused 4 1) ∷  -- a statement for its test
    sample (pos 0 ∷ []) (row 42 1 0 0 0 0 ++ row 46 0 0 2 3 0 ++ row 40 0 0 0 0 0 ++ row 40 0 0 0 0 0) (refused 4 1) ∷  -- a statement for its step
    sample (pos 0 ∷ []) (row 42 1 0 0 0 0 ++ row 43 2 3 0 0 0 ++ row 1 0 0 0 0 0 ++ row 40 0 0 0 0 0) (Ok tt) ∷  -- if
    sample (pos 0 ∷ []) (row 42 1 0 0 0 0 ++ row 43 2 3 4 0 0 ++ row 1 0 0 0 0 0 ++ row 40 0 0 0 0 0 ++ row 40 0 0 0 0 0) (Ok tt) ∷  -- with else
    sample (pos 0 ∷ []) (row 42 1 0 0 0 0 ++ row 43 0 2 0 0 0 ++ row 40 0 0 0 0 0) (refused 4 1) ∷  -- without a test
    sample (pos 0 ∷ []) (row 42 1 0 0 0 0 ++ row 44 0 2 0 0 0 ++ row 40 0 0 0 0 0) (refused 4 1) ∷  -- while without a test
    sample (pos 0 ∷ []) (row 42 1 0 0 0 0 ++ row 45 2 3 0 0 0 ++ row 40 0 0 0 0 0 ++ row 1 0 0 0 0 0) (Ok tt) ∷  -- do
    sample (pos 0 ∷ []) (row 42 1 0 0 0 0 ++ row 45 2 0 0 0 0 ++ row 40 0 0 0 0 0) (refused 4 1) ∷  -- do without a test
    sample (pos 0 ∷ []) (row 42 1 0 0 0 0 ++ row 45 0 2 0 0 0 ++ row 1 0 0 0 0 0) (refused 4 1) ∷  -- do without a body
    sample (pos 0 ∷ []) (row 42 1 0 0 0 0 ++ row 47 2 0 0 0 0 ++ row 1 0 0 0 0 0) (Ok tt) ∷  -- switch without items
    sample (pos 0 ∷ []) (row 42 1 0 0 0 0 ++ row 47 0 2 0 0 0 ++ row 40 0 0 0 0 0) (refused 4 1) ∷  -- switch without a selector
    sample (pos 0 ∷ pos 1 ∷ []) (row 42 1 0 0 0 0 ++ row 41 2 0 0 0 0 ++ row 3 0 0 0 0 0) (refused 4 2) ∷  -- element without an index
    sample (pos 0 ∷ []) (row 42 1 0 0 0 0 ++ row 41 2 0 0 0 0 ++ row 19 3 4 5 0 0 ++ row 1 0 0 0 0 0 ++ row 1 0 0 0 0 0 ++ row 1 0 0 0 0 0) (Ok tt) ∷  -- conditional
    sample (pos 0 ∷ []) (row 42 1 0 0 0 0 ++ row 41 2 0 0 0 0 ++ row 19 0 3 4 0 0 ++ row 1 0 0 0 0 0 ++ row 1 0 0 0 0 0) (refused 4 2) ∷  -- without a test
    sample (pos 0 ∷ []) (row 42 1 0 0 0 0 ++ row 41 2 0 0 0 0 ++ row 19 3 0 4 0 0 ++ row 1 0 0 0 0 0 ++ row 1 0 0 0 0 0) (refused 4 2) ∷  -- without yes
    sample (pos 0 ∷ []) (row 42 1 0 0 0 0 ++ row 41 2 0 0 0 0 ++ row 19 3 4 0 0 0 ++ row 1 0 0 0 0 0 ++ row 1 0 0 0 0 0) (refused 4 2) ∷  -- without no
    []

-- Cause 5, "row 0 not a lone block, or a row not linked exactly once".
abbrev pub rows_once : List Sample
rows_once =
    sample (pos 0 ∷ []) (row 40 0 0 0 0 0) (refused 5 0) ∷  -- row 0 no block
    sample (pos 0 ∷ []) (row 42 0 0 0 0 1 ++ row 40 0 0 0 0 0) (refused 5 0) ∷  -- row 0 with next
    sample (pos 0 ∷ []) (row 42 0 0 0 0 0 ++ row 40 0 0 0 0 0) (refused 5 1) ∷  -- not linked
    sample (pos 0 ∷ []) (row 42 1 0 0 0 0 ++ row 43 2 3 3 0 0 ++ row 1 0 0 0 0 0 ++ row 40 0 0 0 0 0) (refused 5 3) ∷  -- linked twice
    sample (pos 0 ∷ []) (row 40 0 0 0 0 0 ++ row 40 0 0 0 0 0) (refused 5 0) ∷  -- the lowest row
    []

-- Cause 6, "variable, array or label number outside".
abbrev pub numbers : List Sample
numbers =
    sample (pos 1 ∷ []) (row 42 1 0 0 0 0 ++ row 41 2 0 0 0 0 ++ row 2 0 0 0 0 0) (Ok tt) ∷  -- the last variable
    sample (pos 1 ∷ []) (row 42 1 0 0 0 0 ++ row 41 2 0 0 0 0 ++ row 2 1 0 0 0 0) (refused 6 2) ∷  -- one more
    sample (pos 1 ∷ []) (row 42 1 0 0 0 0 ++ row 41 2 0 0 0 0 ++ (pos 2 ∷ negsuc 0 ∷ pos 0 ∷ pos 0 ∷ pos 0 ∷ pos 0 ∷ [])) (refused 6 2) ∷  -- negative
    sample (pos 1 ∷ pos 3 ∷ []) (row 42 1 0 0 0 0 ++ row 41 2 0 0 0 0 ++ row 2 1 0 0 0 0) (refused 6 2) ∷  -- a number from V to S−1
    sample (pos 0 ∷ pos 1 ∷ []) (row 42 1 0 0 0 0 ++ row 41 2 0 0 0 0 ++ row 3 0 3 0 0 0 ++ row 1 0 0 0 0 0) (Ok tt) ∷  -- the last array
    sample (pos 0 ∷ pos 1 ∷ []) (row 42 1 0 0 0 0 ++ row 41 2 0 0 0 0 ++ row 3 1 3 0 0 0 ++ row 1 0 0 0 0 0) (refused 6 2) ∷  -- one more
    []

-- Cause 7, "break, continue, case or default out of place".
abbrev pub places : List Sample
places =
    sample (pos 0 ∷ []) (row 42 1 0 0 0 0 ++ row 50 0 0 0 0 0) (refused 7 1) ∷  -- break in a block
    sample (pos 0 ∷ []) (row 42 1 0 0 0 0 ++ row 48 0 0 0 0 0) (refused 7 1) ∷  -- case in a block
    sample (pos 0 ∷ []) (row 42 1 0 0 0 0 ++ row 49 0 0 0 0 0) (refused 7 1) ∷  -- default in a block
    sample (pos 0 ∷ []) (row 42 1 0 0 0 0 ++ row 47 2 3 0 0 0 ++ row 1 0 0 0 0 0 ++ row 50 0 0 0 0 0) (Ok tt) ∷  -- break in a switch
    sample (pos 0 ∷ []) (row 42 1 0 0 0 0 ++ row 47 2 3 0 0 0 ++ row 1 0 0 0 0 0 ++ row 51 0 0 0 0 0) (refused 7 3) ∷  -- continue in a switch
    sample (pos 0 ∷ []) (row 42 1 0 0 0 0 ++ row 44 2 3 0 0 0 ++ row 1 0 0 0 0 0 ++ row 50 0 0 0 0 0) (Ok tt) ∷  -- break in a while
    sample (pos 0 ∷ []) (row 42 1 0 0 0 0 ++ row 44 2 3 0 0 0 ++ row 1 0 0 0 0 0 ++ row 51 0 0 0 0 0) (Ok tt) ∷  -- continue in a while
    sample (pos 0 ∷ []) (row 42 1 0 0 0 0 ++ row 45 2 3 0 0 0 ++ row 51 0 0 0 0 0 ++ row 1 0 0 0 0 0) (Ok tt) ∷  -- continue in a do
    sample (pos 0 ∷ []) (row 42 1 0 0 0 0 ++ row 46 0 0 0 2 0 ++ row 51 0 0 0 0 0) (Ok tt) ∷  -- continue in a for
    sample (pos 0 ∷ []) (row 42 1 0 0 0 0 ++ row 44 2 3 0 0 0 ++ row 1 0 0 0 0 0 ++ row 47 4 5 0 0 0 ++ row 1 0 0 0 0 0 ++ row 51 0 0 0 0 0) (Ok tt) ∷  -- continue in a switch in a while
    sample (pos 0 ∷ []) (row 42 1 0 0 0 0 ++ row 44 2 3 0 0 4 ++ row 1 0 0 0 0 0 ++ row 40 0 0 0 0 0 ++ row 50 0 0 0 0 0) (refused 7 4) ∷  -- break after a while
    sample (pos 0 ∷ []) (row 42 1 0 0 0 0 ++ row 47 2 3 0 0 0 ++ row 1 0 0 0 0 0 ++ row 48 0 0 0 0 0) (Ok tt) ∷  -- case in a switch
    sample (pos 0 ∷ []) (row 42 1 0 0 0 0 ++ row 47 2 3 0 0 0 ++ row 1 0 0 0 0 0 ++ row 42 4 0 0 0 0 ++ row 48 0 0 0 0 0) (refused 7 4) ∷  -- case in a block in a switch
    sample (pos 0 ∷ []) (row 42 1 0 0 0 0 ++ row 44 2 3 0 0 0 ++ row 1 0 0 0 0 0 ++ row 49 0 0 0 0 0) (refused 7 3) ∷  -- default as a body
    []

-- Cause 8, "second equal case, or second default, in one switch".
abbrev pub marks : List Sample
marks =
    sample (pos 0 ∷ []) (row 42 1 0 0 0 0 ++ row 47 2 3 0 0 0 ++ row 1 0 0 0 0 0 ++ row 48 5 0 0 0 4 ++ row 48 5 0 0 0 0) (refused 8 4) ∷  -- two equal cases
    sample (pos 0 ∷ []) (row 42 1 0 0 0 0 ++ row 47 2 3 0 0 0 ++ row 1 0 0 0 0 0 ++ row 48 5 0 0 0 4 ++ row 48 6 0 0 0 0) (Ok tt) ∷  -- two cases
    sample (pos 0 ∷ []) (row 42 1 0 0 0 0 ++ row 47 2 3 0 0 0 ++ row 1 0 0 0 0 0 ++ row 48 5 0 0 0 4 ++ (pos 48 ∷ negsuc 4 ∷ pos 0 ∷ pos 0 ∷ pos 0 ∷ pos 0 ∷ [])) (Ok tt) ∷  -- 5 and −5
    sample (pos 0 ∷ []) (row 42 1 0 0 0 0 ++ row 47 2 3 0 0 0 ++ row 1 0 0 0 0 0 ++ row 48 5 0 0 0 4 ++ row 40 0 0 0 0 5 ++ row 48 5 0 0 0 0) (refused 8 5) ∷  -- a statement between
    sample (pos 0 ∷ []) (row 42 1 0 0 0 0 ++ row 47 2 3 0 0 0 ++ row 1 0 0 0 0 0 ++ row 48 5 0 0 0 4 ++ row 48 6 0 0 0 5 ++ row 48 5 0 0 0 0) (refused 8 5) ∷  -- a case between
    sample (pos 0 ∷ []) (row 42 1 0 0 0 0 ++ row 47 2 3 0 0 0 ++ row 1 0 0 0 0 0 ++ row 49 0 0 0 0 4 ++ row 49 0 0 0 0 0) (refused 8 4) ∷  -- two defaults
    sample (pos 0 ∷ []) (row 42 1 0 0 0 0 ++ row 47 2 3 0 0 0 ++ row 1 0 0 0 0 0 ++ row 48 0 0 0 0 4 ++ row 49 0 0 0 0 0) (Ok tt) ∷  -- case 0 and default
    sample (pos 0 ∷ []) (row 42 1 0 0 0 0 ++ row 47 2 3 0 0 0 ++ row 1 0 0 0 0 0 ++ row 48 5 0 0 0 4 ++ row 47 5 6 0 0 0 ++ row 1 0 0 0 0 0 ++ row 48 5 0 0 0 0) (Ok tt) ∷  -- one in an inner switch
    sample (pos 0 ∷ []) (row 42 1 0 0 0 0 ++ row 47 2 3 0 0 5 ++ row 1 0 0 0 0 0 ++ row 48 5 0 0 0 4 ++ row 48 5 0 0 0 0 ++ row 50 0 0 0 0 0) (refused 7 5) ∷  -- 7 before 8
    []

-- Kinds 54 to 56: cause 4, "An arm elsewhere, or another kind among arms, gets 4", and cause 5.
abbrev pub arms : List Sample
arms =
    sample (pos 0 ∷ []) (row 42 1 0 0 0 0 ++ row 54 0 0 0 0 0) (Ok tt) ∷  -- guarded if without arms
    sample (pos 0 ∷ []) (row 42 1 0 0 0 0 ++ row 55 0 0 0 0 0) (Ok tt) ∷  -- guarded do without arms
    sample (pos 0 ∷ []) (row 42 1 0 0 0 0 ++ row 54 2 0 0 0 0 ++ row 56 3 4 0 0 5 ++ row 1 0 0 0 0 0 ++ row 42 0 0 0 0 0 ++ row 56 6 7 0 0 0 ++ row 1 0 0 0 0 0 ++ row 42 0 0 0 0 0) (Ok tt) ∷  -- guarded if with two arms
    sample (pos 0 ∷ []) (row 42 1 0 0 0 0 ++ row 55 2 0 0 0 0 ++ row 56 3 4 0 0 5 ++ row 1 0 0 0 0 0 ++ row 42 0 0 0 0 0 ++ row 56 6 7 0 0 0 ++ row 1 0 0 0 0 0 ++ row 42 0 0 0 0 0) (Ok tt) ∷  -- guarded do with two arms
    sample (pos 0 ∷ []) (row 42 1 0 0 0 0 ++ row 54 0 0 0 0 2 ++ row 40 0 0 0 0 0) (Ok tt) ∷  -- an item behind it
    sample (pos 0 ∷ []) (row 42 1 0 0 0 0 ++ row 44 2 3 0 0 0 ++ row 1 0 0 0 0 0 ++ row 54 0 0 0 0 4 ++ row 40 0 0 0 0 0) (refused 4 1) ∷  -- as a body, with next
    sample (pos 0 ∷ []) (row 42 1 0 0 0 0 ++ row 56 2 3 0 0 0 ++ row 1 0 0 0 0 0 ++ row 42 0 0 0 0 0) (refused 4 0) ∷  -- an arm for the first item of a block
    sample (pos 0 ∷ []) (row 42 1 0 0 0 0 ++ row 40 0 0 0 0 2 ++ row 56 3 4 0 0 0 ++ row 1 0 0 0 0 0 ++ row 42 0 0 0 0 0) (refused 4 1) ∷  -- an arm for the next item
    sample (pos 0 ∷ []) (row 42 1 0 0 0 0 ++ row 47 2 3 0 0 0 ++ row 1 0 0 0 0 0 ++ row 56 4 5 0 0 0 ++ row 1 0 0 0 0 0 ++ row 42 0 0 0 0 0) (refused 4 1) ∷  -- an arm for the first item of a switch
    sample (pos 0 ∷ []) (row 42 1 0 0 0 0 ++ row 43 2 3 0 0 0 ++ row 1 0 0 0 0 0 ++ row 56 4 5 0 0 0 ++ row 1 0 0 0 0 0 ++ row 42 0 0 0 0 0) (refused 4 1) ∷  -- an arm for a branch
    sample (pos 0 ∷ []) (row 42 1 0 0 0 0 ++ row 44 2 3 0 0 0 ++ row 1 0 0 0 0 0 ++ row 56 4 5 0 0 0 ++ row 1 0 0 0 0 0 ++ row 42 0 0 0 0 0) (refused 4 1) ∷  -- an arm for a body
    sample (pos 0 ∷ []) (row 42 1 0 0 0 0 ++ row 41 2 0 0 0 0 ++ row 56 3 4 0 0 0 ++ row 1 0 0 0 0 0 ++ row 42 0 0 0 0 0) (refused 4 1) ∷  -- an arm for an expression
    sample (pos 0 ∷ []) (row 42 1 0 0 0 0 ++ row 54 2 0 0 0 0 ++ row 40 0 0 0 0 0) (refused 4 1) ∷  -- a statement for the first arm
    sample (pos 0 ∷ []) (row 42 1 0 0 0 0 ++ row 55 2 0 0 0 0 ++ row 42 0 0 0 0 0) (refused 4 1) ∷  -- a block for the first arm
    sample (pos 0 ∷ []) (row 42 1 0 0 0 0 ++ row 54 2 0 0 0 0 ++ row 1 0 0 0 0 0) (refused 4 1) ∷  -- an expression for the first arm
    sample (pos 0 ∷ []) (row 42 1 0 0 0 0 ++ row 54 2 0 0 0 0 ++ row 56 3 4 0 0 5 ++ row 1 0 0 0 0 0 ++ row 42 0 0 0 0 0 ++ row 40 0 0 0 0 0) (refused 4 2) ∷  -- a statement for the next arm
    sample (pos 0 ∷ []) (row 42 1 0 0 0 0 ++ row 54 2 0 0 0 0 ++ row 56 0 3 0 0 0 ++ row 42 0 0 0 0 0) (refused 4 2) ∷  -- an arm without a guard
    sample (pos 0 ∷ []) (row 42 1 0 0 0 0 ++ row 54 2 0 0 0 0 ++ row 56 3 0 0 0 0 ++ row 1 0 0 0 0 0) (refused 4 2) ∷  -- an arm without a block
    sample (pos 0 ∷ []) (row 42 1 0 0 0 0 ++ row 54 2 0 0 0 0 ++ row 56 3 4 0 0 0 ++ row 40 0 0 0 0 0 ++ row 42 0 0 0 0 0) (refused 4 2) ∷  -- a statement for the guard
    sample (pos 0 ∷ []) (row 42 1 0 0 0 0 ++ row 54 2 0 0 0 0 ++ row 56 3 4 0 0 0 ++ row 1 0 0 0 0 0 ++ row 40 0 0 0 0 0) (refused 4 2) ∷  -- an empty statement for the block
    sample (pos 0 ∷ []) (row 42 1 0 0 0 0 ++ row 54 2 0 0 0 0 ++ row 56 3 4 0 0 0 ++ row 1 0 0 0 0 0 ++ row 42 0 0 0 0 5 ++ row 40 0 0 0 0 0) (refused 4 2) ∷  -- a block with next
    sample (pos 0 ∷ []) (row 42 0 0 0 0 0 ++ row 56 2 3 0 0 0 ++ row 1 0 0 0 0 0 ++ row 42 0 0 0 0 0) (refused 5 1) ∷  -- an arm that nothing links
    sample (pos 0 ∷ []) (row 56 1 2 0 0 0 ++ row 1 0 0 0 0 0 ++ row 42 0 0 0 0 0) (refused 5 0) ∷  -- row 0 an arm
    sample (pos 0 ∷ []) (row 42 1 0 0 0 0 ++ row 54 3 0 0 0 2 ++ row 55 3 0 0 0 0 ++ row 56 4 5 0 0 0 ++ row 1 0 0 0 0 0 ++ row 42 0 0 0 0 0) (refused 5 3) ∷  -- an arm linked twice
    []

-- Cause 7: "Neither form counts as a loop for break and continue."
abbrev pub guarded_places : List Sample
guarded_places =
    sample (pos 0 ∷ []) (row 42 1 0 0 0 0 ++ row 54 2 0 0 0 0 ++ row 56 3 4 0 0 0 ++ row 1 0 0 0 0 0 ++ row 42 5 0 0 0 0 ++ row 50 0 0 0 0 0) (refused 7 5) ∷  -- break in a guarded if
    sample (pos 0 ∷ []) (row 42 1 0 0 0 0 ++ row 55 2 0 0 0 0 ++ row 56 3 4 0 0 0 ++ row 1 0 0 0 0 0 ++ row 42 5 0 0 0 0 ++ row 50 0 0 0 0 0) (refused 7 5) ∷  -- break in a guarded do
    sample (pos 0 ∷ []) (row 42 1 0 0 0 0 ++ row 55 2 0 0 0 0 ++ row 56 3 4 0 0 0 ++ row 1 0 0 0 0 0 ++ row 42 5 0 0 0 0 ++ row 51 0 0 0 0 0) (refused 7 5) ∷  -- continue in a guarded do
    sample (pos 0 ∷ []) (row 42 1 0 0 0 0 ++ row 44 2 3 0 0 0 ++ row 1 0 0 0 0 0 ++ row 55 4 0 0 0 0 ++ row 56 5 6 0 0 0 ++ row 1 0 0 0 0 0 ++ row 42 7 0 0 0 0 ++ row 50 0 0 0 0 0) (Ok tt) ∷  -- break in a guarded do in a while
    sample (pos 0 ∷ []) (row 42 1 0 0 0 0 ++ row 44 2 3 0 0 0 ++ row 1 0 0 0 0 0 ++ row 54 4 0 0 0 0 ++ row 56 5 6 0 0 0 ++ row 1 0 0 0 0 0 ++ row 42 7 0 0 0 0 ++ row 51 0 0 0 0 0) (Ok tt) ∷  -- continue in a guarded if in a while
    sample (pos 0 ∷ []) (row 42 1 0 0 0 0 ++ row 47 2 3 0 0 0 ++ row 1 0 0 0 0 0 ++ row 54 4 0 0 0 0 ++ row 56 5 6 0 0 0 ++ row 1 0 0 0 0 0 ++ row 42 7 0 0 0 0 ++ row 50 0 0 0 0 0) (Ok tt) ∷  -- break in a guarded if in a switch
    sample (pos 0 ∷ []) (row 42 1 0 0 0 0 ++ row 47 2 3 0 0 0 ++ row 1 0 0 0 0 0 ++ row 55 4 0 0 0 0 ++ row 56 5 6 0 0 0 ++ row 1 0 0 0 0 0 ++ row 42 7 0 0 0 0 ++ row 51 0 0 0 0 0) (refused 7 7) ∷  -- continue in a guarded do in a switch
    sample (pos 0 ∷ []) (row 42 1 0 0 0 0 ++ row 47 2 3 0 0 0 ++ row 1 0 0 0 0 0 ++ row 54 4 0 0 0 0 ++ row 56 5 6 0 0 0 ++ row 1 0 0 0 0 0 ++ row 42 7 0 0 0 0 ++ row 48 0 0 0 0 0) (refused 7 7) ∷  -- case in an arm's block in a switch
    []

-- A row of a kind as an expression statement's value, with the rows below it.
abbrev pub valued : Result (Unit {0}) NumberedRefusal → List ℤ → (ℕ → List ℤ) → ℕ → Sample
valued answer below top kind = sample (pos 1 ∷ []) (row 42 1 0 0 0 0 ++ row 41 2 0 0 0 0 ++ top kind ++ below) answer

abbrev pub signs : List ℕ
signs = 4 ∷ 5 ∷ []

abbrev pub operations : List ℕ
operations = 6 ∷ 7 ∷ 8 ∷ 9 ∷ 10 ∷ 11 ∷ 12 ∷ 13 ∷ 14 ∷ 15 ∷ 16 ∷ 17 ∷ 18 ∷ 20 ∷ []

abbrev pub stores : List ℕ
stores = 21 ∷ 22 ∷ 23 ∷ 24 ∷ 25 ∷ 26 ∷ []

abbrev pub increments : List ℕ
increments = 27 ∷ 28 ∷ 29 ∷ 30 ∷ []

-- Kinds 4 and 5; 6 to 18 and comma; 21 to 26; 27 to 30: accepted with their operands, and cause 4 where one is absent or no place.
abbrev pub operands : List Sample
operands =
    map (valued (Ok tt) (row 1 0 0 0 0 0) (λ kind. row kind 3 0 0 0 0)) signs
    ++ map (valued (refused 4 2) [] (λ kind. row kind 0 0 0 0 0)) signs
    ++ map (valued (Ok tt) (row 1 0 0 0 0 0 ++ row 1 0 0 0 0 0) (λ kind. row kind 3 4 0 0 0)) operations
    ++ map (valued (refused 4 2) (row 1 0 0 0 0 0) (λ kind. row kind 0 3 0 0 0)) operations
    ++ map (valued (refused 4 2) (row 1 0 0 0 0 0) (λ kind. row kind 3 0 0 0 0)) operations
    ++ map (valued (Ok tt) (row 2 0 0 0 0 0 ++ row 1 0 0 0 0 0) (λ kind. row kind 3 4 0 0 0)) stores
    ++ map (valued (refused 4 2) (row 1 0 0 0 0 0 ++ row 1 0 0 0 0 0) (λ kind. row kind 3 4 0 0 0)) stores
    ++ map (valued (refused 4 2) (row 2 0 0 0 0 0) (λ kind. row kind 3 0 0 0 0)) stores
    ++ map (valued (Ok tt) (row 2 0 0 0 0 0) (λ kind. row kind 3 0 0 0 0)) increments
    ++ map (valued (refused 4 2) (row 1 0 0 0 0 0) (λ kind. row kind 3 0 0 0 0)) increments

-- Cause 3 for each field that the table of kinds does not name, by how many it names, from a on. Next is unused in expressions.
abbrev pub unused_fields : List Sample
unused_fields =
    unused_from (pos 0 ∷ []) 2 4 (1 ∷ 2 ∷ 4 ∷ 5 ∷ 27 ∷ 28 ∷ 29 ∷ 30 ∷ [])
    ++ unused_from (pos 0 ∷ []) 3 3 (3 ∷ 6 ∷ 7 ∷ 8 ∷ 9 ∷ 10 ∷ 11 ∷ 12 ∷ 13 ∷ 14 ∷ 15 ∷ 16 ∷ 17 ∷ 18 ∷ 20 ∷ 21 ∷ 22 ∷ 23 ∷ 24 ∷ 25 ∷ 26 ∷ [])
    ++ unused_from (pos 0 ∷ []) 4 2 (19 ∷ [])
    ++ unused_from (pos 0 ∷ []) 1 4 (40 ∷ 49 ∷ 50 ∷ 51 ∷ [])
    ++ unused_from (pos 0 ∷ []) 2 3 (41 ∷ 42 ∷ 48 ∷ 54 ∷ 55 ∷ [])
    ++ unused_from (pos 0 ∷ []) 3 2 (44 ∷ 45 ∷ 47 ∷ 56 ∷ 58 ∷ [])
    ++ unused_from (pos 0 ∷ []) 4 1 (43 ∷ [])

abbrev pub source_samples : List Sample
source_samples = headers ++ fields ++ links ++ rows_once ++ numbers ++ places ++ marks ++ arms ++ guarded_places ++ operands ++ unused_fields ++ declaration_samples
