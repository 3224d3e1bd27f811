-- Parameters: "Parameters count in D, and for scope and 19 as c's first items". The function in whose block's own list a row stands; 19 for
-- a declaration there with the number of a parameter.
use Rattle.std.specs.Prelude.{Bool, true, false, not, ◌&&◌, List, ℕ, zero, suc, eqb, ℤ}
use Rattle.words.specs.Word.{pick}
use Rattle.words.specs.Table.{row_count, number_at}
use Rattle.words.specs.Links.{link, note}
use Rattle.words.specs.Declarations.{is_declaration}
use Rattle.check_function_causes.specs.Functions.{is_definition}

-- A definition hands itself to its block, which is its field c; the block hands it to its first item, at a; an item hands it to the next.
unfoldable pub body_of : List ℤ → ℕ → ℕ → ℕ → ℕ
body_of rows owner field own =
    pick (is_definition rows owner && eqb field 3) owner
    (pick (eqb (link rows own 3) owner) (pick (eqb field 1) own 0) (pick (eqb field 5) own 0))

-- The definition whose block a row is, or in whose block's own list it stands; 0 where there is none.
unfoldable pub body_at : List ℤ → ℕ → ℕ
body_at rows row = note (body_of rows) 0 rows row

-- Some row of the list from this row on has the property, of so many at most; row 0 stands for the list's end.
unfoldable pub some_of_list : ℕ → (ℕ → Bool) → List ℤ → ℕ → Bool
some_of_list zero property rows row = false
some_of_list (suc most) property rows row =
    let rest = some_of_list most property rows (link rows row 5) in
    pick (eqb row 0) false (pick (property row) true rest)

-- Two declarations have one number.
unfoldable pub same_number : List ℤ → ℕ → ℕ → Bool
same_number rows row declaration = eqb (number_at rows declaration 1) (number_at rows row 1)

-- 19 at a declaration in a function's block with the number of a parameter: it is the later of the two in the order of c's items, also where
-- its row is the lower.
unfoldable pub declared_as_parameter : List ℤ → ℕ → Bool
declared_as_parameter rows row =
    is_declaration rows row && (not (eqb (link rows (body_at rows row) 3) row)
    && some_of_list (row_count rows) (same_number rows row) rows (link rows (body_at rows row) 2))
