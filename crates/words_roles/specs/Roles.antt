-- Roles: kind 58 is a parameter where a definition's b links it, or a parameter's next; else it is a declaration. What the fields of a row
-- hold by its role.
use Rattle.std.specs.Prelude.{Bool, false, ◌&&◌, ◌||◌, List, [], ◌∷◌, ℕ, zero, suc, eqb, ℤ, get_or}
use Rattle.words.specs.Word.{pick}
use Rattle.words.specs.Table.{number_at}
use Rattle.words.specs.Kinds.{KindRow, unused, parameter_fields, sort_at}
use Rattle.words.specs.Search.{some}
use Rattle.words.specs.Declarations.{is_declaration}

-- "Kind 59 defines a function".
unfoldable pub is_definition : List ℤ → ℕ → Bool
is_definition rows row = eqb (number_at rows row 0) 59

-- A row makes another a parameter: a definition by its b, a parameter by its next.
unfoldable pub links_parameter : Bool → List ℤ → ℕ → ℕ → Bool
links_parameter parameter rows owner row =
    (eqb (number_at rows owner 2) row && is_definition rows owner) || (eqb (number_at rows owner 5) row && parameter)

-- A row of kind 58 that an earlier row makes a parameter, through so many links at most. Nothing is asked of the table: cause 4 comes before
-- the rows are known to make a tree.
unfoldable pub is_parameter_by : ℕ → List ℤ → ℕ → Bool
is_parameter_by zero rows row = false
is_parameter_by (suc links) rows row =
    is_declaration rows row && some (λ owner. links_parameter (is_parameter_by links rows owner) rows owner row) 0 row

-- Links lead to later rows, so as many as the row's number are enough.
unfoldable pub is_parameter : List ℤ → ℕ → Bool
is_parameter rows row = is_parameter_by row rows row

-- A parameter has its own fields: "its b 0, else 4 with its own row", and next is the next parameter.
unfoldable pub parameter_sort : ℕ → ℕ
parameter_sort field =
    let r = parameter_fields in get_or (r.what ∷ r.a ∷ r.b ∷ r.c ∷ r.d ∷ r.next ∷ []) field unused

-- What a field of a row holds: those of a parameter, or those that the table of kinds gives.
unfoldable pub role_sort : List ℤ → ℕ → ℕ → ℕ
role_sort rows row field = pick (is_parameter rows row) (parameter_sort field) (sort_at rows row field)
