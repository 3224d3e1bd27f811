-- Causes: 23 and 24, and 7 for a return. Each test is true at a row that breaks the cause.
use Rattle.std.specs.Prelude.{Bool, not, ◌&&◌, ◌||◌, List, ℕ, eqb, leb, ℤ, Result}
use Rattle.words.specs.Refusals.{NumberedRefusal}
use Rattle.words.specs.Table.{number_at}
use Rattle.words.specs.Links.{link}
use Rattle.words.specs.Search.{lowest_row}
use Rattle.check_structure.specs.Refusal.{at, ◌next◌}
use Rattle.check_function_causes.specs.Functions.{is_definition, is_call, is_return, function_at, function_around, list_length}

-- Cause 7: "A return outside a function gets 7."
unfoldable pub returns_outside : List ℤ → ℕ → Bool
returns_outside rows row = is_return rows row && eqb (function_around rows row) 0

-- Cause 23: "A definition out of order or not at the front". One that is neither is the one with its number.
unfoldable pub out_of_order : List ℤ → ℕ → Bool
out_of_order rows row = is_definition rows row && not (eqb (function_at rows (number_at rows row 1)) row)

-- ---- cause 24

-- "To its own or a higher one": in the function that this row defines, a call of this number; row 0 defines none.
unfoldable pub not_lower : List ℤ → ℕ → ℕ → Bool
not_lower rows around number = not (eqb around 0) && leb (number_at rows around 1) number

-- "With the wrong number of arguments": not as many as this definition has parameters.
unfoldable pub wrong_count : List ℤ → ℕ → ℕ → Bool
wrong_count rows definition row = not (eqb (list_length rows (link rows row 2)) (list_length rows (link rows definition 2)))

-- A call with the definition that it means, 0 where that is "no function", and with the function that it stands in.
unfoldable pub wrong_call_of : List ℤ → ℕ → ℕ → ℕ → Bool
wrong_call_of rows definition around row =
    eqb definition 0 || (not_lower rows around (number_at rows row 1) || wrong_count rows definition row)

-- Cause 24: "a call to no function, to its own or a higher one, or with the wrong number of arguments".
unfoldable pub wrong_call : List ℤ → ℕ → Bool
wrong_call rows row = is_call rows row && wrong_call_of rows (function_at rows (number_at rows row 1)) (function_around rows row) row

-- ---- in order

-- 23 and 24, "both after 20, with its row".
unfoldable pub function_refusal : List ℤ → Result (Unit {0}) NumberedRefusal
function_refusal rows = at 23 (lowest_row rows (out_of_order rows)) next at 24 (lowest_row rows (wrong_call rows))
