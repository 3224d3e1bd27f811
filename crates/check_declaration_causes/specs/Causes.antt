-- Causes: 18, 19 and 20, and 7 for a declaration. Each test is true at a declaration's row that breaks the cause.
use Rattle.std.specs.Prelude.{Bool, true, false, not, ◌&&◌, ◌||◌, List, ℕ, zero, suc, eqb, ℤ, Result}
use Rattle.words.specs.Refusals.{NumberedRefusal}
use Rattle.words.specs.Word.{pick}
use Rattle.words.specs.Table.{row_count, number_at}
use Rattle.words.specs.Search.{lowest_row, some_field}
use Rattle.words.specs.Links.{link}
use Rattle.check_structure.specs.Refusal.{at, ◌next◌}
use Rattle.words.specs.Declarations.{is_declaration, declarations_before, declaration_limit}
use Rattle.names.specs.Names.{is_name}
use Rattle.check_items.specs.Items.{item_at, some_earlier}
use Rattle.check_parameter_causes.specs.Parameters.{declared_as_parameter}
unfoldable pub use Rattle.check_parameter_causes.specs.Parameters.{same_number}

-- Cause 7: "It is an item of a block (elsewhere 7)". A block is kind 42, its list begins at a. A parameter, which has no b, is none.
unfoldable pub outside_block : List ℤ → ℕ → Bool
outside_block rows row = is_declaration rows row && (not (eqb (number_at rows row 2) 0) && eqb (item_at rows 42 1 row) 0)

-- ---- cause 18

-- The row names the variable with this number.
unfoldable pub names_number : List ℤ → ℕ → ℕ → Bool
names_number rows number row = is_name rows row && eqb (number_at rows row 1) number

-- The row names the number, or a row below it does, by any links; row 0 is no link's row. Links lead to later rows, so as many levels as
-- there are rows are enough.
unfoldable pub named_within : ℕ → List ℤ → ℕ → ℕ → Bool
named_within zero rows number row = false
named_within (suc levels) rows number row =
    let below = some_field (λ field. named_within levels rows number (link rows row field)) in
    pick (eqb row 0) false (pick (names_number rows number row) true below)

unfoldable pub named_from : List ℤ → ℕ → ℕ → Bool
named_from rows number row = named_within (row_count rows) rows number row

-- "An initial expression naming its own number": as operand, place or index.
unfoldable pub names_itself : List ℤ → ℕ → Bool
names_itself rows row = is_declaration rows row && named_from rows (number_at rows row 1) (link rows row 2)

-- ---- cause 19

-- "A number declared twice in one block": at the later of the two.
unfoldable pub declared_before : List ℤ → ℕ → Bool
declared_before rows row = is_declaration rows row && some_earlier (is_declaration rows) (same_number rows row) rows row

-- "Parameters count .. for .. 19 as c's first items": twice in one list, or in a function's block and as its parameter.
unfoldable pub declared_twice : List ℤ → ℕ → Bool
declared_twice rows row = declared_before rows row || declared_as_parameter rows row

-- ---- cause 20

-- "A 65th declaration", in row order.
unfoldable pub one_too_many : List ℤ → ℕ → Bool
one_too_many rows row = is_declaration rows row && eqb (declarations_before rows row) declaration_limit

-- ---- in order

-- 18, 19 and 20, "each with the declaration's row, after 9 and before 10".
unfoldable pub declaration_refusal : List ℤ → Result (Unit {0}) NumberedRefusal
declaration_refusal rows =
    at 18 (lowest_row rows (names_itself rows))
    next at 19 (lowest_row rows (declared_twice rows))
    next at 20 (lowest_row rows (one_too_many rows))
