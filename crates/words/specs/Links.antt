-- Links: what a row is, which row a field links and which rows fit there; and what is handed along the links, from each row to those that
-- it links.
use Rattle.std.specs.Prelude.{Bool, false, ◌&&◌, ◌||◌, List, ℕ, zero, suc, ◌*◌, ◌/◌, ◌%◌, eqb, ℤ, None, Option, Some}
use Rattle.words.specs.Word.{pick}
use Rattle.words.specs.Table.{number_at}
use Rattle.words.specs.Declarations.{is_declaration}
use Rattle.words.specs.Kinds.{expression, optional_expression, place, optional_item, body_block, optional_arm, optional_argument, optional_parameter, absent_link, expression_row, place_row, statement_row, arm_row, argument_row, between, is_link, sort_at}
use Rattle.words.specs.Search.{lowest}

-- "Kinds 1 to 30 are expressions", places among them, and so is a call; "the rest statements".
unfoldable pub is_expression : List ℤ → ℕ → Bool
is_expression rows row = between expression_row place_row (sort_at rows row 0)

-- "'Place' means a row of kind 2 or 3."
unfoldable pub is_place : List ℤ → ℕ → Bool
is_place rows row = eqb (sort_at rows row 0) place_row

unfoldable pub is_statement : List ℤ → ℕ → Bool
is_statement rows row = eqb (sort_at rows row 0) statement_row

unfoldable pub is_block : List ℤ → ℕ → Bool
is_block rows row = eqb (number_at rows row 0) 42

unfoldable pub is_arm : List ℤ → ℕ → Bool
is_arm rows row = eqb (sort_at rows row 0) arm_row

unfoldable pub is_argument : List ℤ → ℕ → Bool
is_argument rows row = eqb (sort_at rows row 0) argument_row

-- The row that a field links; "0 means absent".
unfoldable pub link : List ℤ → ℕ → ℕ → ℕ
link rows row field = pick (is_link (sort_at rows row field)) (number_at rows row field) 0

-- The same for links to members, and to branches and bodies: "a branch or body" has next 0. "An arm elsewhere, or another kind among arms,
-- gets 4." Arguments likewise: "elsewhere, or another kind among arguments, 4". A parameter is of kind 58, "else 4".
abbrev pub fits_part : List ℤ → ℕ → ℕ → Bool
fits_part rows sort row =
    pick (eqb sort optional_arm) (is_arm rows row)
    (pick (eqb sort optional_argument) (is_argument rows row)
    (pick (eqb sort optional_parameter) (is_declaration rows row)
    (pick (eqb sort absent_link) false
    (pick (eqb sort body_block) (is_block rows row) (is_statement rows row) && eqb (number_at rows row 5) 0))))

-- A row is of the sort that a link asks for.
unfoldable pub fits : List ℤ → ℕ → ℕ → Bool
fits rows sort row =
    pick (eqb sort expression || eqb sort optional_expression) (is_expression rows row)
    (pick (eqb sort place) (is_place rows row)
    (pick (eqb sort optional_item) (is_statement rows row) (fits_part rows sort row)))

-- ---- along the links

-- The row that a word of the table links: word w is field w % 6 of row w / 6. 0 where it links none.
unfoldable pub target : List ℤ → ℕ → ℕ
target rows word = link rows (word / 6) (word % 6)

-- The word that links a row; in a table whose rows are linked more than once, the first such word.
unfoldable pub linker : List ℤ → ℕ → Option ℕ
linker rows row = lowest (λ word. eqb (target rows word) row) 0 (6 * row)

-- A note that each row gets from the row that links it, its owner or the item before: `hand owner field note` is what a row with
-- this note hands to the row that its field links. Row 0 has the note `first`, and so has a row that no row links.
unfoldable pub received : (ℕ → ℕ → ℕ → ℕ) → ℕ → (ℕ → ℕ) → Option ℕ → ℕ
received hand first note_of None = first
received hand first note_of (Some word) = hand (word / 6) (word % 6) (note_of (word / 6))

-- Links lead to later rows, so `row` links are enough to come from row 0 to a row.
unfoldable pub note_by : ℕ → (ℕ → ℕ → ℕ → ℕ) → ℕ → List ℤ → ℕ → ℕ
note_by zero hand first rows row = first
note_by (suc links) hand first rows row = received hand first (note_by links hand first rows) (linker rows row)

unfoldable pub note : (ℕ → ℕ → ℕ → ℕ) → ℕ → List ℤ → ℕ → ℕ
note hand first rows row = note_by row hand first rows row
