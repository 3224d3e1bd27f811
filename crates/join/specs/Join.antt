-- Join: two source programs as one, that runs the first and then the second. Its rows, and what it refuses.
use Rattle.std.specs.Prelude.{Bool, true, false, not, ◌&&◌, ◌||◌, List, [], ◌∷◌, ◌++◌, ℕ, zero, suc, ◌+◌, eqb, leb, ℤ, pos, length, Result}
use Rattle.words.specs.Refusals.{NumberedRefusal}
use Rattle.words.specs.Word.{pick, one, same_word}
use Rattle.words.specs.Table.{row_count, word_at, number_at}
use Rattle.words.specs.Kinds.{function_number, is_link, sort_at}
use Rattle.words.specs.Layout.{row_limit}
use Rattle.words.specs.Links.{link}
use Rattle.words.specs.Search.{lowest_row}
use Rattle.words.specs.declared.Form.TheVariants.{Source}
use Rattle.check_grammar.specs.Grammar.{tabulate}
use Rattle.check_structure.specs.Links.{too_deep}
use Rattle.check_structure.specs.Refusal.{at, unless, ◌next◌}
use Rattle.check_declaration_causes.specs.Causes.{one_too_many}
use Rattle.check_function_causes.specs.Functions.{is_definition, function_around}
use Rattle.check_source.specs.Refusal.{refusal}

-- ---- the rows of definitions, and the others

-- A definition's row, and all rows below it: those of its parameters, its block and everything in it.
unfoldable pub is_of_definition : List ℤ → ℕ → Bool
is_of_definition rows row = is_definition rows row || not (eqb (function_around rows row) 0)

unfoldable pub is_other : List ℤ → ℕ → Bool
is_other rows row = not (is_of_definition rows row)

-- How many numbers below this one have the property.
unfoldable pub before : (ℕ → Bool) → ℕ → ℕ
before property zero = 0
before property (suc number) = before property number + one (property number)

abbrev pub definition_rows : List ℤ → ℕ
definition_rows rows = before (is_of_definition rows) (row_count rows)

abbrev pub other_rows : List ℤ → ℕ
other_rows rows = before (is_other rows) (row_count rows)

-- ---- the definitions at the front of row 0's list

-- How many there are from this row on.
unfoldable pub functions_from : ℕ → List ℤ → ℕ → ℕ
functions_from zero rows row = 0
functions_from (suc most) rows row = let rest = functions_from most rows (link rows row 5) in pick (is_definition rows row) (1 + rest) 0

-- The item behind them, from this row on; 0 where there is none.
unfoldable pub item_from : ℕ → List ℤ → ℕ → ℕ
item_from zero rows row = row
item_from (suc most) rows row = let rest = item_from most rows (link rows row 5) in pick (is_definition rows row) rest row

-- Links lead to later rows, so as many as there are rows are enough.
unfoldable pub functions_of : List ℤ → ℕ
functions_of rows = functions_from (row_count rows) rows (link rows 0 1)

unfoldable pub first_item : List ℤ → ℕ
first_item rows = item_from (row_count rows) rows (link rows 0 1)

-- ---- rows

-- Where a program stands in a join.
pub record Placement : Type 0 where
  -- the rows at which the rows of its definitions begin, and its others, of which row 0 is the first
  pub definitions : ℕ
  pub others : ℕ
  -- how many functions come before its own
  pub functions : ℕ
  -- the item of the new block behind its definitions, and the one behind its own block; "0 means absent"
  pub behind : ℕ
  pub after : ℕ

-- The new number of a row: "each in old order".
unfoldable pub place_of : Placement → List ℤ → ℕ → ℕ
place_of placement rows row = pick (is_of_definition rows row) (placement.definitions + before (is_of_definition rows) row) (placement.others + before (is_other rows) row)

-- From this item on the list of the new block: a definition, or what stands behind the program's definitions.
unfoldable pub front_of : Placement → List ℤ → ℕ → ℕ
front_of placement rows item = pick (is_definition rows item) (place_of placement rows item) placement.behind

-- The row that a field links in the join. Definitions are items of the new block, so that the old one begins behind them.
unfoldable pub placed_link : Placement → List ℤ → ℕ → ℕ → ℕ
placed_link placement rows row field =
    let to = pick (eqb row 0 && eqb field 1) (first_item rows) (link rows row field) in
    pick (is_definition rows row && eqb field 5) (front_of placement rows (link rows row 5))
    (pick (eqb row 0 && eqb field 5) placement.after
    (pick (eqb to 0) 0 (place_of placement rows to)))

-- A word of a row: links lead to the new rows, functions have numbers behind those before them; kinds, values, variable and array numbers stay as they
-- were.
unfoldable pub placed_word : Placement → List ℤ → ℕ → ℕ → ℤ
placed_word placement rows row field =
    pick (is_link (sort_at rows row field)) (pos (placed_link placement rows row field))
    (pick (eqb (sort_at rows row field) function_number) (pos (placement.functions + number_at rows row field)) (word_at rows row field))

-- The rows with the property among so many, "each in old order".
unfoldable pub placed_rows : Placement → (ℕ → Bool) → List ℤ → ℕ → List ℤ
placed_rows placement property rows zero = []
placed_rows placement property rows (suc row) = placed_rows placement property rows row ++ pick (property row) (tabulate (placed_word placement rows row) 0 6) []

-- The second's definitions stand behind the first's, and its other rows behind those of the first; its functions are "renumbered".
unfoldable pub second_placement : List ℤ → List ℤ → Placement
second_placement first second =
    let others = 1 + definition_rows first + definition_rows second in
    record { definitions = 1 + definition_rows first; others = others + other_rows first; functions = functions_of first; behind = others; after = 0 }

unfoldable pub first_placement : List ℤ → List ℤ → Placement
first_placement first second =
    let of_second = second_placement first second in
    record { definitions = 1; others = of_second.behind; functions = 0; behind = front_of of_second second (link second 0 1); after = of_second.others }

-- "The new outer block": a block with this first item.
unfoldable pub outer_block : ℕ → List ℤ
outer_block item = pos 42 ∷ pos item ∷ pos 0 ∷ pos 0 ∷ pos 0 ∷ pos 0 ∷ []

-- "A join's rows: the new block, both sets of definitions (the second's renumbered), the first's other rows, the second's, each in old order."
unfoldable pub joined_rows : List ℤ → List ℤ → List ℤ
joined_rows first second =
    let of_first = first_placement first second in
    let of_second = second_placement first second in
    outer_block (front_of of_first first (link first 0 1))
    ++ (placed_rows of_first (is_of_definition first) first (row_count first)
    ++ (placed_rows of_second (is_of_definition second) second (row_count second)
    ++ (placed_rows of_first (is_other first) first (row_count first)
    ++ placed_rows of_second (is_other second) second (row_count second))))

-- ---- refusals

-- V and every array length agree.
unfoldable pub same_header : List ℤ → List ℤ → Bool
same_header [] [] = true
same_header [] (v ∷ vs) = false
same_header (w ∷ ws) [] = false
same_header (w ∷ ws) (v ∷ vs) = same_word w v && same_header ws vs

-- Of the joined rows: "a join too deep 9 with its joined row", then "a 65th declaration, in a join too, 20": the 65th of both together.
unfoldable pub rows_refusal : List ℤ → Result (Unit {0}) NumberedRefusal
rows_refusal joined =
    at 9 (lowest_row joined (too_deep Source joined))
    next at 20 (lowest_row joined (one_too_many joined))

-- The causes of the join itself: "unequal headers get 16, joined rows over 2,048 get 17 (both place 0)", then those of its rows.
unfoldable pub own_refusal : List ℤ → List ℤ → List ℤ → List ℤ → Result (Unit {0}) NumberedRefusal
own_refusal header first secondHeader second =
    let joined = joined_rows first second in
    unless (same_header header secondHeader) 16
    next unless (leb (row_count joined) (row_limit Source)) 17
    next rows_refusal joined

-- "After the first's own causes, then the second's, and before 10": an output of `room` words is shorter than the joined rows.
unfoldable pub join_refusal : List ℤ → List ℤ → List ℤ → List ℤ → ℕ → Result (Unit {0}) NumberedRefusal
join_refusal header first secondHeader second room =
    refusal header first
    next refusal secondHeader second
    next own_refusal header first secondHeader second
    next unless (leb (length (joined_rows first second)) room) 10
