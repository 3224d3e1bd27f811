-- Labels: cause 13, "goto without its label ahead, or label repeated".
use Rattle.std.specs.Prelude.{Bool, true, false, not, ◌&&◌, ◌||◌, List, ℕ, zero, suc, eqb, ℤ}
use Rattle.words.specs.Word.{pick}
use Rattle.words.specs.Table.{row_count, number_at}
use Rattle.words.specs.Links.{link, note}
use Rattle.words.specs.Search.{some}
use Rattle.check_function_causes.specs.Functions.{is_definition}

-- 53 label, with this label number.
unfoldable pub is_label : List ℤ → ℕ → ℕ → Bool
is_label rows number row = eqb (number_at rows row 0) 53 && eqb (number_at rows row 1) number

-- "A label number (0 to 40,979) stands once": an earlier row is a label with the number of this one, wherever the two stand.
unfoldable pub repeated_label : List ℤ → ℕ → Bool
repeated_label rows row = eqb (number_at rows row 0) 53 && some (is_label rows (number_at rows row 1)) 0 row

-- The owner of a row is the row whose part it is; items of one list share theirs. (For row 0, which has none, 0.)
unfoldable pub owning : ℕ → ℕ → ℕ → ℕ
owning linker field owner = pick (eqb field 5) owner linker

unfoldable pub owner_at : List ℤ → ℕ → ℕ
owner_at rows row = note owning 0 rows row

-- The same where the owner is no definition, whose parts are all of its function; 0 for a part of one.
unfoldable pub around_at : List ℤ → ℕ → ℕ
around_at rows row = pick (is_definition rows (owner_at rows row)) 0 (owner_at rows row)

-- A label with this number is a later item of the row's list; at most `items` of them are looked at.
unfoldable pub label_behind : ℕ → List ℤ → ℕ → ℕ → Bool
label_behind zero rows number row = false
label_behind (suc items) rows number row =
    let item = link rows row 5 in
    let rest = label_behind items rows number item in
    pick (eqb item 0) false (pick (is_label rows number item) true rest)

-- It is one of the row's list, or of a list around that in its function; at most `levels` lists are looked at. Row 0 has no next.
unfoldable pub label_ahead : ℕ → List ℤ → ℕ → ℕ → Bool
label_ahead zero rows number row = false
label_ahead (suc levels) rows number row =
    let rest = label_ahead levels rows number (around_at rows row) in
    pick (label_behind (row_count rows) rows number row) true rest

-- "A goto's label is a later item of a list that encloses it", and "a goto stays inside its function". Owners are earlier rows, so `row` lists are enough.
unfoldable pub goto_without_label : List ℤ → ℕ → Bool
goto_without_label rows row = eqb (number_at rows row 0) 52 && not (label_ahead row rows (number_at rows row 1) row)

-- Cause 13, at the "row of the goto or of the later label".
unfoldable pub label_fault : List ℤ → ℕ → Bool
label_fault rows row = repeated_label rows row || goto_without_label rows row
