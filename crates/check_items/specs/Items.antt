-- Items: which rows are items of the list that a field begins; and the items of a sort that stand before a row in its own list, with a
-- search back through them.
use Rattle.std.specs.Prelude.{◌≡◌, Bool, true, false, ◌&&◌, List, ℕ, zero, suc, eqb, ℤ}
use Rattle.words.specs.Word.{pick}
use Rattle.words.specs.Table.{number_at}
use Rattle.words.specs.Links.{link, note}
use Rattle.check_structure.specs.Structured.{Leads}

-- ---- the items of a list

-- An item of the list that field `part` of a row of this kind begins: the first, and the next of one.
pub data ListItem (rows : List ℤ) (kind part : ℕ) : ℕ → Type 0 where
  first : {row : ℕ} → number_at rows row 0 ≡ kind → Leads rows row part → ListItem rows kind part (link rows row part)
  next : {row : ℕ} → Leads rows row 5 → ListItem rows kind part row → ListItem rows kind part (link rows row 5)

-- The same as a note: 1 at such an item, 0 elsewhere.
unfoldable pub item_of : List ℤ → ℕ → ℕ → ℕ → ℕ → ℕ → ℕ
item_of rows kind part owner field own = pick (eqb field 5) own (pick (eqb (number_at rows owner 0) kind && eqb field part) 1 0)

unfoldable pub item_at : List ℤ → ℕ → ℕ → ℕ → ℕ
item_at rows kind part row = note (item_of rows kind part) 0 rows row

-- ---- earlier items of a list

-- An item of the sort hands itself to its next item, another one hands on what it has; a list begins with none.
unfoldable pub earlier_of : (ℕ → Bool) → ℕ → ℕ → ℕ → ℕ
earlier_of sort owner field own = pick (eqb field 5) (pick (sort owner) owner own) 0

-- The nearest item of the sort before the row in its list; 0 where there is none.
unfoldable pub earlier_at : (ℕ → Bool) → List ℤ → ℕ → ℕ
earlier_at sort rows row = note (earlier_of sort) 0 rows row

-- This item has the property, or one of the sort before it in its list. Earlier items stand at lower rows, so as many of them as the
-- number of the first are enough.
unfoldable pub some_from : ℕ → (ℕ → Bool) → (ℕ → Bool) → List ℤ → ℕ → Bool
some_from zero sort property rows item = false
some_from (suc items) sort property rows item =
    let rest = some_from items sort property rows (earlier_at sort rows item) in
    pick (eqb item 0) false (pick (property item) true rest)

-- Some item of the sort before the row in its list has the property.
unfoldable pub some_earlier : (ℕ → Bool) → (ℕ → Bool) → List ℤ → ℕ → Bool
some_earlier sort property rows row = some_from (earlier_at sort rows row) sort property rows (earlier_at sort rows row)
