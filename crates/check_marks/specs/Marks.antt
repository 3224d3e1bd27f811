-- Marks: cause 8, "second equal case, or second default, in one switch".
use Rattle.std.specs.Prelude.{Bool, ◌&&◌, List, ℕ, eqb, ℤ}
use Rattle.words.specs.Word.{same_word}
use Rattle.words.specs.Table.{word_at, number_at}
use Rattle.check_items.specs.Items.{earlier_at, some_earlier}
use Rattle.check_places.specs.Places.{is_mark, mark_at}

-- Two marks are equal: two defaults, or two cases of equal value. (A default's value is an unused field, and so 0.)
unfoldable pub same_mark : List ℤ → ℕ → ℕ → Bool
same_mark rows mark row = eqb (number_at rows mark 0) (number_at rows row 0) && same_word (word_at rows mark 1) (word_at rows row 1)

-- The nearest mark before a row in its list; 0 where there is none.
abbrev pub mark_before : List ℤ → ℕ → ℕ
mark_before rows = earlier_at (mark_at rows) rows

-- Cause 8, at the "later row": a mark that is equal to one before it in its list.
unfoldable pub repeated : List ℤ → ℕ → Bool
repeated rows row = is_mark (number_at rows row 0) && some_earlier (mark_at rows) (λ mark. same_mark rows mark row) rows row
