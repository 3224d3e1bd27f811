-- Brief notes: what is noted of a row along the links, by tests that cost less to compute: the rows that are linked are listed once.
use Rattle.std.specs.Prelude.{List, [], ◌∷◌, ℕ, zero, suc, ◌+◌, ◌*◌, eqb, ℤ, None, Option, Some}
use Rattle.words.specs.Word.{pick}
use Rattle.words.specs.Links.{target, received}
use Rattle.check_structure.specs.Links.{deeper}

-- The rows that so many words from a word on link, in order.
unfoldable pub linked_from : List ℤ → ℕ → ℕ → List ℕ
linked_from rows word zero = []
linked_from rows word (suc count) = target rows word ∷ linked_from rows (word + 1) count

-- The first of so many words that links the row; the list begins with what `word` links.
unfoldable pub linker_among : ℕ → List ℕ → ℕ → ℕ → Option ℕ
linker_among zero linked word row = None
linker_among (suc count) [] word row = None
linker_among (suc count) (first ∷ rest) word row = let later = linker_among count rest (word + 1) row in pick (eqb first row) (Some word) later

-- The note of a row, with the rows that are linked.
unfoldable pub brief_note : ℕ → (ℕ → ℕ → ℕ → ℕ) → ℕ → List ℕ → ℕ → ℕ
brief_note zero hand first linked row = first
brief_note (suc links) hand first linked row = received hand first (brief_note links hand first linked) (linker_among (6 * row) linked 0 row)

-- The depth of a row.
unfoldable pub brief_depth_at : List ℤ → ℕ → ℕ
brief_depth_at rows row = brief_note row deeper 1 (linked_from rows 0 (6 * row)) row
