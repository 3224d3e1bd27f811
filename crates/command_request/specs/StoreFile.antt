-- StoreFile: "a file of store words (blank- or newline-separated, as many as the store has)".
use Rattle.std.specs.Prelude.{◌≡◌, Bool, ◌||◌, List, [], ◌∷◌, ℕ, ◌+◌, eqb, ℤ, length, Err, Ok, Result, None, Option, Some}
use Rattle.std.specs.List.{slice_split}
use Rattle.text_numbers.specs.Number.{number_of}
use Rattle.text_lines.specs.Line.{newline}
use Rattle.text_form.specs.Text.{Parsed, parsed, malformed}
use Rattle.words.specs.Over.{over}
use Rattle.text_report.specs.Lines.{blank}

-- Blanks and newlines part words, any number of them.
unfoldable pub is_parting : ℕ → Bool
is_parting byte = eqb byte blank || eqb byte newline

-- The pieces that have a byte.
unfoldable pub filled : List (List ℕ) → List (List ℕ)
filled [] = []
filled ([] ∷ pieces) = filled pieces
filled ((byte ∷ bytes) ∷ pieces) = (byte ∷ bytes) ∷ filled pieces

-- A piece of this number gave a word or was malformed, and so did the pieces behind it.
unfoldable pub with_word : ℕ → Option ℤ → Parsed (List ℤ) → Parsed (List ℤ)
with_word number None others = malformed number
with_word number (Some word) (parsed words) = parsed (word ∷ words)
with_word number (Some word) (malformed later) = malformed later

-- The words of pieces that are numbered from here on, each written as in a text; or the number of the first that is malformed.
unfoldable pub words_from : ℕ → List (List ℕ) → Parsed (List ℤ)
words_from number [] = parsed []
words_from number (piece ∷ pieces) = with_word number (number_of piece) (words_from (number + 1) pieces)

-- The words of a store file; or the number, from 1, of its first malformed word. What blanks and newlines part is one piece more than there
-- are such bytes.
unfoldable pub store_in : List ℕ → Parsed (List ℤ)
store_in file = words_from 1 (filled (slice_split is_parting file))

-- ---- the reader

-- Words were read, so many, and stand at the start of the table.
pub record Stored (read : Parsed (List ℤ)) (count : ℕ) (table left : List ℤ) : Type 0 where
  pub words : List ℤ
  pub is : read ≡ parsed words
  pub size : count ≡ length words
  pub written : left ≡ over words table

-- What the reader answers.
abbrev pub ReadsStore : Parsed (List ℤ) → Result ℕ ℕ → List ℤ → List ℤ → Type 0
ReadsStore read (Ok count) table left = Stored read count table left
ReadsStore read (Err number) table left = read ≡ malformed number
