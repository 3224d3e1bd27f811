-- Lines: the lines that the trial program prints, "parted by single blanks", each with a newline at its end.
use Rattle.std.specs.Prelude.{List, [], ◌∷◌, ◌++◌, map, ℕ, ◌+◌, ◌*◌, ℤ}
use Rattle.words.specs.Answers.{ending_name}
use Rattle.words.specs.declared.Ending.{Ending}
use Rattle.text_numbers.specs.Number.{digits, number_bytes}
use Rattle.text_lines.specs.Line.{newline}

abbrev pub blank : ℕ
blank = 32

-- Fields, each with a blank before it.
unfoldable pub spaced : List (List ℕ) → List ℕ
spaced [] = []
spaced (field ∷ fields) = (blank ∷ field) ++ spaced fields

-- A line: its first field, the others, and a newline.
unfoldable pub line_of : List ℕ → List (List ℕ) → List ℕ
line_of first others = first ++ (spaced others ++ (newline ∷ []))

-- "source", "kernel" and "refused", as bytes.
abbrev pub source_name : List ℕ
source_name = 115 ∷ 111 ∷ 117 ∷ 114 ∷ 99 ∷ 101 ∷ []

abbrev pub kernel_name : List ℕ
kernel_name = 107 ∷ 101 ∷ 114 ∷ 110 ∷ 101 ∷ 108 ∷ []

abbrev pub refused_name : List ℕ
refused_name = 114 ∷ 101 ∷ 102 ∷ 117 ∷ 115 ∷ 101 ∷ 100 ∷ []

-- "A refusal prints one line, parted alike: refused, number, place."
unfoldable pub refused_line : ℕ → ℕ → List ℕ
refused_line number place = line_of refused_name (digits number ∷ digits place ∷ [])

-- "Output: form, ending (ended, spent, overflow, zero, index), source count on the first line only, S words, parted by single blanks."
-- Change 7: "The trial's first line gains a last field": how many variables the program can write.
unfoldable pub source_line : Ending → ℕ → List ℤ → ℕ → List ℕ
source_line ending count words written = line_of source_name (ending_name ending ∷ digits count ∷ (map number_bytes words ++ (digits written ∷ [])))

unfoldable pub kernel_line : Ending → List ℤ → List ℕ
kernel_line ending words = line_of kernel_name (ending_name ending ∷ map number_bytes words)

-- Bytes enough for a line with so many words: at most twelve for each with its blank, and forty-eight for what else it has.
abbrev pub line_room : ℕ → ℕ
line_room words = 12 * words + 48
