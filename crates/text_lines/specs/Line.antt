-- Lines: "Fields are parted by one tab; each line ends in a newline".
use Rattle.std.specs.Prelude.{List, [], ◌∷◌, ◌++◌, map, ℕ, eqb, ℤ, None, Option, Some}
use Rattle.words.specs.Word.{pick}
use Rattle.text_numbers.specs.Number.{number_bytes, number_of}

abbrev pub tab : ℕ
tab = 9

abbrev pub newline : ℕ
newline = 10

-- ---- writing

-- Fields, a tab between each two.
unfoldable pub parted : List (List ℕ) → List ℕ
parted [] = []
parted (field ∷ []) = field
parted (field ∷ (second ∷ others)) = field ++ (tab ∷ parted (second ∷ others))

-- The bytes of a line of numbers.
unfoldable pub line_bytes : List ℤ → List ℕ
line_bytes numbers = parted (map number_bytes numbers) ++ (newline ∷ [])

-- ---- reading

-- The same fields with a byte more at the start of the first.
abbrev pub longer_field : ℕ → List (List ℕ) → List (List ℕ)
longer_field byte [] = (byte ∷ []) ∷ []
longer_field byte (field ∷ fields) = (byte ∷ field) ∷ fields

-- The fields that the tabs of a line part: one more than it has tabs.
unfoldable pub fields_of : List ℕ → List (List ℕ)
fields_of [] = [] ∷ []
fields_of (byte ∷ bytes) = pick (eqb byte tab) ([] ∷ fields_of bytes) (longer_field byte (fields_of bytes))

-- A line without its newline; the bytes behind a text's last newline are a line that lacks its own.
pub data TextLine : Type 0 where
  ended : List ℕ → TextLine
  unended : List ℕ → TextLine

-- The same lines with a byte more at the start of the first.
abbrev pub longer_line : ℕ → List TextLine → List TextLine
longer_line byte [] = unended (byte ∷ []) ∷ []
longer_line byte (ended line ∷ lines) = ended (byte ∷ line) ∷ lines
longer_line byte (unended line ∷ lines) = unended (byte ∷ line) ∷ lines

-- The lines of a text.
unfoldable pub lines_of : List ℕ → List TextLine
lines_of [] = []
lines_of (byte ∷ bytes) = pick (eqb byte newline) (ended [] ∷ lines_of bytes) (longer_line byte (lines_of bytes))

-- All of them, where there is none missing.
unfoldable pub together : {A : Type 0} → Option A → Option (List A) → Option (List A)
together (Some first) (Some others) = Some (first ∷ others)
together (Some first) None = None
together None others = None

unfoldable pub numbers_of : List (List ℕ) → Option (List ℤ)
numbers_of [] = Some []
numbers_of (field ∷ fields) = together (number_of field) (numbers_of fields)

-- The numbers of a line; none where it is malformed.
unfoldable pub line_numbers : TextLine → Option (List ℤ)
line_numbers (ended line) = numbers_of (fields_of line)
line_numbers (unended line) = None
