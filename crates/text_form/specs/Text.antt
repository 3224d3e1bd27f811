-- Texts: "TextLine 1: V and the array lengths (kernel: V, T, lengths). Each further line is a row's six fields."
use Rattle.std.specs.Prelude.{Bool, ◌&&◌, List, [], ◌∷◌, ◌++◌, ℕ, zero, suc, ◌+◌, leb, eqb, ℤ, length, take, drop, None, Option, Some}
use Rattle.words.specs.Word.{pick}
use Rattle.words.specs.Layout.{leading}
use Rattle.words.specs.Table.{row_count}
use Rattle.words.specs.declared.Form.{Form}
use Rattle.text_lines.specs.Line.{line_bytes, TextLine, lines_of, line_numbers}

-- ---- writing

-- The bytes of so many rows, each of `width` words.
unfoldable pub rows_bytes : ℕ → ℕ → List ℤ → List ℕ
rows_bytes width zero rows = []
rows_bytes width (suc count) rows = line_bytes (take width rows) ++ rows_bytes width count (drop width rows)

-- The text of a header and so many rows of `width` words.
unfoldable pub table_bytes : ℕ → ℕ → List ℤ → List ℤ → List ℕ
table_bytes width count header rows = line_bytes header ++ rows_bytes width count rows

-- The text of a header and rows: "a row's six fields".
abbrev pub text_bytes : List ℤ → List ℤ → List ℕ
text_bytes header rows = table_bytes 6 (row_count rows) header rows

-- ---- reading

-- Numbers that a test lets through.
unfoldable pub keep : (List ℤ → Bool) → Option (List ℤ) → Option (List ℤ)
keep test None = None
keep test (Some numbers) = pick (test numbers) (Some numbers) None

-- "A first line of more than 33 numbers (kernel: 34) or too few" is malformed; Change 11: in the kernel's "35 numbers". V (kernel: V, D and T), and
-- up to 32 lengths.
abbrev pub header_sized : Form → List ℤ → Bool
header_sized form numbers = leb (leading form) (length numbers) && leb (length numbers) (leading form + 32)

unfoldable pub header_line : Form → TextLine → Option (List ℤ)
header_line form line = keep (header_sized form) (line_numbers line)

abbrev pub row_sized : ℕ → List ℤ → Bool
row_sized width numbers = eqb (length numbers) width

unfoldable pub row_line : ℕ → TextLine → Option (List ℤ)
row_line width line = keep (row_sized width) (line_numbers line)

-- What a text gives, or its first malformed line.
pub data Parsed (A : Type 0) : Type 0 where
  parsed : A → Parsed A
  malformed : ℕ → Parsed A

-- A line of this number gave words or was malformed, and so did the lines behind it.
unfoldable pub with_row : ℕ → Option (List ℤ) → Parsed (List ℤ) → Parsed (List ℤ)
with_row number None others = malformed number
with_row number (Some row) (parsed rows) = parsed (row ++ rows)
with_row number (Some row) (malformed later) = malformed later

-- The words of the rows, of `width` words each, whose lines have this number and those that follow.
unfoldable pub rows_from : ℕ → ℕ → List TextLine → Parsed (List ℤ)
rows_from width number [] = parsed []
rows_from width number (line ∷ lines) = with_row number (row_line width line) (rows_from width (number + 1) lines)

pub record Program : Type 0 where
  pub header : List ℤ
  pub rows : List ℤ

unfoldable pub with_header : Option (List ℤ) → Parsed (List ℤ) → Parsed Program
with_header None others = malformed 1
with_header (Some header) (parsed rows) = parsed (record { header = header; rows = rows })
with_header (Some header) (malformed later) = malformed later

-- "The first such line is named, 1 for an empty text."
unfoldable pub program_of : ℕ → Form → List TextLine → Parsed Program
program_of width form [] = malformed 1
program_of width form (first ∷ others) = with_header (header_line form first) (rows_from width 2 others)

-- The header and the rows of `width` words that a text gives.
unfoldable pub parse_table : ℕ → Form → List ℕ → Parsed Program
parse_table width form text = program_of width form (lines_of text)

-- The header and the rows that a text gives.
abbrev pub parse : Form → List ℕ → Parsed Program
parse form text = parse_table 6 form text
