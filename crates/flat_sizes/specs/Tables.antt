-- Tables: the number of lines from each row on, the line at which each row stands, and the line of each label, in tables of 16-bit numbers.
use Rattle.std.specs.Prelude.{◌≡◌, true, List, ℕ, ◌≤◌, ◌<◌, eqb, ℤ, length, get_or, set}
use Rattle.words.specs.Word.{pick}
use Rattle.words.specs.Table.{row_count, number_at}
use Rattle.words.specs.Links.{is_statement, link}
use Rattle.language.specs.Decode.{items_at}
use Rattle.language.specs.Program.{contents}
use Rattle.check_structure.specs.Structured.{Leads}
use Rattle.flat_fate.specs.Code.{items_lines}
use Rattle.flat_fate.specs.Addresses.{address_in}
use Rattle.flat_rows.specs.Places.{line_of}

-- The number at a link; 0 is no link.
abbrev pub slot : List ℕ → ℕ → ℕ
slot table l = pick (eqb l 0) 0 (get_or table l 0)

-- The sizes of the rows from row k on: the lines of the list that begins at the row.
pub record Sized (rows : List ℤ) (k : ℕ) (sizes : List ℕ) : Type 0 where
  pub room : row_count rows ≤ length sizes
  pub sized : (row : ℕ) → k ≤ row → row < row_count rows → is_statement rows row ≡ true → get_or sizes row 0 ≡ items_lines (items_at rows row)

-- A row has its line.
abbrev pub Right : List ℤ → List ℕ → ℕ → Type 0
Right rows lines row = get_or lines row 0 ≡ line_of rows row

-- The row that a field links, if it is a statement, has its line.
abbrev pub Handed : List ℤ → List ℕ → ℕ → ℕ → Type 0
Handed rows lines row field = Leads rows row field → is_statement rows (link rows row field) ≡ true → Right rows lines (link rows row field)

-- The lines of row 0 and of the statements that the rows below k link.
pub record LinesPlaced (rows : List ℤ) (k : ℕ) (lines : List ℕ) : Type 0 where
  pub room : row_count rows ≤ length lines
  pub root : Right rows lines 0
  pub linked : (row field : ℕ) → row < k → field < 6 → Handed rows lines row field

-- What one step leaves: rows that have their line keep it.
pub record Keeps (rows : List ℤ) (before after : List ℕ) : Type 0 where
  pub same_length : length after ≡ length before
  pub kept : (row : ℕ) → Right rows before row → Right rows after row

-- The parts of a row have their lines: all links but next.
pub record PartsPlaced (rows : List ℤ) (row : ℕ) (before after : List ℕ) : Type 0 where
  pub keeps : Keeps rows before after
  pub parts : (field : ℕ) → field < 5 → Handed rows after row field

-- The item behind a row has its line.
pub record NextPlaced (rows : List ℤ) (row : ℕ) (before after : List ℕ) : Type 0 where
  pub keeps : Keeps rows before after
  pub behind : Handed rows after row 5

-- The lines of the labels in the rows below k.
pub record Labelled (rows : List ℤ) (k : ℕ) (labels : List ℕ) : Type 0 where
  pub room : 40980 ≤ length labels
  pub labelled : (row : ℕ) → row < k → row < row_count rows → number_at rows row 0 ≡ 53 → get_or labels (number_at rows row 1) 0 ≡ address_in (contents rows) (number_at rows row 1)

-- What is left where a line is stored for the row at a link.
abbrev pub stored : List ℕ → ℕ → ℕ → List ℕ
stored table l line = pick (eqb l 0) table (set table l line)
