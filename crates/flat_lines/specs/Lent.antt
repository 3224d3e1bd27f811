-- Lent: the tables and the list that the writer is lent, where a row stands, and which rows' lines are written.
use Rattle.std.specs.Prelude.{◌≡◌, List, ℕ, ◌+◌, ◌*◌, ◌≤◌, ◌<◌, ℤ, length}
use Rattle.words.specs.Table.{row_count}
use Rattle.language.specs.Program.{contents}
use Rattle.flat_kernel_rows.specs.KernelTable.{KernelTable}
use Rattle.flat_fate.specs.Addresses.{flat_of}
use Rattle.flat_rows.specs.Places.{line_of, own_lines, Each}
use Rattle.flat_rows.specs.LinesPut.{Holds}
use Rattle.flat_sizes.specs.Tables.{Sized, LinesPlaced, Labelled}

-- A legal kernel table with its sizes, lines and labels.
pub record Tables (rows : List ℤ) (sizes lines labels : List ℕ) : Type 0 where
  pub table : KernelTable rows
  pub sized : Sized rows 0 sizes
  pub placed : LinesPlaced rows (row_count rows) lines
  pub labelled : Labelled rows (row_count rows) labels

-- The list has room for all lines and no more.
abbrev pub Exact : List ℤ → List ℤ → Type 0
Exact rows out = length out ≡ 5 * length (flat_of (contents rows))

-- A row stands at a line of the list.
pub record Standing (rows : List ℤ) (row line : ℕ) (out : List ℤ) : Type 0 where
  pub table : KernelTable rows
  pub inside : row < row_count rows
  pub at : line ≡ line_of rows row
  pub exact : Exact rows out

-- What stands at a row is assigned to a variable, by a line that the list has.
pub record Assigning (rows : List ℤ) (value line target : ℕ) (out : List ℤ) : Type 0 where
  pub table : KernelTable rows
  pub inside : value < row_count rows
  pub room : 5 * line + 5 ≤ length out
  pub few : target < 65536

-- The own lines of the rows below k are written.
pub record Wrote (rows : List ℤ) (k : ℕ) (out : List ℤ) : Type 0 where
  pub exact : Exact rows out
  pub written : (row : ℕ) → row < k → row < row_count rows → Each (Holds out) (own_lines rows row)
