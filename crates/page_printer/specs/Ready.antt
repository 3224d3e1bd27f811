-- Ready: what the printing and the counting of lines ask.
use Rattle.std.specs.Prelude.{List, [], ◌∷◌, ℕ, ◌+◌, ◌*◌, ◌≤◌, ◌<◌, ℤ, length}
use Rattle.words.specs.Table.{row_count}
use Rattle.page.specs.declared.Sizes.{Sizes}
use Rattle.page.specs.Lines.{Indented, indented}
use Rattle.page.specs.Page.{line_words, parted}
use Rattle.page_line.specs.Reads.{Readable}

-- Each line fits: 5 + 1 + 36 columns stand before what it says.
unfoldable pub Narrow : Sizes → List Indented → Type 0
Narrow sizes [] = Unit {0}
Narrow sizes (indented level line ∷ lines) = (length (parted (line_words sizes line)) ≤ 38) × Narrow sizes lines

-- Lines of a table can be printed into a page behind `done` others; the first stands at a level.
pub record Ready (sizes : Sizes) (rows : List ℤ) (lines : List Indented) (level done : ℕ) (page : List ℕ) : Type 0 where
  pub readable : Readable rows
  pub narrow : Narrow sizes lines
  pub few : done + length lines < 100000
  pub shallow : level + length lines ≤ 100000
  pub room : 81 * (done + length lines) ≤ length page

-- Lines of a table, which begin at a row, can be counted.
pub record Sized (rows : List ℤ) (lines : List Indented) (row : ℕ) : Type 0 where
  pub readable : Readable rows
  pub inside : row < row_count rows
  pub few : length lines < 100000
