-- Printed: lines printed into a page behind others, 81 bytes each.
use Rattle.std.specs.Prelude.{◌≡◌, List, ℕ, ◌+◌, ◌*◌, ◌≤◌, ◌<◌, ℤ, length}
use Rattle.words.specs.Table.{row_count}
use Rattle.page.specs.declared.Sizes.{Sizes}
use Rattle.page.specs.Lines.{Indented}
use Rattle.page.specs.Page.{line_words, parted, lines_bytes}
use Rattle.page_line.specs.declared.LineAt.{LineAt}
use Rattle.page_line.specs.Laid.{Laid}
use Rattle.page_line.specs.Reads.{Readable}
use Rattle.page_line.specs.Contents.{line_tree, LineInside}

-- A line can be read from the table, five columns hold its number, it fits 80 columns, and the page has room for it.
pub record LineRoom (sizes : Sizes) (rows : List ℤ) (line : LineAt) (done : ℕ) (page : List ℕ) : Type 0 where
  pub readable : Readable rows
  pub inside : LineInside (row_count rows) line
  pub few : done + 1 < 100000
  pub narrow : length (parted (line_words sizes (line_tree rows line))) ≤ 38
  pub room : 81 * (done + 1) ≤ length page

-- Lines were printed behind `done` others, which makes `next`, and leaves the page `left`.
pub record Printed (sizes : Sizes) (lines : List Indented) (page : List ℕ) (done next : ℕ) (left : List ℕ) : Type 0 where
  pub columns : length (lines_bytes sizes (done + 1) lines) ≡ 81 * length lines
  pub count : next ≡ done + length lines
  pub laid : Laid (lines_bytes sizes (done + 1) lines) page (81 * done) (81 * next) left
