-- Tables: the page of a kernel table, and the rows that a page is read as with the table's header.
use Rattle.std.specs.Prelude.{List, ◌≡◌, false, ℕ, ◌<◌, ℤ, Option, Some}
use Rattle.words.specs.Table.{row_count, word_at, number_at}
use Rattle.words.specs.Kinds.{is_link, sort_at}
use Rattle.words.specs.Links.{link}
use Rattle.check_structure.specs.Structured.{EachField}
use Rattle.words.specs.Layout.{layout_of, store_size, declared_of}
use Rattle.words.specs.declared.Form.TheVariants.{Kernel}
use Rattle.language.specs.Trees.{block}
use Rattle.language.specs.Decode.{decode}
use Rattle.language.specs.Program.{contents}
use Rattle.language_emission.specs.Emission.{emit}
use Rattle.page.specs.declared.Sizes.{Sizes}
use Rattle.page.specs.Lines.{Indented, items_lines}
use Rattle.page.specs.Page.{page_bytes}
use Rattle.page.specs.Reading.{bind, read_page}

-- S and D of a kernel header.
abbrev pub sizes_of : List ℤ → Sizes
sizes_of header = record { store = store_size (layout_of Kernel header); declared = declared_of Kernel header }

-- The lines of a table, in any numbering of its rows: they follow the links.
abbrev pub table_lines : List ℤ → List Indented
table_lines rows = items_lines 0 (contents rows)

unfoldable pub table_page : List ℤ → List ℤ → List ℕ
table_page header rows = page_bytes (sizes_of header) (contents rows)

-- The rows are numbered in the order of the page: each statement's row, then those of its parts.
unfoldable pub read_table : List ℤ → List ℕ → Option (List ℤ)
read_table header page = bind (read_page (sizes_of header) page) (λ items. Some (emit (block items)))

-- "The same rows, up to numbering", twice: the same tree, in as many rows;
pub record SameProgram (rows other : List ℤ) : Type 0 where
  pub same_tree : decode other ≡ decode rows
  pub as_many : row_count other ≡ row_count rows

-- and the same rows under other numbers: a map of the row numbers, one to one, 0 to 0. Links are mapped; every other field names the
-- same number, and a constant has the same word.
pub record Renumbered (rows other : List ℤ) : Type 0 where
  pub to : ℕ → ℕ
  pub from : ℕ → ℕ
  pub first : to 0 ≡ 0
  pub inside : (row : ℕ) → row < row_count rows → to row < row_count other
  pub inside_back : (row : ℕ) → row < row_count other → from row < row_count rows
  pub back : (row : ℕ) → row < row_count rows → from (to row) ≡ row
  pub forth : (row : ℕ) → row < row_count other → to (from row) ≡ row
  pub kinds_kept : (row : ℕ) → row < row_count rows → number_at other (to row) 0 ≡ number_at rows row 0
  pub links_mapped : EachField rows (λ row field. link other (to row) field ≡ to (link rows row field))
  pub numbers_kept : EachField rows (λ row field. is_link (sort_at rows row field) ≡ false → number_at other (to row) field ≡ number_at rows row field)
  pub constants_kept : (row : ℕ) → row < row_count rows → number_at rows row 0 ≡ 1 → word_at other (to row) 1 ≡ word_at rows row 1

-- What a page gives back.
pub record GivenBack (header rows : List ℤ) (page : List ℕ) : Type 0 where
  pub given : List ℤ
  pub read : read_table header page ≡ Some given
  pub same_program : SameProgram rows given
  pub renumbered : Renumbered rows given
