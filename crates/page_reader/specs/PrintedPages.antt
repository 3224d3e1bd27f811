-- Printed pages: the page of every legal kernel table is read; nothing but a short table is refused. That the rows are those of the table,
-- up to numbering, is `gives_back` (page_tables/TableLaws).
use Rattle.std.specs.Prelude.{◌≡◌, refl, List, ℕ, ◌*◌, ◌^◌, ◌/◌, ◌≤◌, ◌<◌, leb, ℤ, pos, length, get_or, Ok}
use Rattle.std.proofs.Common.{arith}
use Rattle.std.specs.Int.Signed.{mag}
use borrow.Author.Tests.{le-leb}
use Rattle.words.specs.Word.{pick}
use Rattle.words.specs.Table.{row_count}
use Rattle.words.specs.Laws.{count_fits-facts}
use Rattle.words.specs.Over.{over}
use Rattle.words.specs.declared.Form.TheVariants.{Kernel}
use Rattle.check_kernel.specs.Legal.{Legal}
use Rattle.page.specs.Tables.{table_page, read_table}
use Rattle.page_reader.specs.TableScans.{table-scans}
use Rattle.page_reader.specs.Reads.{PageResult, rows_of, refused_as, answer_and_rows, page_result}

module _ (header rows : List ℤ) (legal : Legal header rows) (words : (i : ℕ) → mag (get_or rows i (pos 0)) < 2 ^ 31) where
  few : row_count rows ≤ 40980
  few = omega (arith, (count_fits-facts Kernel (length rows) legal.structured.count-fits).most)

  pub printed-page-read : (out : List ℤ) → page_result header (table_page header rows) out
      ≡ pick (leb (6 * row_count rows) (length out)) (answer_and_rows (Ok (6 * row_count rows)) (over (rows_of (read_table header (table_page header rows))) out)) (answer_and_rows (refused_as 10 0) out)
  unfolding page_result
  printed-page-read out = rw (legal.header-fits, table-scans header rows legal words, le-leb (row_count rows) 40980 few)
