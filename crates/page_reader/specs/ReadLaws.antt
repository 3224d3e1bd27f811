-- Laws of reads: a page without a wrong line is read by page/Tables as the rows of its lines.
use Rattle.std.specs.Prelude.{◌≡◌, true, false, List, ◌++◌, ℕ, ◌+◌, ◌*◌, ◌≤◌, ◌<◌, leb, ℤ, length, take, Ok, Some}
use Rattle.std.proofs.Math.Path.{refl}
use Rattle.std.proofs.Common.{sym, ap, ◌∙◌, arith, le-leb}
use Rattle.std.proofs.lemmas.Bool.{lt-leb}
use Rattle.words.specs.Layout.{header_fits, layout_of, store_size}
use Rattle.words.specs.Laws.{header_fits-facts}
use Rattle.words.specs.Over.{over}
use Rattle.words.specs.OverLaws.{length_over, take-over}
use Rattle.words.specs.declared.Form.TheVariants.{Kernel}
use Rattle.check_fields.specs.Fields.{bounds_of}
use Rattle.page.specs.Tables.{sizes_of, read_table}
use Rattle.page_words.specs.Trees.{Within}
use Rattle.page_words.specs.declared.Names.{Names}
use Rattle.page_blocks.specs.Scans.{scan, lines_in, names_of}
use Rattle.page_blocks.specs.LinesFit.{lines_rows}
use Rattle.page_blocks.proofs.PageLaws.{ReadsAs, scan-reads}
use Rattle.page_rows.specs.Rows.{page_table}
use Rattle.page_rows.proofs.TableLaws.{table-of-page}
use Rattle.page_rows.proofs.SizeLaws.{length-page}
use Rattle.page_reader.specs.Reads.{refused_as, answer_and_rows, read_scanned, GaveRows, GivesRows}
use Rattle.page_reader.specs.Stacks.{Counted}

-- What a header within its limits gives.
module _ (header : List ℤ) (fits : header_fits Kernel header ≡ true) where
  few_variables : (names_of header).variables ≤ 256
  unfolding names_of bounds_of
  few_variables = (header_fits-facts Kernel header fits).few_variables

  few_behind : (names_of header).declared + (names_of header).temporaries ≤ 8256
  unfolding names_of
  few_behind = let f = header_fits-facts Kernel header fits in omega (arith, f.few_declared, f.few_temporaries)

  few_arrays : (names_of header).arrays ≤ 32
  unfolding names_of bounds_of
  few_arrays = (header_fits-facts Kernel header fits).few_arrays

  within : Within (sizes_of header) (names_of header)
  unfolding names_of bounds_of store_size
  within = record { variables_inside = omega arith; same_declared = refl }

module _ (header : List ℤ) (fits : header_fits Kernel header ≡ true) (page : List ℕ) (count : ℕ) (e : scan (names_of header) page ≡ Ok count) where
  abbrev lines-table : List ℤ
  lines-table = page_table (sizes_of header) (lines_in (names_of header) page)

  reads : ReadsAs (names_of header) (few_variables header fits) (few_behind header fits) (few_arrays header fits) (sizes_of header) (within header fits) page count
  reads = scan-reads (names_of header) (few_variables header fits) (few_behind header fits) (few_arrays header fits) (sizes_of header) (within header fits) page count e

  -- The rows that page/Tables reads are those of the lines.
  pub table-read : read_table header page ≡ Some (page_table (sizes_of header) (lines_in (names_of header) page))
  unfolding read_table
  table-read = rw reads.page-read (ap Some (sym (table-of-page (sizes_of header) (lines_in (names_of header) page) reads.items reads.lines-read)))

  table-long : length lines-table ≡ 6 * count
  table-long = length-page (sizes_of header) (lines_in (names_of header) page) ∙ ap (λ (n : ℕ). 6 * n) (sym reads.counted)

  pub counted : (rows : List ℤ) → count ≤ 40980 → 6 * count ≤ length rows → Counted (names_of header) (sizes_of header) page count rows
  counted rows few room = record {
    few_variables = few_variables header fits;
    few_behind = few_behind header fits;
    few_arrays = few_arrays header fits;
    small_sizes = record { small_store = (header_fits-facts Kernel header fits).small_store; few_declared = (header_fits-facts Kernel header fits).few_declared };
    fit = reads.fit;
    all = reads.counted;
    few = few;
    room = room;
  }

  -- ---- the answers

  pub too-many : (rows : List ℤ) → 40980 < count → answer_and_rows (refused_as 2 0) rows ≡ read_scanned (Ok count) header page rows
  too-many rows h = rw (lt-leb count 40980 h)

  pub too-short : (rows : List ℤ) → count ≤ 40980 → length rows < 6 * count → answer_and_rows (refused_as 10 0) rows ≡ read_scanned (Ok count) header page rows
  too-short rows few h = rw (le-leb count 40980 few, lt-leb (6 * count) (length rows) h)

  module _ (rows left : List ℤ) (few : count ≤ 40980) (room : 6 * count ≤ length rows) (written : left ≡ over (page_table (sizes_of header) (lines_in (names_of header) page)) rows) where
    pub all_read : answer_and_rows (Ok (6 * count)) left ≡ read_scanned (Ok count) header page rows
    all_read = rw (le-leb count 40980 few, le-leb (6 * count) (length rows) room, table-read) (ap (answer_and_rows (Ok (6 * count))) written)

    pub gave : GaveRows header page (6 * count) left
    gave = record {
      inside = omega (arith, length_over lines-table rows left written (omega (arith, table-long)));
      read = table-read ∙ ap Some (sym (take-over lines-table rows) ∙ ap (λ (n : ℕ). take n (over lines-table rows)) table-long ∙ ap (take (6 * count)) (sym written));
    }
