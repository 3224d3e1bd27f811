-- Laws of pages: a legal table is ready to be counted and printed; what was printed is its page, and is read back.
use Rattle.std.specs.Prelude.{Result, ◌≡◌, refl, List, [], ◌∷◌, ℕ, ◌+◌, ◌*◌, ◌^◌, ◌≤◌, ◌<◌, ltb, ℤ, pos, length, get_or, take, Err, Ok}
use Rattle.std.proofs.Math.Path.{sym, ap}
use Rattle.std.proofs.Common.{subst, ◌∙◌, arith}
use Rattle.std.proofs.Math.Bool.{true, false}
use Rattle.std.proofs.Math.Dec.{leb}
use Rattle.std.specs.Int.Signed.{mag}
use Rattle.std.proofs.Math.ListN.{get_or-eq_default}
use borrow.Author.Tests.{le-leb, lt-leb, ltb-true, ltb-false}
use Rattle.words.specs.Table.{row_count}
use Rattle.words.specs.Layout.{layout_of, header_store}
use Rattle.words.specs.Laws.{count_fits-facts, by_cases}
use Rattle.words.specs.Over.{over}
use Rattle.words.specs.OverLaws.{take-over}
use Rattle.words.specs.declared.Form.TheVariants.{Kernel}
use Rattle.words.specs.Refusals.{NumberedRefusal}
use Rattle.text_form.specs.Answers.{Writes, write_bytes, cause_unless, write_outcome}
use Rattle.language.specs.Decode.{statement_at, list_at, decode}
use Rattle.language.specs.Program.{contents}
use Rattle.check_kernel.specs.Legal.{Legal}
use Rattle.accepted.proofs.Sound.{header-sound}
use Rattle.accepted_kernel.proofs.Kernel.{legal-block}
use Rattle.page.specs.declared.Sizes.{Sizes}
use Rattle.page.specs.Lines.{Indented, indented, branch_lines, items_lines, statement_lines}
use Rattle.page.specs.Page.{name, page_bytes, lines_bytes}
use Rattle.page.proofs.Fits.{AllFit, all_none, all_more}
use Rattle.page.proofs.Widths.{line-width}
use Rattle.page.specs.Tables.{sizes_of, table_lines, table_page, GivenBack}
use Rattle.page_tables.specs.TableLaws.{lines_fit, name-width, parameter-width, few_arrays, lines-of-rows, page-columns, gives_back}
use Rattle.page_line.specs.Reads.{Readable}
use Rattle.page_line.specs.Printed.{Printed}
use Rattle.page_printer.specs.Outlines.{block_list}
use Rattle.page_printer.specs.Ready.{Narrow, Ready, Sized}
use Rattle.page_printer.specs.Pages.{Worded, print_accepted, PageReads}
use Rattle.page_printer.specs.OutlineLaws.{block-lines, block_inside}

-- ---- words

-- so many words are known to have 32 bits
pub record Passed (words : List ℤ) (i : ℕ) : Type 0 where
  pub passed : (k : ℕ) → k < i → mag (get_or words k (pos 0)) < 2 ^ 31

pub passed_none : (words : List ℤ) → Passed words 0
passed_none words = record { passed = λ k h. absurd (omega arith) }

pub passed-next : {words : List ℤ} {i : ℕ} → Passed words i → mag (get_or words i (pos 0)) < 2 ^ 31 → Passed words (i + 1)
passed-next {words} {i} p h = record {
  passed = λ k b. by_cases (ltb k i) (λ t. p.passed k (ltb-true k i t)) (λ t. let e : k ≡ i = omega (arith, ltb-false k i t) in rw e h);
}

pub passed-all : (words : List ℤ) (i : ℕ) → Passed words i → length words ≤ i → Worded words
passed-all words i p h = record {
  fits = λ k. by_cases (ltb k i) (λ t. p.passed k (ltb-true k i t)) (λ t. rw (get_or-eq_default words (pos 0) {n = k} (omega (arith, ltb-false k i t))) (omega arith));
}

-- ---- tables

-- lines of kernel form are narrow
narrow-fit : {Names Parameters : ℕ → Type 0} {arrays : ℕ} (sizes : Sizes) → ((i : ℕ) → Names i → length (name sizes i) ≤ 5) → ((i : ℕ) → Parameters i → length (name sizes i) ≤ 5) → arrays ≤ 32
    → (lines : List Indented) → AllFit Names arrays Parameters lines → Narrow sizes lines
unfolding Narrow
narrow-fit sizes names parameters few [] all_none = tt
narrow-fit sizes names parameters few (indented level line ∷ lines) (all_more f h) = (omega (arith, line-width sizes names parameters few line f), narrow-fit sizes names parameters few lines h)

module _ (header rows : List ℤ) (legal : Legal header rows) (words : (i : ℕ) → mag (get_or rows i (pos 0)) < 2 ^ 31) where
  readable : Readable rows
  readable = record { layout = layout_of Kernel header; words = header_store Kernel header; sound = header-sound Kernel header rows legal.structured }

  some_rows : 0 < row_count rows
  some_rows = omega (arith, lines-of-rows header rows legal words)

  few_rows : row_count rows ≤ 40980
  few_rows = omega (arith, (count_fits-facts Kernel (length rows) legal.structured.count-fits).most)

  abbrev first : ℕ
  first = block_list rows 0

  abbrev lines : List Indented
  lines = items_lines 0 (list_at rows first)

  -- row 0's block has no lines of its own
  pub table-lines : lines ≡ table_lines rows
  unfolding decode statement_lines
  table-lines = sym (block-lines readable some_rows 0) ∙ ap (branch_lines 0) (legal-block header rows legal)

  few : length lines < 100000
  few = omega (arith, ap length table-lines, lines-of-rows header rows legal words, few_rows)

  pub table-row : 5 < length rows
  table-row = omega (arith, (count_fits-facts Kernel (length rows) legal.structured.count-fits).least)

  pub table-sized : Sized rows lines first
  table-sized = record { readable = readable; inside = block_inside readable some_rows; few = few }

  pub table-ready : (page : List ℕ) → 81 * length lines ≤ length page → Ready (sizes_of header) rows lines 0 0 page × (first < row_count rows)
  table-ready page h = (
    record {
      readable = readable;
      narrow = subst (λ (ls : List Indented). Narrow (sizes_of header) ls) (sym table-lines) (narrow-fit (sizes_of header) (name-width header rows legal words) (parameter-width header rows legal words) (few_arrays header rows legal words) (table_lines rows) (lines_fit header rows legal words));
      few = omega (arith, few);
      shallow = omega (arith, few);
      room = omega (arith, h);
    },
    block_inside readable some_rows,
  )

  abbrev bytes : List ℕ
  bytes = table_page header rows

  size : length bytes ≡ 81 * length lines
  size = omega (arith, page-columns header rows legal words, ap length table-lines)

  -- ---- what the printer answers

  pub short-page : (page : List ℕ) → length page < 81 * length lines → Writes (print_accepted header rows page) (Err (record { number = 10; place = 0 })) page
  unfolding print_accepted write_bytes cause_unless
  short-page page h = let t : leb (length bytes) (length page) ≡ false = lt-leb (length bytes) (length page) (omega (arith, size)) in record { outcome = rw t; text_left = rw t }

  printed-bytes : (page left : List ℕ) (next : ℕ) → Printed (sizes_of header) lines page 0 next left → left ≡ over bytes page
  unfolding table_page page_bytes
  printed-bytes page left next p = rw (← table-lines) p.laid.written

  pub whole-page : (page left : List ℕ) (next : ℕ) → 81 * length lines ≤ length page → Printed (sizes_of header) lines page 0 next left → Writes (print_accepted header rows page) (Ok (81 * length lines)) left
  unfolding print_accepted write_bytes cause_unless
  whole-page page left next h p =
      let t : leb (length bytes) (length page) ≡ true = le-leb (length bytes) (length page) (omega (arith, size)) in
      record { outcome = rw (t, size); text_left = rw t (printed-bytes page left next p) }

  -- ---- what was printed is read back

  pub whole-reads : (page left : List ℕ) (next : ℕ) → Printed (sizes_of header) lines page 0 next left → PageReads header rows (Ok (81 * length lines)) left
  whole-reads page left next p = record {
    columns = λ total e. same total e ∙ ap (λ (ls : List Indented). 81 * length ls) table-lines;
    gives_back = λ total e. subst (λ (l : List ℕ). GivenBack header rows l) (sym (first-bytes total (same total e))) (gives_back header rows legal words);
  }
    where
      same : (total : ℕ) → ◌≡◌ {A = Result ℕ NumberedRefusal} (Ok (81 * length lines)) (Ok total) → total ≡ 81 * length lines
      same total e = let o = ap write_outcome e in cc

      first-bytes : (total : ℕ) → total ≡ 81 * length lines → take total left ≡ bytes
      first-bytes total e = rw (e, ← size, printed-bytes page left next p) (take-over bytes page)

-- a refusal promises nothing of the page
pub refused-reads : (header rows : List ℤ) (refusal : NumberedRefusal) (page : List ℕ) → PageReads header rows (Err refusal) page
refused-reads header rows refusal page = record { columns = λ total e. absurd (never total e); gives_back = λ total e. absurd (never total e) }
  where
    never : (total : ℕ) → Err refusal ≡ Ok total → ⊥
    never total e = let o = ap write_outcome e in let z : ◌≡◌ {A = ℕ} 0 1 = cc in omega arith
