-- What each answer of the reader is, by the cause that stands first.
use Rattle.std.specs.Prelude.{Err, Ok, Result}
use Rattle.words.specs.Refusals.{NumberedRefusal}
use mathlib.Core.Path.{◌≡◌, refl, sym, ap, ◌∙◌}
use mathlib.Core.Bool.{true, false}
use mathlib.Core.List.{List}
use Prim.Native.Nat.{ℕ, ◌*◌, ◌≤◌, ◌<◌}
use lib.IntN.{ℤ}
use lib.ListN.{length}
use Rattle.words.specs.Layout.{header_fits}
use Rattle.words.specs.Over.{over}
use Rattle.words.specs.declared.Form.TheVariants.{Kernel}
use Rattle.page.specs.declared.Sizes.{Sizes}
use Rattle.page.specs.Tables.{sizes_of}
use Rattle.page_words.specs.declared.Names.{Names}
use Rattle.page_blocks.specs.Scans.{scan, lines_in, names_of}
use Rattle.page_rows.specs.Rows.{page_table}
use Rattle.page_reader.specs.Reads.{PageResult, refused_as, answer_and_rows, read_scanned, page_result, GaveRows, GivesRows}
use Rattle.page_reader.specs.Stacks.{Counted}
use Rattle.page_reader.specs.ReadLaws.{counted, too-many, too-short, all_read, gave}

-- ---- a page without a wrong line

module _ (header : List ℤ) (fits : header_fits Kernel header ≡ true) (names : Names) (n : names ≡ names_of header) (page : List ℕ) (count : ℕ) (s : scan names page ≡ Ok count) (rows : List ℤ) where
  scanned : scan (names_of header) page ≡ Ok count
  scanned = ap (λ (given : Names). scan given page) (sym n) ∙ s

  pub many-refused : (r : Result ℕ NumberedRefusal) → r ≡ refused_as 2 0 → 40980 < count → (answer_and_rows r rows ≡ read_scanned (Ok count) header page rows) × GivesRows header page r rows
  many-refused r e h = rw e (too-many header fits page count scanned rows h, tt)

  pub short-refused : (r : Result ℕ NumberedRefusal) → r ≡ refused_as 10 0 → count ≤ 40980 → length rows < 6 * count → (answer_and_rows r rows ≡ read_scanned (Ok count) header page rows) × GivesRows header page r rows
  short-refused r e few h = rw e (too-short header fits page count scanned rows few h, tt)

  module _ (sizes : Sizes) (e : sizes ≡ sizes_of header) (few : count ≤ 40980) (room : 6 * count ≤ length rows) where
    pub rows-counted : Counted names sizes page count rows
    rows-counted = rw (n, e) (counted header fits page count scanned rows few room)

    pub whole-read : (left : List ℤ) → left ≡ over (page_table sizes (lines_in names page)) rows → (answer_and_rows (Ok (6 * count)) left ≡ read_scanned (Ok count) header page rows) × GaveRows header page (6 * count) left
    whole-read left w =
        let written : left ≡ over (page_table (sizes_of header) (lines_in (names_of header) page)) rows = rw (n, e) at w in
        (all_read header fits page count scanned rows left few room written, gave header fits page count scanned rows left few room written)

-- ---- all pages

module _ (header : List ℤ) (page : List ℕ) (rows : List ℤ) where
  pub header_refused : (r : Result ℕ NumberedRefusal) → r ≡ refused_as 1 0 → header_fits Kernel header ≡ false → (answer_and_rows r rows ≡ page_result header page rows) × GivesRows header page r rows
  unfolding page_result
  header_refused r e f = rw (e, f) (refl, tt)

  module _ (fits : header_fits Kernel header ≡ true) (names : Names) (n : names ≡ names_of header) (found : Result ℕ ℕ) (s : found ≡ scan names page) where
    pub by-scan : (r : PageResult) → r ≡ read_scanned found header page rows → r ≡ page_result header page rows
    unfolding page_result
    by-scan r e = rw fits (e ∙ ap (λ (x : Result ℕ ℕ). read_scanned x header page rows) (s ∙ ap (λ (given : Names). scan given page) n))

    pub line_refused : (r : Result ℕ NumberedRefusal) (line : ℕ) → r ≡ refused_as 14 line → found ≡ Err line → (answer_and_rows r rows ≡ page_result header page rows) × GivesRows header page r rows
    line_refused r line e w = rw e (by-scan (answer_and_rows (refused_as 14 line) rows) (ap (λ (x : Result ℕ ℕ). read_scanned x header page rows) (sym w)), tt)
