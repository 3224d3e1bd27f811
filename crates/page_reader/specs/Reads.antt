-- Reads: what reading a page with a header answers, in numbers too, and what stands in the table after it.
use Rattle.std.specs.Prelude.{◌≡◌, List, [], ℕ, ◌*◌, ◌≤◌, leb, ℤ, length, take, Err, Ok, Result, None, Option, Some}
use Rattle.words.specs.Refusals.{NumberedRefusal}
use Rattle.words.specs.Word.{pick}
use Rattle.words.specs.Layout.{header_fits, row_limit}
use Rattle.words.specs.Numbers.{Numbers, done, refused}
use Rattle.words.specs.Over.{over}
use Rattle.words.specs.declared.Form.TheVariants.{Kernel}
use Rattle.page.specs.Tables.{read_table}
use Rattle.page_blocks.specs.Scans.{scan, names_of}

-- The words of the rows, or the refusal.
abbrev pub page_numbers : Result ℕ NumberedRefusal → Numbers
page_numbers (Ok words) = done words 0
page_numbers (Err refusal) = refused refusal.number refusal.place

abbrev pub refused_as : (number place : ℕ) → Result ℕ NumberedRefusal
refused_as number place = Err (record { number = number; place = place })

-- What reading a page gives: its answer, that answer in numbers, and the table that it leaves.
pub record PageResult : Type 0 where
  pub answer : Result ℕ NumberedRefusal
  pub numbers : Numbers
  pub rows : List ℤ

abbrev pub answer_and_rows : Result ℕ NumberedRefusal → List ℤ → PageResult
answer_and_rows answer rows = record { answer = answer; numbers = page_numbers answer; rows = rows }

-- The rows that a page is read as; none where it is no page.
abbrev pub rows_of : Option (List ℤ) → List ℤ
rows_of None = []
rows_of (Some rows) = rows

-- "Up to 40,980 rows" have room, or 2 and 10. Words beyond the rows keep their content; a refusal changes none.
abbrev pub read_scanned : Result ℕ ℕ → (header : List ℤ) (page : List ℕ) (rows : List ℤ) → PageResult
read_scanned (Err line) header page rows = answer_and_rows (refused_as 14 line) rows
read_scanned (Ok count) header page rows =
    pick (leb count (row_limit Kernel))
    (pick (leb (6 * count) (length rows)) (answer_and_rows (Ok (6 * count)) (over (rows_of (read_table header page)) rows)) (answer_and_rows (refused_as 10 0) rows))
    (answer_and_rows (refused_as 2 0) rows)

-- 1, then 14 with the first wrong line, 2, 10.
unfoldable pub page_result : (header : List ℤ) (page : List ℕ) (rows : List ℤ) → PageResult
page_result header page rows = pick (header_fits Kernel header) (read_scanned (scan (names_of header) page) header page rows) (answer_and_rows (refused_as 1 0) rows)

-- The first words of the table, as many as the answer says, are the rows that page/Tables reads from the page.
pub record GaveRows (header : List ℤ) (page : List ℕ) (words : ℕ) (left : List ℤ) : Type 0 where
  pub inside : words ≤ length left
  pub read : read_table header page ≡ Some (take words left)

-- The same by the answer; a refusal writes nothing.
abbrev pub GivesRows : (header : List ℤ) (page : List ℕ) → Result ℕ NumberedRefusal → (left : List ℤ) → Type 0
GivesRows header page (Ok words) left = GaveRows header page words left
GivesRows header page (Err refusal) left = Unit {0}
