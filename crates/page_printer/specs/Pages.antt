-- Pages: what the printer answers, and what it leaves in the page.
use Rattle.std.specs.Prelude.{◌≡◌, List, ℕ, ◌*◌, ◌^◌, ◌<◌, leb, ℤ, pos, length, get_or, take, Ok, Result, None, Option, Some}
use Rattle.words.specs.Refusals.{NumberedRefusal}
use Rattle.std.specs.Int.Signed.{mag}
use Rattle.text_form.specs.Answers.{WriteResult, write_bytes, cause_unless}
use Rattle.page.specs.Tables.{table_lines, table_page, GivenBack}

-- Words of 32 bits.
pub record Worded (words : List ℤ) : Type 0 where
  pub fits : (i : ℕ) → mag (get_or words i (pos 0)) < 2 ^ 31

-- "A short page buffer gets 10." Bytes beyond the page keep their content.
unfoldable pub print_accepted : List ℤ → List ℤ → List ℕ → WriteResult
print_accepted header rows page = write_bytes (cause_unless (leb (length (table_page header rows)) (length page)) 10 None) (table_page header rows) page

-- What was printed is lines of 80 columns and a newline, and gives back the table, up to numbering.
pub record PageReads (header rows : List ℤ) (answer : Result ℕ NumberedRefusal) (page : List ℕ) : Type 0 where
  pub columns : (size : ℕ) → answer ≡ Ok size → size ≡ 81 * length (table_lines rows)
  pub gives_back : (size : ℕ) → answer ≡ Ok size → GivenBack header rows (take size page)
