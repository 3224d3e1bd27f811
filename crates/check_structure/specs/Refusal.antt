-- Refusal: the causes in order of number, each at the lowest row that breaks it. Here those from 1 to 6, which both forms share.
use Rattle.std.specs.Prelude.{Bool, List, ℕ, ℤ, length, Err, None, Ok, Option, Result, Some}
use Rattle.words.specs.Refusals.{NumberedRefusal}
use Rattle.words.specs.Word.{pick}
use Rattle.words.specs.Layout.{header_fits, count_fits}
use Rattle.words.specs.declared.Form.{Form}
use Rattle.words.specs.Search.{lowest_row, some_field}
use Rattle.check_fields.specs.Fields.{foreign, mislinked, bounds_of, outside}
use Rattle.check_structure.specs.Links.{link_count, not_once}
use Rattle.check_fields.specs.declared.Bounds.{Bounds}

-- A cause that some row breaks, with that row as its place.
unfoldable pub at : ℕ → Option ℕ → Result (Unit {0}) NumberedRefusal
at cause (Some row) = Err (record { number = cause; place = row })
at cause None = (Ok tt)

-- A cause without a row: its place is 0.
unfoldable pub unless : Bool → ℕ → Result (Unit {0}) NumberedRefusal
unless test cause = pick test (Ok tt) (Err (record { number = cause; place = 0 }))

infixr 10 ◌next◌
-- "The check takes causes in order of number".
unfoldable pub ◌next◌ : Result (Unit {0}) NumberedRefusal → Result (Unit {0}) NumberedRefusal → Result (Unit {0}) NumberedRefusal
(Ok tt) next rest = rest
(Err refusal) next rest = Err refusal

-- Causes 3 to 6.
unfoldable pub row_causes : Form → Bounds → List ℤ → Result (Unit {0}) NumberedRefusal
row_causes form bounds rows =
    at 3 (lowest_row rows (λ row. some_field (foreign form rows row)))
    next at 4 (lowest_row rows (λ row. some_field (mislinked rows row)))
    next at 5 (lowest_row rows (λ row. not_once rows (link_count rows row) row))
    next at 6 (lowest_row rows (λ row. some_field (outside bounds rows row)))

unfoldable pub structural_refusal : Form → List ℤ → List ℤ → Result (Unit {0}) NumberedRefusal
structural_refusal form header rows =
    unless (header_fits form header) 1
    next unless (count_fits form (length rows)) 2
    next row_causes form (bounds_of form header) rows
