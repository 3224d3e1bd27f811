-- Brief: what the checks answer, by tests that cost less to compute on a small table: the rows that are linked are listed once, and depth is
-- looked at only where there are more rows than levels are allowed.
use Rattle.std.specs.Prelude.{List, [], ◌∷◌, ℕ, zero, suc, ◌+◌, ◌*◌, leb, eqb, ℤ, length, None, Option, Result}
use Rattle.words.specs.Refusals.{NumberedRefusal}
use Rattle.words.specs.Word.{pick, one}
use Rattle.words.specs.Table.{row_count}
use Rattle.words.specs.Layout.{header_fits, count_fits, depth_limit}
use Rattle.words.specs.Links.{target}
use Rattle.words.specs.Search.{lowest_row, some_field}
use Rattle.words.specs.declared.Form.{Form}
use Rattle.words.specs.declared.Form.TheVariants.{Source, Kernel}
use Rattle.check_fields.specs.Fields.{foreign, mislinked, bounds_of, outside}
use Rattle.check_structure.specs.Links.{not_once, too_deep}
use Rattle.check_structure.specs.Refusal.{at, unless, ◌next◌}
use Rattle.check_marks.specs.Marks.{repeated}
use Rattle.check_declaration_causes.specs.Causes.{declared_before, declaration_refusal}
use Rattle.check_function_causes.specs.Causes.{returns_outside, function_refusal}
use Rattle.check_source.specs.Refusal.{wrongly_placed}
use Rattle.check_kernel_statements.specs.Statements.{not_kernel_form}
use Rattle.check_labels.specs.Labels.{label_fault}

-- The rows that the first words link.
unfoldable pub targets : List ℤ → ℕ → List ℕ
targets rows zero = []
targets rows (suc word) = target rows word ∷ targets rows word

-- How often a row is among them.
unfoldable pub times : List ℕ → ℕ → ℕ
times [] row = 0
times (linked ∷ rest) row = times rest row + one (eqb linked row)

-- Causes 3 to 6, with the rows that are linked.
unfoldable pub brief_causes : Form → List ℤ → List ℤ → List ℕ → Result (Unit {0}) NumberedRefusal
brief_causes form header rows linked =
    at 3 (lowest_row rows (λ row. some_field (foreign form rows row)))
    next at 4 (lowest_row rows (λ row. some_field (mislinked rows row)))
    next at 5 (lowest_row rows (λ row. not_once rows (times linked row) row))
    next at 6 (lowest_row rows (λ row. some_field (outside (bounds_of form header) rows row)))

-- Causes 1 to 6.
unfoldable pub brief_structure : Form → List ℤ → List ℤ → Result (Unit {0}) NumberedRefusal
brief_structure form header rows =
    unless (header_fits form header) 1
    next unless (count_fits form (length rows)) 2
    next brief_causes form header rows (targets rows (6 * row_count rows))

-- The lowest row that is too deep, where there may be one.
unfoldable pub brief_depth : Form → List ℤ → Option ℕ
brief_depth form rows = pick (leb (row_count rows) (depth_limit form)) None (lowest_row rows (too_deep form rows))

-- What the check of source programs answers.
unfoldable pub brief_source : List ℤ → List ℤ → Result (Unit {0}) NumberedRefusal
brief_source header rows =
    brief_structure Source header rows
    next at 7 (lowest_row rows (wrongly_placed rows))
    next at 8 (lowest_row rows (repeated rows))
    next at 9 (brief_depth Source rows)
    next declaration_refusal rows
    next function_refusal rows

-- What the check of kernel programs answers.
unfoldable pub brief_kernel : List ℤ → List ℤ → Result (Unit {0}) NumberedRefusal
brief_kernel header rows =
    brief_structure Kernel header rows
    next at 7 (lowest_row rows (returns_outside rows))
    next (at 9 (brief_depth Kernel rows) next at 12 (lowest_row rows (not_kernel_form rows)) next at 13 (lowest_row rows (label_fault rows)))
    next at 19 (lowest_row rows (declared_before rows))
    next function_refusal rows
