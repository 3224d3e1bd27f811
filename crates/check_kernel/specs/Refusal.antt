-- Refusal: what the check of kernel programs answers.
use Rattle.std.specs.Prelude.{List, ℤ, Result}
use Rattle.words.specs.Refusals.{NumberedRefusal}
use Rattle.words.specs.declared.Form.TheVariants.{Kernel}
use Rattle.words.specs.Search.{lowest_row}
use Rattle.check_structure.specs.Links.{too_deep}
use Rattle.check_structure.specs.Refusal.{at, ◌next◌, structural_refusal}
use Rattle.check_kernel_statements.specs.Statements.{not_kernel_form}
use Rattle.check_declaration_causes.specs.Causes.{declared_before}
use Rattle.check_function_causes.specs.Causes.{returns_outside, function_refusal}
use Rattle.check_labels.specs.Labels.{label_fault}

-- Causes 9, 12 and 13.
unfoldable pub form_causes : List ℤ → Result (Unit {0}) NumberedRefusal
form_causes rows =
    at 9 (lowest_row rows (too_deep Kernel rows))
    next at 12 (lowest_row rows (not_kernel_form rows))
    next at 13 (lowest_row rows (label_fault rows))

-- The causes after those that both forms share: 7 for a return; 9, 12 and 13; 19 for two parameters of one function; those of functions, 23
-- and 24.
unfoldable pub kernel_causes : List ℤ → Result (Unit {0}) NumberedRefusal
kernel_causes rows =
    at 7 (lowest_row rows (returns_outside rows))
    next form_causes rows
    next at 19 (lowest_row rows (declared_before rows))
    next function_refusal rows

-- "The check takes causes in order of number, then the lowest row": 1 to 6, which both forms share, then 7, 9, 12, 13, 19, 23 and 24.
-- (Cause 8, and 7 for other rows, are of kinds that are not in the kernel language.)
unfoldable pub refusal : List ℤ → List ℤ → Result (Unit {0}) NumberedRefusal
refusal header rows = structural_refusal Kernel header rows next kernel_causes rows
