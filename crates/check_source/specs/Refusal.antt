-- Refusal: what the check of source programs answers.
use Rattle.std.specs.Prelude.{Bool, ◌||◌, List, ℕ, ℤ, Result}
use Rattle.words.specs.Refusals.{NumberedRefusal}
use Rattle.words.specs.declared.Form.TheVariants.{Source}
use Rattle.words.specs.Search.{lowest_row}
use Rattle.check_structure.specs.Links.{too_deep}
use Rattle.check_structure.specs.Refusal.{at, ◌next◌, structural_refusal}
use Rattle.check_places.specs.Places.{misplaced}
use Rattle.check_marks.specs.Marks.{repeated}
use Rattle.check_declaration_causes.specs.Causes.{outside_block, declaration_refusal}
use Rattle.check_function_causes.specs.Causes.{returns_outside, function_refusal}

-- Cause 7: "break, continue, case or default out of place", a declaration that is no item of a block, and "a return outside a function".
unfoldable pub wrongly_placed : List ℤ → ℕ → Bool
wrongly_placed rows row = misplaced rows row || (outside_block rows row || returns_outside rows row)

-- Causes 7 to 9; those of declarations, 18 to 20: "after 9 and before 10"; those of functions, 23 and 24: "both after 20".
unfoldable pub later_refusal : List ℤ → Result (Unit {0}) NumberedRefusal
later_refusal rows =
    at 7 (lowest_row rows (wrongly_placed rows))
    next at 8 (lowest_row rows (repeated rows))
    next at 9 (lowest_row rows (too_deep Source rows))
    next declaration_refusal rows
    next function_refusal rows

-- "The check takes causes in order of number, then the lowest row": 1 to 6, which both forms share, then 7, 8 and 9, then 18 to
-- 20, then 23 and 24.
unfoldable pub refusal : List ℤ → List ℤ → Result (Unit {0}) NumberedRefusal
refusal header rows = structural_refusal Source header rows next later_refusal rows
