-- Refusal: what refuses a kernel program for the flat list, before its 10: the kernel check's causes, then 25.
use Rattle.std.specs.Prelude.{List, ℤ, Result}
use Rattle.words.specs.Refusals.{NumberedRefusal}
use Rattle.words.specs.Search.{lowest_row}
use Rattle.check_structure.specs.Refusal.{at, ◌next◌}
use Rattle.check_function_causes.specs.Functions.{is_definition}
use Rattle.check_kernel.specs.Refusal.{refusal as kernel_refusal}

-- "The flat list refuses functions with 25 and the first one's row".
unfoldable pub plain_refusal : (header rows : List ℤ) → Result (Unit {0}) NumberedRefusal
plain_refusal header rows = kernel_refusal header rows next at 25 (lowest_row rows (is_definition rows))
