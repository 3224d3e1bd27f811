-- Passes: which test each cause makes, and what is known of the rows.
use Rattle.std.specs.Prelude.{Bool, List, ℕ, ℤ}
use Rattle.check_structure.specs.Passes.{Notes}
use Rattle.check_function_causes.specs.Functions.{function_at, function_around}
use Rattle.check_function_causes.specs.Causes.{returns_outside, out_of_order, wrong_call}
use Rattle.check_functions.specs.declared.FunctionFault.{FunctionFault}
use Rattle.check_functions.specs.declared.FunctionFault.TheVariants.{ReturnsOutside, OutOfOrder, WrongCall}

unfoldable pub breaks : FunctionFault → List ℤ → ℕ → Bool
breaks ReturnsOutside rows row = returns_outside rows row
breaks OutOfOrder rows row = out_of_order rows row
breaks WrongCall rows row = wrong_call rows row

-- Room for every row's note, and none there yet.
abbrev pub Blank : List ℤ → List ℕ → Type 0
Blank rows notes = Notes rows (λ row. 0) notes

-- The function that each row stands in, and the definition of each number.
pub record Known (rows : List ℤ) (around functions : List ℕ) : Type 0 where
  pub stands : Notes rows (function_around rows) around
  pub defined : Notes rows (function_at rows) functions
