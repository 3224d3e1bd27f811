-- Scope: the rows in a declaration's scope, and those that see a parameter, as relations in the requests' words. The tests are `scope_at` and
-- `parameter_at` (MeaningLaws).
use Rattle.std.specs.Prelude.{◌≡◌, true, List, ℕ, ◌<◌, ℤ}
use Rattle.words.specs.Links.{link}
use Rattle.check_structure.specs.Structured.{Leads}
use Rattle.words.specs.Declarations.{is_declaration}
use Rattle.check_function_causes.specs.Demands.{Within}
use Rattle.check_parameter_causes.specs.Demands.{Parameter}

-- "From its next item to the block's end": the next item, what stands below it, and the items behind it.
pub data InScopeOf (rows : List ℤ) (declaration : ℕ) : ℕ → Type 0 where
  next-item : is_declaration rows declaration ≡ true → Leads rows declaration 5 → InScopeOf rows declaration (link rows declaration 5)
  along : {row field : ℕ} → field < 6 → Leads rows row field → InScopeOf rows declaration row → InScopeOf rows declaration (link rows row field)

-- "Parameters count .. for scope .. as c's first items": the rows of a function see its parameters.
pub record SeesParameter (rows : List ℤ) (row parameter : ℕ) : Type 0 where
  pub definition : ℕ
  pub within : Within rows definition row
  pub of : Parameter rows definition parameter
