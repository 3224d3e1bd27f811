-- Known: the words that are known at a row.
use Rattle.std.specs.Prelude.{◌≡◌, List, ℕ, ◌<◌, ℤ}
use Rattle.names.specs.Names.{word_of}
use Rattle.names.specs.Scope.{InScopeOf}
use Rattle.check_function_causes.specs.Demands.{Within}
use Rattle.check_parameter_causes.specs.Demands.{Parameter}

-- The header's variables, the words of the declarations in whose scope the row stands, and those of the parameters of its function. S: the words of
-- the header's variables and arrays.
pub data Known (variables S : ℕ) (rows : List ℤ) (row : ℕ) : ℕ → Type 0 where
  of_header : {word : ℕ} → word < variables → Known variables S rows row word
  of_declaration : {word declaration : ℕ} → InScopeOf rows declaration row → word ≡ word_of S rows declaration → Known variables S rows row word
  of_parameter : {word definition parameter : ℕ} → Within rows definition row → Parameter rows definition parameter → word ≡ word_of S rows parameter → Known variables S rows row word
