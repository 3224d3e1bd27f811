-- Line kinds: the numbers of the flat list's table, one by one.
use Rattle.std.specs.Prelude.{◌≡◌, ℕ, ◌+◌}
use Rattle.words.specs.declared.Operator.{Operator}
use Rattle.language_emission.specs.Emission.{operator_number}

-- The numbers of the table, one by one.
pub data LineKind : ℕ → Type 0 where
  copies : LineKind 1
  fetches : LineKind 3
  negates : LineKind 4
  operates : {k : ℕ} (o : Operator) → k ≡ 6 + operator_number o → LineKind k
  puts : LineKind 21
  jumps_at_zero : LineKind 43
  jumps_otherwise : LineKind 44
  jumps : LineKind 52
  aborts : LineKind 57
