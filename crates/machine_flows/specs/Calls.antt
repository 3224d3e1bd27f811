-- Calls: the rows of arguments and parameters, and what the code asks of them.
use Rattle.std.specs.Prelude.{◌≡◌, List, ℕ, zero, suc, ◌<◌, ℤ}
use Rattle.words.specs.Table.{number_at}
use Rattle.words.specs.Kinds.{kind_at}
use Rattle.words.specs.declared.Kind.TheVariants.{OfMember}
use Rattle.words.specs.declared.MemberKind.TheVariants.{Argument}
use Rattle.machine_operations.specs.Functions.{ArgumentLinks}
use Rattle.machine_flows.specs.Lists.{InTable}

-- The row is that of an argument, or 0.
pub record ArgumentsAt (rows : List ℤ) (first : ℕ) : Type 0 where
  pub table : InTable rows first
  pub links : ArgumentLinks rows
  pub argument_is : 0 < first → kind_at rows first ≡ OfMember Argument

-- The row so many links behind a first one.
unfoldable pub row_behind : List ℤ → ℕ → ℕ → ℕ
row_behind rows first zero = first
row_behind rows first (suc k) = row_behind rows (number_at rows first 5) k

-- The word that the row names is in a store of so many.
pub record ParameterAt (rows : List ℤ) (row words : ℕ) : Type 0 where
  pub table : InTable rows row
  pub few_words : words < 65536
  pub inside : number_at rows row 1 < words
