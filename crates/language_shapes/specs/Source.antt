-- Sources: what the translator asks of a table of source rows, which the check gives; and what stands at a row of one.
use Rattle.std.specs.Prelude.{◌≡◌, List, ℕ, ◌+◌, ◌≤◌, ◌<◌, ℤ, length}
use Rattle.words.specs.Table.{row_count, number_at}
use Rattle.words.specs.Kinds.{kind_at}
use Rattle.words.specs.Layout.{Layout}
use Rattle.words.specs.declared.Kind.TheVariants.{OfExpression, OfStatement}
use Rattle.words.specs.declared.ExpressionKind.TheVariants.{Variable}
use Rattle.words.specs.declared.StatementKind.TheVariants.{Declare}
use Rattle.write_sets.specs.Named.{Named}
use Rattle.language.specs.Sound.{Sound}
use Rattle.language_shapes.specs.Functions.{SoundFunctions}
use Rattle.language_shapes.specs.Shapes.{PlaceWithin, ExpressionWithin, StatementWithin}
use Rattle.language_shapes.specs.declared.PlaceShape.{PlaceShape}
use Rattle.language_shapes.specs.declared.ExpressionShape.{ExpressionShape}
use Rattle.language_shapes.specs.declared.StatementShape.{StatementShape}

-- The store words that a name can mean: S, which is at most 8,192, and 64 declared words.
abbrev pub most_words : ℕ
most_words = 8256

abbrev pub most_arrays : ℕ
most_arrays = 32

-- Every name in the rows, of a variable or of a declaration, means a variable or a declared word behind the first S.
pub record NamesFrom (S : ℕ) (rows : List ℤ) : Type 0 where
  pub small : S + 64 ≤ most_words
  pub variables : (row : ℕ) → row < row_count rows → kind_at rows row ≡ OfExpression Variable → Named S (number_at rows row 1)
  pub declared : (row : ℕ) → row < row_count rows → kind_at rows row ≡ OfStatement Declare → Named S (number_at rows row 1)

pub record Source (rows : List ℤ) : Type 0 where
  pub layout : Layout
  pub words : ℕ
  pub sound : Sound rows layout words
  pub few_rows : row_count rows ≤ 2048
  pub store : ℕ
  pub names : NamesFrom store rows
  pub few_arrays : length layout.lengths ≤ most_arrays
  pub functions : SoundFunctions rows

-- A name of the rows: what holds of all of them holds of it. A row that is no place counts as the name 0.
pub record Name (rows : List ℤ) (i : ℕ) : Type 0 where
  pub low : i < most_words
  pub named : (S : ℕ) → NamesFrom S rows → Named S i

abbrev pub PlaceAt : List ℤ → ℕ → PlaceShape → Type 0
PlaceAt rows row place = PlaceWithin rows row (Name rows) most_arrays place

abbrev pub ExpressionAt : List ℤ → ℕ → ExpressionShape → Type 0
ExpressionAt rows row shape = ExpressionWithin rows row (Name rows) most_arrays shape

abbrev pub StatementAt : List ℤ → ℕ → StatementShape → Type 0
StatementAt rows row shape = StatementWithin rows row (Name rows) shape
