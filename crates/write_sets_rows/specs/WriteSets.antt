-- Write sets: what the table of write sets holds, a set for each source row: the variables and the declared words that the expression
-- at the row can write. S is where the declared words begin.
use Rattle.std.specs.Prelude.{◌≡◌, Bool, false, ◌&&◌, ◌||◌, List, ℕ, zero, suc, ◌+◌, ◌≤◌, ◌<◌, ltb, ℤ, length, get_or}
use Rattle.words.specs.Table.{row_count}
use Rattle.words.specs.Word.{pick}
use Rattle.language.specs.Trees.{Place, Part, absent, present, Arguments, no_more, ◌also◌}
use Rattle.language.specs.Writes.{is_variable, writes, index_writes}
use Rattle.language.specs.Functions.{function_count}
use Rattle.language.specs.Program.{contents}
use Rattle.language.specs.Decode.{expression_at, arguments_at, argument_list_at}
use Rattle.language_shapes.specs.Shapes.{OptionalOnward}
use Rattle.language_shapes.specs.Source.{NamesFrom, Source}
use Rattle.measures_table.specs.Parts.{called_in}
use Rattle.write_sets.specs.Sets.{variable_bits, declared_bits, variable_bit, declared_bit, nothing}
use Rattle.write_sets.specs.declared.WriteSet.{WriteSet}

-- ---- what a set holds

-- The words W, of those that names can mean: the variables, which are below S, and the declared words from S on.
pub record SetIs (S : ℕ) (s : WriteSet) (W : ℕ → Bool) : Type 0 where
  pub variables : (i : ℕ) → i < variable_bits → variable_bit s i ≡ (ltb i S && W i)
  pub declared : (i : ℕ) → i < declared_bits → declared_bit s i ≡ W (S + i)

-- `called f i`: whether function f can write the variable i.
module _ (called : ℕ → ℕ → Bool) where
  -- What an update of a place writes: the variable that it is, and what its index writes.
  abbrev pub place_writes : Place → ℕ → Bool
  place_writes p i = is_variable p i || index_writes called p i

  -- What an expression writes that may be absent.
  abbrev pub part_writes : Part → ℕ → Bool
  part_writes absent i = false
  part_writes (present e) i = writes called e i

  -- What the first of the arguments writes.
  abbrev pub first_writes : Arguments → ℕ → Bool
  first_writes no_more i = false
  first_writes (e also arguments) i = writes called e i

-- The arguments behind the first.
abbrev pub behind_first : Arguments → Arguments
behind_first no_more = no_more
behind_first (e also arguments) = arguments

-- The row of the argument behind the one at a row.
pub record NextArgument (rows : List ℤ) (row next : ℕ) : Type 0 where
  pub is : argument_list_at rows next ≡ behind_first (arguments_at rows row)
  pub onward : OptionalOnward rows row next

-- ---- the table

-- The set of a row.
abbrev pub set_of : List WriteSet → ℕ → WriteSet
set_of sets row = get_or sets row nothing

-- The same by a link; 0 is absent and writes nothing.
abbrev pub set_at : List WriteSet → ℕ → WriteSet
set_at sets zero = nothing
set_at sets (suc link) = set_of sets (suc link)

-- The set of a function, which stands at its number; those from `known` on are taken to write nothing.
abbrev pub function_set : List WriteSet → ℕ → ℕ → WriteSet
function_set sets known f = pick (ltb f known) (set_of sets f) nothing

-- The set that a link leads to is in the table.
abbrev pub SetHeld : List WriteSet → ℕ → Type 0
SetHeld sets link = 0 < link → link < length sets

-- The functions below `known` have their sets.
pub record FunctionSets (S : ℕ) (rows : List ℤ) (sets : List WriteSet) (known : ℕ) : Type 0 where
  pub function-set : (f : ℕ) → f < known → f < function_count (contents rows) → SetIs S (set_of sets f) (called_in rows f)

-- The rows from `least` on have their sets.
pub record SetsFrom (S : ℕ) (rows : List ℤ) (sets : List WriteSet) (least : ℕ) : Type 0 where
  pub source : Source rows
  pub names : NamesFrom S rows
  pub room : row_count rows ≤ length sets
  pub row_set : (row : ℕ) → least ≤ row → row < row_count rows → SetIs S (set_of sets row) (writes (called_in rows) (expression_at rows row))

abbrev pub Sets : ℕ → List ℤ → List WriteSet → Type 0
Sets S rows sets = SetsFrom S rows sets 0
