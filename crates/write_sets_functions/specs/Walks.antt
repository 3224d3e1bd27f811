-- Walks: what a walk asks, and what the functions below a number can write. S is where the declared words begin.
use Rattle.std.specs.Prelude.{Bool, ◌&&◌, List, ℕ, ◌≤◌, ltb, ℤ, length}
use Rattle.language.specs.Functions.{function_count}
use Rattle.language.specs.Program.{contents}
use Rattle.language_shapes.specs.Source.{NamesFrom, Source}
use Rattle.measures_table.specs.Parts.{called_in}
use Rattle.write_sets.specs.declared.WriteSet.{WriteSet}
use Rattle.write_sets_rows.specs.WriteSets.{FunctionSets}

-- What the functions below `known` can write; the others are taken to write nothing.
abbrev pub lower_called : List ℤ → ℕ → ℕ → ℕ → Bool
lower_called rows known f i = ltb f known && called_in rows f i

-- The functions below `known` have their sets in the table.
pub record Walks (S : ℕ) (rows : List ℤ) (sets : List WriteSet) (known : ℕ) : Type 0 where
  pub source : Source rows
  pub names : NamesFrom S rows
  pub room : known ≤ length sets
  pub few : known ≤ function_count (contents rows)
  pub functions : FunctionSets S rows sets known
