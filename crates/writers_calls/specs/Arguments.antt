-- Arguments: the code of a call's arguments, by which of them are copied: the binary digits of a number, the first argument's lowest.
use Rattle.std.specs.Prelude.{Bool, ℕ, ◌+◌, ◌*◌, ◌/◌, ◌%◌, max}
use Rattle.language.specs.Trees.{Arguments, no_more, ◌also◌, Items, none, ◌⧺◌}
use Rattle.translation.specs.declared.Use.TheVariants.{Wanted as wanted}
use Rattle.translation.specs.Translate.{atom_of, taken, atom, expression_code, expression_levels}
use Rattle.translation.specs.TranslateSize.{expression_size}
use Rattle.translation.specs.Holding.{held_by, hold_by}

-- `called f i`: whether function f can write the variable i.
module _ (called : ℕ → ℕ → Bool) where
  -- How many temporaries the arguments from one on take.
  unfoldable pub taken_by : Arguments → ℕ → ℕ
  taken_by no_more copies = 0
  taken_by (e also arguments) copies = taken_by arguments (copies / 2) + taken (held_by (copies % 2) (atom_of called e))

  -- The kernel rows of their code, and the levels that it names.
  unfoldable pub size_by : Arguments → ℕ → ℕ
  size_by no_more copies = 0
  size_by (e also arguments) copies = size_by arguments (copies / 2) + (expression_size called e wanted + 4 * (copies % 2))

  unfoldable pub levels_by : Arguments → ℕ → ℕ
  levels_by no_more copies = 0
  levels_by (e also arguments) copies =
      max (levels_by arguments (copies / 2)) (taken_by arguments (copies / 2) + max (expression_levels called e wanted) (taken (held_by (copies % 2) (atom_of called e))))

  module _ (S : ℕ) where
    -- What holds the arguments from one on.
    unfoldable pub atoms_by : Arguments → ℕ → ℕ → Arguments
    atoms_by no_more copies t = no_more
    atoms_by (e also arguments) copies t = atom S (t + taken_by arguments (copies / 2)) (held_by (copies % 2) (atom_of called e)) also atoms_by arguments (copies / 2) t

    -- Their code, from the last to the first.
    unfoldable pub code_by : Arguments → ℕ → ℕ → Items
    code_by no_more copies t = none
    code_by (e also arguments) copies t =
        let level = t + taken_by arguments (copies / 2) in
        code_by arguments (copies / 2) t ⧺ expression_code called S e wanted level ⧺ hold_by S level (copies % 2) (atom_of called e)
