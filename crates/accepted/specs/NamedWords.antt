-- Named words: the numbers that name a variable or a word behind the first S, within the bounds of a table.
use Rattle.std.specs.Prelude.{◌≡◌, Bool, true, false, not, ◌&&◌, List, ◌⊎◌, ℕ, ◌≤◌, ◌<◌, eqb, ℤ}
use Rattle.check_fields.specs.declared.Bounds.{Bounds}

-- A variable number within the bounds: "numbers V to S−1 name nothing".
abbrev pub NamesVariable : Bounds → ℕ → Type 0
NamesVariable bounds number = (number < bounds.variables) ⊎ ((bounds.store ≤ number) × (number < bounds.words))

-- The number of a declaration or a parameter within the bounds.
abbrev pub NamesDeclared : Bounds → ℕ → Type 0
NamesDeclared bounds number = (bounds.declared.first ≤ number) × (number < bounds.declared.past)

-- Those are numbers of variables or of words behind the first S.
abbrev pub DeclaredNames : Bounds → Type 0
DeclaredNames bounds = (number : ℕ) → NamesDeclared bounds number → NamesVariable bounds number
