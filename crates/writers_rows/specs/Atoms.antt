-- Atoms: the kernel's atoms and places, as the code holds them.
use Rattle.std.specs.Prelude.{List, ◌<◌, ℤ, pos}
use Rattle.language.specs.Trees.{Expression, constant, read, Place, variable, element}
use Rattle.language_emission.specs.Emission.{row_of}
use Rattle.writers_rows.specs.declared.KernelAtom.{KernelAtom}
use Rattle.writers_rows.specs.declared.KernelAtom.TheVariants.{Constant, Variable}
use Rattle.writers_rows.specs.declared.KernelPlace.{KernelPlace}
use Rattle.writers_rows.specs.declared.KernelPlace.TheVariants.{Variable as VariablePlace, Element}

abbrev pub atom_tree : KernelAtom → Expression
atom_tree (Constant v) = constant v
atom_tree (Variable n) = read (variable n)

abbrev pub place_tree : KernelPlace → Place
place_tree (VariablePlace n) = variable n
place_tree (Element array index) = element array (atom_tree index)

-- The row of an atom, wherever it stands.
abbrev pub atom_row : KernelAtom → List ℤ
atom_row (Constant v) = row_of 1 v 0 0 0 0
atom_row (Variable n) = row_of 2 (pos n) 0 0 0 0

-- Numbers that a word holds.
abbrev pub AtomFits : KernelAtom → Type 0
AtomFits (Constant v) = Unit {0}
AtomFits (Variable n) = n < 65536

abbrev pub PlaceFits : KernelPlace → Type 0
PlaceFits (VariablePlace n) = n < 65536
PlaceFits (Element array index) = (array < 65536) × AtomFits index
