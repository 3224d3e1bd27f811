-- The row of an atom, by its variant.
use mathlib.Core.Path.{sym, ap, ◌∙◌}
use lib.IntN.{ℤ}
use mir.Syntax.{w32}
use mir.Facts.{to_z-of_z}
use Rattle.language_emission.specs.Emission.{row_of}
use Rattle.writers_rows.specs.Atoms.{atom_row}
use Rattle.writers_rows.proofs.Words.{atom-low, worded}
use borrow.Author.Rules.{rules}
use Rattle.writers_rows.proofs.rows.put_atom.Goals as goal

pub put_row-requires : goal.put_row-requires
put_row-requires c = let low = atom-low c.requires.1 c.in-Variable.is in search rules

pub returns-in-Constant : goal.returns-in-Constant
returns-in-Constant c =
    worded _ _ _ _ c.put.ensures (ap (λ (v : ℤ). row_of 1 v 0 0 0 0) (to_z-of_z {w = w32} (search rules)) ∙ ap atom_row (sym c.in-Constant.is))

pub returns-in-Variable : goal.returns-in-Variable
returns-in-Variable c = worded _ _ _ _ c.put_row.ensures (ap atom_row (sym c.in-Variable.is))
