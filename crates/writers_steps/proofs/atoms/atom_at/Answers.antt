-- The atom of an expression, by what holds its value.
use native.Mathlib.Omega.{arith}
use mir.Syntax.{w32}
use mir.Facts.{to_z-of_z}
use Rattle.measures_table.specs.MeasureLaws.{whole-asks}
use Rattle.measures_expressions.proofs.HolderLaws.{held-as}
use Rattle.writers_steps.specs.AtomLaws.{atom-number, atom-variable, atom-temporary}
use borrow.Author.Rules.{rules}
use Rattle.writers_steps.proofs.atoms.atom_at.Goals as goal

pub holder_at-holder-requires : goal.holder_at-holder-requires
holder_at-holder-requires c = whole-asks c.requires.0.measured c.requires.1

pub returns-in-Number : goal.returns-in-Number
returns-in-Number c = atom-number (held-as c.holder_at-holder.ensures c.in-Number.is) (to_z-of_z {w = w32} (search rules))

pub returns-in-Variable : goal.returns-in-Variable
returns-in-Variable c = atom-variable (held-as c.holder_at-holder.ensures c.in-Variable.is)

pub returns-in-Temporary : goal.returns-in-Temporary
returns-in-Temporary c = atom-temporary (held-as c.holder_at-holder.ensures c.in-Temporary.is) (omega (arith, c.requires.0.small_store, c.requires.2))
