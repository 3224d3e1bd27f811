-- A place whose index is held at a level.
use Rattle.writers_steps.specs.AtomLaws.{place-index, held-variable, held-element}
use Rattle.writers_steps.proofs.atoms.held_place.Goals as goal

pub atom_at-requires : goal.atom_at-requires
atom_at-requires c = (c.requires.0, place-index _ c.requires.1 c.in-Element.is, c.requires.2)

pub returns-in-Variable : goal.returns-in-Variable
returns-in-Variable c = held-variable _ _ _ c.requires.1 c.in-Variable.is

pub returns-in-Element : goal.returns-in-Element
returns-in-Element c = held-element _ _ _ c.requires.1 c.in-Element.is c.atom_at.ensures
