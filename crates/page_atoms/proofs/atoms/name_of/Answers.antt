-- `name_of`: every atom but a constant is a name.
use Rattle.page_atoms.proofs.atoms.name_of.Goals as goal

pub returns-in-Variable : goal.returns-in-Variable
returns-in-Variable c = rw (c.in_ok-atom.was, c.in-Variable.is)

pub returns-in-Declared : goal.returns-in-Declared
returns-in-Declared c = rw (c.in_ok-atom.was, c.in-Declared.is)

pub returns-in-Temporary : goal.returns-in-Temporary
returns-in-Temporary c = rw (c.in_ok-atom.was, c.in-Temporary.is)
