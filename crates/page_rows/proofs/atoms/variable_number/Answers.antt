-- `variable_number`, by the sort of the name; a constant is none.
use Rattle.page_rows.proofs.Steps.{variable-name, declared-name, temporary-name}
use borrow.Author.Rules.{rules}
use Rattle.page_rows.proofs.atoms.variable_number.Goals as goal

pub returns-in-Variable : goal.returns-in-Variable
returns-in-Variable c =
    variable-name c.args.sizes c.requires.0 c.args.atom _ c.in-Variable.is c.requires.1

pub returns-in-Declared : goal.returns-in-Declared
returns-in-Declared c =
    declared-name c.args.sizes c.requires.0 c.args.atom _ c.in-Declared.is c.requires.1

pub returns-in-Temporary : goal.returns-in-Temporary
returns-in-Temporary c =
    temporary-name c.args.sizes c.requires.0 c.args.atom _ c.in-Temporary.is c.requires.1
