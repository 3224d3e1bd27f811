-- `kernel_atom`, by the sort of the atom.
use mathlib.Core.Path.{sym, ap, ◌∙◌}
use Rattle.words.specs.Laws.{back}
use Rattle.language.specs.Trees.{constant}
use Rattle.page_words.specs.Trees.{atom_tree}
use Rattle.page_rows.proofs.Steps.{variable_atom, declared-atom, temporary-atom}
use borrow.Author.Rules.{rules}
use Rattle.page_rows.proofs.atoms.kernel_atom.Goals as goal

pub returns-in-Constant : goal.returns-in-Constant
returns-in-Constant c =
    (ap constant (back c.in-Constant.value c.in-Constant.known_told-1-own.given.0.1) ∙ ap (atom_tree c.args.sizes) (sym c.in-Constant.is), tt)

pub returns-in-Variable : goal.returns-in-Variable
returns-in-Variable c =
    variable_atom c.args.sizes c.requires.0 c.args.atom _ c.in-Variable.is c.requires.1

pub returns-in-Declared : goal.returns-in-Declared
returns-in-Declared c =
    declared-atom c.args.sizes c.requires.0 c.args.atom _ c.in-Declared.is c.requires.1

pub returns-in-Temporary : goal.returns-in-Temporary
returns-in-Temporary c =
    temporary-atom c.args.sizes c.requires.0 c.args.atom _ c.in-Temporary.is c.requires.1
