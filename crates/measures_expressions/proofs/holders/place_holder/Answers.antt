-- A variable holds its own value; an element's goes into the temporary.
use mathlib.Core.Path.{sym, ap}
use Rattle.measures_table.specs.Parts.{place_holder}
use Rattle.measures_expressions.proofs.holders.place_holder.Goals as goal

pub returns-in-Variable : goal.returns-in-Variable
returns-in-Variable c =
    sym (ap place_holder c.in-Variable.is)
