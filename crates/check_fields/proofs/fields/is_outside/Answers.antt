-- `is_outside` asks of the field's number whether it fits the field's sort.
use mathlib.Core.Bool.{not}
use mathlib.Core.Path.{ap}
use Rattle.check_fields.specs.Fields.{outside}
use borrow.Author.Rules.{rules}
use Rattle.check_fields.proofs.fields.is_outside.Goals as goal

pub returns : goal.returns
unfolding outside
returns c =
    rw (← c.sort_at.ensures, ← c.number_at.ensures) (ap not c.number_fits.ensures)
