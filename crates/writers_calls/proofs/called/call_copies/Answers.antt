-- Which arguments are copied, from the table.
use Rattle.measures_table.specs.MeasureLaws.{whole_row}
use Rattle.writers_calls.proofs.called.call_copies.Goals as goal

pub returns : goal.returns
returns c = (whole_row c.requires.0 c.requires.1).expression.copies_are
