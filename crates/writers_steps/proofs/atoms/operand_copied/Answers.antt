-- The copy of the first operand's value, from the table.
use Rattle.measures_table.specs.MeasureLaws.{whole_row}
use Rattle.writers_steps.proofs.atoms.operand_copied.Goals as goal

pub returns : goal.returns
returns c = (whole_row c.requires.0 c.requires.1).expression.copied_is
