-- A list that begins with a mark, by the mark.
use mathlib.Core.Path.{ap}
use native.Mathlib.Omega.{arith}
use Rattle.language_shapes.specs.ShapeLaws.{itemed}
use Rattle.language_shapes.specs.declared.Item.TheVariants.{Mark}
use Rattle.measures_table.specs.MeasureLaws.{slot-asks}
use Rattle.measures.proofs.StatementLaws.{case-list, label-list, default-list}
use Rattle.measures.proofs.lists.measured_mark.Goals as goal

pub measure_at-requires : goal.measure_at-requires
measure_at-requires c = slot-asks c.requires.0 c.requires.1.onward 10 (omega arith)

pub past_labels-requires : goal.past_labels-requires
past_labels-requires c = (omega arith, c.measure_at.ensures.small)

pub behind_mark-requires : goal.behind_mark-requires
behind_mark-requires c = (slot-asks c.requires.0 c.requires.1.onward, omega arith)

pub behind_mark-requires-in-Default : goal.behind_mark-requires-in-Default
behind_mark-requires-in-Default c = (slot-asks c.requires.0 c.requires.1.onward, omega arith)

pub measure_at-requires-in-Label : goal.measure_at-requires-in-Label
measure_at-requires-in-Label c = slot-asks c.requires.0 c.requires.1.onward 10 (omega arith)

pub past_labels-requires-in-Label : goal.past_labels-requires-in-Label
past_labels-requires-in-Label c = (omega arith, c.measure_at-in-Label.ensures.small)

pub behind_mark-requires-in-Label : goal.behind_mark-requires-in-Label
behind_mark-requires-in-Label c = (slot-asks c.requires.0 c.requires.1.onward, omega arith)

pub returns-in-Case : goal.returns-in-Case
returns-in-Case c = case-list c.requires.0 _ (itemed c.requires.1 (ap Mark c.in-Case.is)) c.measure_at.ensures.is c.past_labels.ensures c.behind_mark.ensures

pub returns-in-Default : goal.returns-in-Default
returns-in-Default c = default-list c.requires.0 _ (itemed c.requires.1 (ap Mark c.in-Default.is)) c.behind_mark-in-Default.ensures

pub returns-in-Label : goal.returns-in-Label
returns-in-Label c = label-list c.requires.0 _ (itemed c.requires.1 (ap Mark c.in-Label.is)) c.measure_at-in-Label.ensures.is c.past_labels-in-Label.ensures c.behind_mark-in-Label.ensures
