-- A list by its first item.
use native.Mathlib.Omega.{arith}
use Rattle.language_shapes.specs.ShapeLaws.{itemed, at_next}
use Rattle.measures_table.specs.MeasureLaws.{slot-asks, limited-as}
use Rattle.measures.proofs.StatementLaws.{statement-list, definition-list}
use Rattle.measures.proofs.lists.measured_list.Goals as goal

pub behind_statement-requires : goal.behind_statement-requires
behind_statement-requires c = let s = c.requires.2 in (slot-asks c.requires.0 (at_next c.number_at-next.ensures c.item_at-item.ensures).onward, limited-as _ s.rows_are, limited-as _ s.labels_are)

pub measured_mark-requires : goal.measured_mark-requires
measured_mark-requires c = (c.requires.0, itemed (at_next c.number_at-next.ensures c.item_at-item.ensures) c.in-Mark.is)

pub behind_statement-requires-in-Definition : goal.behind_statement-requires-in-Definition
behind_statement-requires-in-Definition c = (slot-asks c.requires.0 (at_next c.number_at-next.ensures c.item_at-item.ensures).onward, omega arith, omega arith)

pub returns-in-Statement : goal.returns-in-Statement
returns-in-Statement c = statement-list c.requires.0 _ (itemed (at_next c.number_at-next.ensures c.item_at-item.ensures) c.in-Statement.is) c.requires.2 c.behind_statement.ensures

pub returns-in-Mark : goal.returns-in-Mark
returns-in-Mark c = c.measured_mark.ensures

pub returns-in-Definition : goal.returns-in-Definition
returns-in-Definition c = definition-list c.requires.0 _ (itemed (at_next c.number_at-next.ensures c.item_at-item.ensures) c.in-Definition.is) c.behind_statement-in-Definition.ensures
