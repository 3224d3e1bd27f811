-- The statement of an item, by what the item is.
use mathlib.Core.Path.{refl}
use Rattle.language_shapes.specs.ShapeLaws.{itemed}
use Rattle.write_sets_functions.proofs.StepLaws.{statement-item, mark-item, definition-item}
use Rattle.write_sets_functions.proofs.steps.item_statement.Goals as goal

pub returns-in-Statement : goal.returns-in-Statement
returns-in-Statement c = statement-item c.requires.2 (itemed c.item_at-item.ensures c.in-Statement.is) refl

pub returns-in-Mark : goal.returns-in-Mark
returns-in-Mark c = mark-item (itemed c.item_at-item.ensures c.in-Mark.is) refl

pub returns-in-Definition : goal.returns-in-Definition
returns-in-Definition c = definition-item (itemed c.item_at-item.ensures c.in-Definition.is) refl
