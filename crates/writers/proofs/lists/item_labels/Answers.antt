-- The labels of an item, by what the row is as an item.
use mathlib.Core.Path.{sym, ap, ◌∙◌}
use Rattle.writers.specs.Items.{item_labels}
use Rattle.writers.proofs.ListLaws.{item_is}
use Rattle.writers.proofs.lists.item_labels.Goals as goal

pub statement_labels-requires : goal.statement_labels-requires
statement_labels-requires c =
    (c.requires.0, c.requires.1, rw (item_is c.item_at-item.ensures c.in-Statement.is) at c.requires.2)

pub returns-in-Statement : goal.returns-in-Statement
returns-in-Statement c = c.statement_labels.ensures ∙ sym (ap item_labels (item_is c.item_at-item.ensures c.in-Statement.is))

pub returns-in-Mark : goal.returns-in-Mark
returns-in-Mark c = sym (ap item_labels (item_is c.item_at-item.ensures c.in-Mark.is))

pub returns-in-Definition : goal.returns-in-Definition
returns-in-Definition c = sym (ap item_labels (item_is c.item_at-item.ensures c.in-Definition.is))
