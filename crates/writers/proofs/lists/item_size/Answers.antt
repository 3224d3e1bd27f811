-- The kernel rows of an item, by what the row is as an item.
use mathlib.Core.Path.{sym, ap, ◌∙◌}
use Rattle.measures_table.specs.Parts.{called_in}
use Rattle.writers.specs.Items.{item_size}
use Rattle.writers.proofs.ListLaws.{item_is}
use Rattle.writers.proofs.lists.item_size.Goals as goal

pub statement_size-requires : goal.statement_size-requires
statement_size-requires c =
    (c.requires.0, c.requires.1, rw (item_is c.item_at-item.ensures c.in-Statement.is) at c.requires.2)

pub returns-in-Statement : goal.returns-in-Statement
returns-in-Statement c = c.statement_size.ensures ∙ sym (ap (item_size (called_in c.args.source.now.rows.now)) (item_is c.item_at-item.ensures c.in-Statement.is))

pub returns-in-Mark : goal.returns-in-Mark
returns-in-Mark c = sym (ap (item_size (called_in c.args.source.now.rows.now)) (item_is c.item_at-item.ensures c.in-Mark.is))

pub returns-in-Definition : goal.returns-in-Definition
returns-in-Definition c = sym (ap (item_size (called_in c.args.source.now.rows.now)) (item_is c.item_at-item.ensures c.in-Definition.is))
