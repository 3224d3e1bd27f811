-- The rows of an item's test, by what the row is as an item.
use mathlib.Core.Path.{sym, ap, ◌∙◌}
use Prim.Native.Nat.{◌*◌}
use Rattle.language_shapes.specs.declared.Item.TheVariants.{Mark}
use Rattle.writers.specs.Items.{item_cases}
use Rattle.writers.proofs.ListLaws.{item_is}
use Rattle.writers.proofs.switches.case_size.Goals as goal

pub returns-in-Statement : goal.returns-in-Statement
returns-in-Statement c = sym (ap (λ is. 11 * item_cases is) (item_is c.item_at-item.ensures c.in-Statement.is))

pub returns-in-Case : goal.returns-in-Case
returns-in-Case c = sym (ap (λ is. 11 * item_cases is) (item_is c.item_at-item.ensures (c.in-Mark.is ∙ ap Mark c.in-Case.is)))

pub returns-in-Default : goal.returns-in-Default
returns-in-Default c = sym (ap (λ is. 11 * item_cases is) (item_is c.item_at-item.ensures (c.in-Mark.is ∙ ap Mark c.in-Default.is)))

pub returns-in-Label : goal.returns-in-Label
returns-in-Label c = sym (ap (λ is. 11 * item_cases is) (item_is c.item_at-item.ensures (c.in-Mark.is ∙ ap Mark c.in-Label.is)))

pub returns-in-Definition : goal.returns-in-Definition
returns-in-Definition c = sym (ap (λ is. 11 * item_cases is) (item_is c.item_at-item.ensures c.in-Definition.is))
