-- `function_count` walks the definitions. The invariant: those from the row on are still to count. The measure is the rows ahead.
use mathlib.Core.Path.{sym, ◌∙◌}
use native.Mathlib.Omega.{arith}
use Rattle.machine_flows.proofs.Items.{next-asks}
use Rattle.machine_flows.proofs.Definitions.{first-asks, defined-later, counting-first, here, counting-next, counting-small, counting-last}
use Rattle.machine_flows.proofs.functions.function_count.Goals as goal

pub link_at-at-requires : goal.link_at-at-requires
link_at-at-requires c = first-asks c.requires.table

pub loop-at-init : goal.loop-at-init
loop-at-init c = counting-first c.requires c.link_at-at.ensures

pub is_definition-requires : goal.is_definition-requires
is_definition-requires c = here c.requires c.loop-at.invariant

pub link_at-at-requires-in-loop-at : goal.link_at-at-requires-in-loop-at
link_at-at-requires-in-loop-at c = next-asks (here c.requires c.loop-at.invariant)

pub overflow_add-count : goal.overflow_add-count
overflow_add-count c = omega (arith, counting-small c.requires c.loop-at.invariant (sym c.is_definition.ensures ∙ c.loop-at-test.true) c.link_at-at-in-loop-at.ensures)

pub loop-at-smaller : goal.loop-at-smaller
loop-at-smaller c = defined-later (here c.requires c.loop-at.invariant) (sym c.is_definition.ensures ∙ c.loop-at-test.true) c.link_at-at-in-loop-at.ensures

pub loop-at-preserved : goal.loop-at-preserved
loop-at-preserved c = counting-next c.requires c.loop-at.invariant (sym c.is_definition.ensures ∙ c.loop-at-test.true) c.link_at-at-in-loop-at.ensures (omega arith)

pub returns : goal.returns
returns c = counting-last c.requires c.loop-at.invariant (sym c.is_definition.ensures ∙ c.loop-at-test.false)
