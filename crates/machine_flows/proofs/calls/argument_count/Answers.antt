-- `argument_count` walks the arguments. The invariant: those behind the row are still to count. The measure is the rows ahead.
use native.Mathlib.Omega.{arith}
use Rattle.machine_flows.proofs.Items.{next-asks}
use Rattle.machine_flows.proofs.Walks.{counted-first, count-falls, counted_next, count_small, counted-all}
use Rattle.machine_flows.proofs.calls.argument_count.Goals as goal

pub loop-at-init : goal.loop-at-init
loop-at-init c = counted-first c.requires

pub link_at-at-requires : goal.link_at-at-requires
link_at-at-requires c = next-asks c.loop-at.invariant.arguments.table

pub overflow_add-count : goal.overflow_add-count
overflow_add-count c = omega (arith, count_small c.loop-at.invariant c.loop-at-test.true c.link_at-at.ensures)

pub loop-at-smaller : goal.loop-at-smaller
loop-at-smaller c = count-falls c.loop-at.invariant c.loop-at-test.true c.link_at-at.ensures

pub loop-at-preserved : goal.loop-at-preserved
loop-at-preserved c = counted_next c.loop-at.invariant c.loop-at-test.true c.link_at-at.ensures (omega arith)

pub returns : goal.returns
returns c = counted-all c.loop-at.invariant c.loop-at-test.false
