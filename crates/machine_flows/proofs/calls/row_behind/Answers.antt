-- `row_behind` walks along the links. The invariant: the row is so many links behind.
use native.Mathlib.Omega.{arith}
use Rattle.machine_flows.proofs.Items.{next-asks}
use Rattle.machine_flows.proofs.Walks.{walked-first, walked_next, walked_all}
use Rattle.machine_flows.proofs.calls.row_behind.Goals as goal

pub loop-link-init : goal.loop-link-init
loop-link-init c = walked-first c.requires

pub link_at-at-requires : goal.link_at-at-requires
link_at-at-requires c = next-asks c.loop-link.invariant.table

pub loop-link-preserved : goal.loop-link-preserved
loop-link-preserved c = walked_next c.loop-link.invariant c.loop-link-test.true c.link_at-at.ensures (omega arith)

pub returns : goal.returns
returns c = walked_all c.loop-link.invariant (omega (arith, c.loop-link-test.false))
