-- `row_behind` walks along the links. The invariant: the row is so many links behind.
use Rattle.machine_flows.proofs.Walks.{Walked}
use Rattle.machine_flows.proofs.calls.row_behind.Given as goal

abbrev pub invariant-loop-link : goal.invariant-loop-link
invariant-loop-link l = Walked l.rows l.first l.links l.at l._link
