-- `argument_count` walks the arguments. The invariant: those behind the row are still to count. The measure is the rows ahead.
use Rattle.words.specs.Table.{row_count}
use Rattle.machine_flows.proofs.Items.{ahead}
use Rattle.machine_flows.proofs.Walks.{Counted}
use Rattle.machine_flows.proofs.calls.argument_count.Given as goal

abbrev pub invariant-loop-at : goal.invariant-loop-at
invariant-loop-at l = Counted l.rows l.first l.at l.count

abbrev pub decreases-loop-at : goal.decreases-loop-at
decreases-loop-at l = ahead (row_count l.rows) l.at
