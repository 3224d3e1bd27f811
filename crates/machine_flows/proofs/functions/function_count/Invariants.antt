-- `function_count` walks the definitions. The invariant: those from the row on are still to count. The measure is the rows ahead.
use Rattle.words.specs.Table.{row_count}
use Rattle.machine_flows.proofs.Items.{ahead}
use Rattle.machine_flows.proofs.Definitions.{Counting}
use Rattle.machine_flows.proofs.functions.function_count.Given as goal

abbrev pub invariant-loop-at : goal.invariant-loop-at
invariant-loop-at l = Counting l.rows l.at l.count

abbrev pub decreases-loop-at : goal.decreases-loop-at
decreases-loop-at l = ahead (row_count l.rows) l.at
