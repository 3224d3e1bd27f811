-- `find_mark` walks the items. The invariant: the row is in the table, and the search from it on is the whole search. The measure
-- is the rows ahead.
use Rattle.words.specs.Table.{row_count}
use Rattle.machine_flows.specs.Lists.{mark_of}
use Rattle.machine_flows.proofs.Items.{ahead, Sought}
use Rattle.machine_flows.proofs.lists.find_mark.Given as goal

abbrev pub invariant-loop-at : goal.invariant-loop-at
invariant-loop-at l = Sought l.rows l.first (mark_of l.mark) l.at

abbrev pub decreases-loop-at : goal.decreases-loop-at
decreases-loop-at l = ahead (row_count l.rows) l.at
