-- `fill_functions` walks the definitions. The invariant: the rows of those before the row are in the room. The measure is the room left.
use Rattle.machine_flows.proofs.Definitions.{Placing}
use Rattle.machine_flows.proofs.functions.fill_functions.Given as goal

abbrev pub invariant-loop-k : goal.invariant-loop-k
invariant-loop-k l = Placing l.rows l.room l.at l.k
