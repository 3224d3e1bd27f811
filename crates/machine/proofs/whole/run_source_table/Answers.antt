-- `run_source_table` counts the functions: no more than the rows.
use Rattle.machine.proofs.Bounds.{in_order}
use Rattle.machine.proofs.whole.run_source_table.Goals as goal

pub function_count-functions-requires : goal.function_count-functions-requires
function_count-functions-requires c = in_order c.requires.runs
