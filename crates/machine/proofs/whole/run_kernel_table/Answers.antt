-- `run_kernel_table` counts the functions, and takes a room for so many.
use Rattle.machine.proofs.Bounds.{in_order}
use Rattle.machine.proofs.whole.run_kernel_table.Goals as goal

pub function_count-functions-requires : goal.function_count-functions-requires
function_count-functions-requires c = in_order c.requires
