-- `function_row` reads the place from the end.
use mathlib.Core.Path.{refl}
use Rattle.machine_operations.specs.Bounds.{function_row_in}
use Rattle.machine_flows.proofs.functions.function_row.Goals as goal

pub returns : goal.returns
unfolding function_row_in
returns c = refl
