-- `fault` gives each sort its number, counted from the greatest word.
use Rattle.machine_operations.proofs.Decoding.{counted-fits, counted_is}
use Rattle.machine_operations.proofs.answers.fault.Goals as goal

pub overflow_add-result : goal.overflow_add-result
overflow_add-result c = counted-fits c.args.sort c.fault_number.result c.fault_number.ensures

pub returns : goal.returns
returns c = counted_is c.args.sort c.fault_number.result c.fault_number.ensures
