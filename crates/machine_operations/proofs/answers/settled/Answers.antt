-- `settled` casts the value, or gives the fault its number.
use Rattle.machine_operations.proofs.Decoding.{wide_fits, settles-value, settles-fault}
use Rattle.machine_operations.proofs.answers.settled.Goals as goal

pub overflow_cast-result : goal.overflow_cast-result
overflow_cast-result c =
    wide_fits c.in-Ok.value c.in-Ok.known_told-1-own.given.0.1

pub returns-in-Ok : goal.returns-in-Ok
returns-in-Ok c =
    settles-value c.args.computed c.in-Ok.value c.in-Ok.is c.in-Ok.known_told-1-own.given.0.1

pub returns-in-Err : goal.returns-in-Err
returns-in-Err c =
    settles-fault c.args.computed c.in-Err.sort c.fault.result c.in-Err.is c.fault.ensures c.fault.type_inv
