-- `within` hands the array's base and length to the bounds test.
use native.Mathlib.Omega.{arith}
use Rattle.machine_operations.proofs.Decoding.{within-small, within-at, within-outside}
use Rattle.machine_operations.proofs.operations.within.Goals as goal

pub overflow_cast-result : goal.overflow_cast-result
overflow_cast-result c =
    let start = c.before.before.before.before.before in
    let done = c.before in
    let small = within-small _ _ start.args.index done.element.result done.element.ensures start.ranges.index.sfits c.in-Some.at c.in-Some.is (omega arith) in
    record { sfits = omega arith }

pub returns-in-Some : goal.returns-in-Some
returns-in-Some c =
    let start = c.before.before.before.before.before in
    let done = c.before in
    within-at _ _ start.args.index done.element.result done.element.ensures start.ranges.index.sfits c.in-Some.at c.in-Some.is (omega arith)

pub returns-in-None : goal.returns-in-None
returns-in-None c =
    let start = c.before.before.before.before.before.before in
    let done = c.before.before in
    within-outside _ _ start.args.index done.element.result done.element.ensures start.ranges.index.sfits c.fault.result c.in-None.is c.fault.ensures c.fault.type_inv
