-- `operate` settles what the function of the operator gives, or tests the operands.
use Rattle.std.specs.Prelude.{Ok}
use mathlib.Core.Path.{refl, ap, ◌∙◌}
use mathlib.Core.Bool.{not}
use Rattle.arithmetic.specs.Arithmetic.{bit, apply}
use Rattle.arithmetic.proofs.Results.{handed-on, compared, equal-bits}
use Rattle.machine_operations.proofs.Decoding.{wide_fits, settles-word}
use Rattle.machine_operations.proofs.Operands.{settled_is}
use Rattle.machine_operations.proofs.operations.operate.Goals as goal

pub overflow_cast-result : goal.overflow_cast-result
overflow_cast-result c = wide_fits c.bit.result c.bit.type_inv

pub overflow_cast-result-in-Greater : goal.overflow_cast-result-in-Greater
overflow_cast-result-in-Greater c = wide_fits c.bit-in-Greater.result c.bit-in-Greater.type_inv

pub overflow_cast-result-in-LessOrEqual : goal.overflow_cast-result-in-LessOrEqual
overflow_cast-result-in-LessOrEqual c = wide_fits c.bit-in-LessOrEqual.result c.bit-in-LessOrEqual.type_inv

pub overflow_cast-result-in-GreaterOrEqual : goal.overflow_cast-result-in-GreaterOrEqual
overflow_cast-result-in-GreaterOrEqual c = wide_fits c.bit-in-GreaterOrEqual.result c.bit-in-GreaterOrEqual.type_inv

pub overflow_cast-result-in-Equal : goal.overflow_cast-result-in-Equal
overflow_cast-result-in-Equal c = wide_fits c.bit-in-Equal.result c.bit-in-Equal.type_inv

pub overflow_cast-result-in-NotEqual : goal.overflow_cast-result-in-NotEqual
overflow_cast-result-in-NotEqual c = wide_fits c.bit-in-NotEqual.result c.bit-in-NotEqual.type_inv

pub returns-in-Add : goal.returns-in-Add
returns-in-Add c =
    let s = c.before.before.before in
    settled_is c.settled.result c.add.result (apply s.args.operator s.args.left s.args.right) c.settled.type_inv c.settled.ensures (c.add.ensures ∙ handed-on s.ranges.left s.ranges.right c.in-Add.is)

pub returns-in-Subtract : goal.returns-in-Subtract
returns-in-Subtract c =
    let s = c.before.before.before in
    settled_is c.settled-in-Subtract.result c.subtract.result (apply s.args.operator s.args.left s.args.right) c.settled-in-Subtract.type_inv c.settled-in-Subtract.ensures (c.subtract.ensures ∙ handed-on s.ranges.left s.ranges.right c.in-Subtract.is)

pub returns-in-Multiply : goal.returns-in-Multiply
returns-in-Multiply c =
    let s = c.before.before.before in
    settled_is c.settled-in-Multiply.result c.multiply.result (apply s.args.operator s.args.left s.args.right) c.settled-in-Multiply.type_inv c.settled-in-Multiply.ensures (c.multiply.ensures ∙ handed-on s.ranges.left s.ranges.right c.in-Multiply.is)

pub returns-in-Divide : goal.returns-in-Divide
returns-in-Divide c =
    let s = c.before.before.before in
    settled_is c.settled-in-Divide.result c.divide.result (apply s.args.operator s.args.left s.args.right) c.settled-in-Divide.type_inv c.settled-in-Divide.ensures (c.divide.ensures ∙ handed-on s.ranges.left s.ranges.right c.in-Divide.is)

pub returns-in-Remainder : goal.returns-in-Remainder
returns-in-Remainder c =
    let s = c.before.before.before in
    settled_is c.settled-in-Remainder.result c.remainder.result (apply s.args.operator s.args.left s.args.right) c.settled-in-Remainder.type_inv c.settled-in-Remainder.ensures (c.remainder.ensures ∙ handed-on s.ranges.left s.ranges.right c.in-Remainder.is)

pub returns-in-Less : goal.returns-in-Less
unfolding apply
returns-in-Less c =
    let s = c.before.before in
    settles-word c.bit.result _ c.bit.type_inv (compared s.ranges.left s.ranges.right _ c.in-Less.is c.bit.ensures refl)

pub returns-in-Greater : goal.returns-in-Greater
unfolding apply
returns-in-Greater c =
    let s = c.before.before in
    settles-word c.bit-in-Greater.result _ c.bit-in-Greater.type_inv (compared s.ranges.left s.ranges.right _ c.in-Greater.is c.bit-in-Greater.ensures refl)

pub returns-in-LessOrEqual : goal.returns-in-LessOrEqual
unfolding apply
returns-in-LessOrEqual c =
    let s = c.before.before in
    settles-word c.bit-in-LessOrEqual.result _ c.bit-in-LessOrEqual.type_inv (compared s.ranges.left s.ranges.right _ c.in-LessOrEqual.is c.bit-in-LessOrEqual.ensures refl)

pub returns-in-GreaterOrEqual : goal.returns-in-GreaterOrEqual
unfolding apply
returns-in-GreaterOrEqual c =
    let s = c.before.before in
    settles-word c.bit-in-GreaterOrEqual.result _ c.bit-in-GreaterOrEqual.type_inv (compared s.ranges.left s.ranges.right _ c.in-GreaterOrEqual.is c.bit-in-GreaterOrEqual.ensures refl)

pub returns-in-Equal : goal.returns-in-Equal
unfolding apply
returns-in-Equal c =
    let s = c.before.before in
    settles-word c.bit-in-Equal.result _ c.bit-in-Equal.type_inv (compared s.ranges.left s.ranges.right _ c.in-Equal.is c.bit-in-Equal.ensures (ap (λ b. Ok (bit b)) (equal-bits s.ranges.left s.ranges.right)))

pub returns-in-NotEqual : goal.returns-in-NotEqual
unfolding apply
returns-in-NotEqual c =
    let s = c.before.before in
    settles-word c.bit-in-NotEqual.result _ c.bit-in-NotEqual.type_inv (compared s.ranges.left s.ranges.right _ c.in-NotEqual.is c.bit-in-NotEqual.ensures (ap (λ b. Ok (bit (not b))) (equal-bits s.ranges.left s.ranges.right)))
