-- `apply` hands the operands on to the function of the operator, or tests them.
use Rattle.std.specs.Prelude.{Ok}
use mathlib.Core.Path.{refl, ap, ◌∙◌}
use mathlib.Core.Bool.{not}
use Rattle.arithmetic.specs.Arithmetic.{bit, apply}
use Rattle.arithmetic.proofs.Results.{handed-on, compared, equal-bits}
use Rattle.arithmetic.proofs.apply.Goals as goal

pub returns-in-Add : goal.returns-in-Add
returns-in-Add c = let s = c.before.before in c.add.ensures ∙ handed-on s.ranges.left s.ranges.right c.in-Add.is

pub returns-in-Subtract : goal.returns-in-Subtract
returns-in-Subtract c = let s = c.before.before in c.subtract.ensures ∙ handed-on s.ranges.left s.ranges.right c.in-Subtract.is

pub returns-in-Multiply : goal.returns-in-Multiply
returns-in-Multiply c = let s = c.before.before in c.multiply.ensures ∙ handed-on s.ranges.left s.ranges.right c.in-Multiply.is

pub returns-in-Divide : goal.returns-in-Divide
returns-in-Divide c = let s = c.before.before in c.divide.ensures ∙ handed-on s.ranges.left s.ranges.right c.in-Divide.is

pub returns-in-Remainder : goal.returns-in-Remainder
returns-in-Remainder c = let s = c.before.before in c.remainder.ensures ∙ handed-on s.ranges.left s.ranges.right c.in-Remainder.is

pub returns-in-Less : goal.returns-in-Less
unfolding apply
returns-in-Less c = let s = c.before.before in compared s.ranges.left s.ranges.right _ c.in-Less.is c.bit.ensures refl

pub returns-in-Greater : goal.returns-in-Greater
unfolding apply
returns-in-Greater c = let s = c.before.before in compared s.ranges.left s.ranges.right _ c.in-Greater.is c.bit-in-Greater.ensures refl

pub returns-in-LessOrEqual : goal.returns-in-LessOrEqual
unfolding apply
returns-in-LessOrEqual c = let s = c.before.before in compared s.ranges.left s.ranges.right _ c.in-LessOrEqual.is c.bit-in-LessOrEqual.ensures refl

pub returns-in-GreaterOrEqual : goal.returns-in-GreaterOrEqual
unfolding apply
returns-in-GreaterOrEqual c = let s = c.before.before in compared s.ranges.left s.ranges.right _ c.in-GreaterOrEqual.is c.bit-in-GreaterOrEqual.ensures refl

pub returns-in-Equal : goal.returns-in-Equal
unfolding apply
returns-in-Equal c = let s = c.before.before in compared s.ranges.left s.ranges.right _ c.in-Equal.is c.bit-in-Equal.ensures (ap (λ b. Ok (bit b)) (equal-bits s.ranges.left s.ranges.right))

pub returns-in-NotEqual : goal.returns-in-NotEqual
unfolding apply
returns-in-NotEqual c = let s = c.before.before in compared s.ranges.left s.ranges.right _ c.in-NotEqual.is c.bit-in-NotEqual.ensures (ap (λ b. Ok (bit (not b))) (equal-bits s.ranges.left s.ranges.right))
