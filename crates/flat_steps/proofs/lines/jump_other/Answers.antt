-- `jump_other` tests the operand.
use Rattle.flat.specs.Words.{left_constant}
use Rattle.flat_steps.proofs.Made.{within-is, operand-ready, jump-ready, other-stays, other-jumps}
use borrow.Author.Rules.{rules}
use native.Mathlib.Omega.{arith}
use Rattle.flat_steps.proofs.lines.jump_other.Goals as goal

pub operand-value-requires : goal.operand-value-requires
operand-value-requires c = operand-ready c.requires 2 (omega arith) (left_constant c.args.operation) c.left_constant.result c.left_constant.ensures (within-is c.requires).0

pub target_of-requires : goal.target_of-requires
target_of-requires c = jump-ready c.requires

pub returns-then-is_true : goal.returns-then-is_true
returns-then-is_true c = other-jumps c.args.store.now c.requires c.left_constant.result c.left_constant.ensures c.operand-value.result c.operand-value.type_inv c.operand-value.ensures c.is_true.result c.is_true.ensures c.if-is_true.true c.target_of.result c.target_of.ensures

pub overflow_add-result : goal.overflow_add-result
overflow_add-result c = omega (arith, c.requires.ready.inside)

pub returns : goal.returns
returns c = other-stays c.args.store.now c.requires c.left_constant.result c.left_constant.ensures c.operand-value.result c.operand-value.type_inv c.operand-value.ensures c.is_true.result c.is_true.ensures c.if-is_true.false
