-- `put` reads the value and the index, makes the bounds test and stores the value.
use Rattle.flat.proofs.Accepts.{array-below}
use Rattle.flat.specs.Words.{left_constant, right_constant}
use Rattle.flat_steps.proofs.Handed.{again, assigned, failed, made_so}
use Rattle.flat_steps.proofs.Made.{within-is, small, field-inside, operand-ready, lies, put-fails, put_next, put-inside}
use borrow.Author.Rules.{rules}
use native.Mathlib.Omega.{arith}
use Rattle.flat_steps.proofs.lines.put.Goals as goal

pub operand-value-requires : goal.operand-value-requires
operand-value-requires c = operand-ready c.requires 3 (omega arith) (right_constant c.args.operation) c.right_constant.result c.right_constant.ensures (within-is c.requires).2

pub operand-index-requires : goal.operand-index-requires
operand-index-requires c = operand-ready c.requires 2 (omega arith) (left_constant c.args.operation) c.left_constant.result c.left_constant.ensures (within-is c.requires).1

pub number_at-requires : goal.number_at-requires
number_at-requires c = (field-inside c.requires 1 (omega arith), omega (arith, array-below _ (small c.requires) _ (within-is c.requires).0, (small c.requires).few_arrays))

pub locate-requires : goal.locate-requires
locate-requires c = rw c.number_at.ensures (lies c.requires _ (within-is c.requires).0).bounded

pub returns-in_err-at : goal.returns-in_err-at
returns-in_err-at c = failed c.args.store.now _ _ c.from_residual.ensures.1 _ (put-fails c.args.store.now c.requires c.left_constant.result c.right_constant.result c.left_constant.ensures c.right_constant.ensures c.number_at.result c.number_at.ensures c.operand-index.result c.operand-index.type_inv c.operand-index.ensures c.locate.result c.locate.ensures _ c.in_err-at.was)

pub store_word-requires : goal.store_word-requires
store_word-requires c = (put-inside c.args.store.now c.requires c.left_constant.result c.right_constant.result c.left_constant.ensures c.right_constant.ensures c.number_at.result c.number_at.ensures c.operand-index.result c.operand-index.type_inv c.operand-index.ensures c.locate.result c.locate.ensures c.in_ok-at.at c.in_ok-at.was, omega (arith, c.requires.ready.inside))

pub returns : goal.returns
returns c =
    made_so _ _ _ _ _ (assigned c.args.store.now c.args.line c.in_ok-at.at (again c.operand-value.result) c.store_word.result c.store_word.new.store c.store_word.ensures)
    (put_next c.args.store.now c.requires c.left_constant.result c.right_constant.result c.left_constant.ensures c.right_constant.ensures c.number_at.result c.number_at.ensures c.operand-index.result c.operand-index.type_inv c.operand-index.ensures c.locate.result c.locate.ensures c.in_ok-at.at c.in_ok-at.was c.operand-value.result c.operand-value.type_inv c.operand-value.ensures)
