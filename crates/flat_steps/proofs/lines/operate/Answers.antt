-- `operate` reads both operands and stores what the operator gives.
use Rattle.flat.specs.Words.{left_constant, right_constant}
use Rattle.flat_steps.proofs.Handed.{made_so}
use Rattle.flat_steps.proofs.Made.{operate-within, field-inside, variable-inside, operand-ready, operate-next}
use Rattle.words.specs.Kinds.{operator_of}
use borrow.Author.Rules.{rules}
use mathlib.Core.Path.{refl}
use Prim.Native.Nat.{◌-◌}
use native.Mathlib.Omega.{arith}
use Rattle.flat_steps.proofs.lines.operate.Goals as goal

pub operand-left-requires : goal.operand-left-requires
operand-left-requires c = operand-ready c.requires.0 2 (omega arith) (left_constant c.args.operation) c.left_constant.result c.left_constant.ensures (operate-within c.args.store.now c.requires.0 c.requires.1).1

pub operand-right-requires : goal.operand-right-requires
operand-right-requires c = operand-ready c.requires.0 3 (omega arith) (right_constant c.args.operation) c.right_constant.result c.right_constant.ensures (operate-within c.args.store.now c.requires.0 c.requires.1).2

pub outcome-result-requires : goal.outcome-result-requires
outcome-result-requires c = c.requires.1

pub number_at-requires : goal.number_at-requires
number_at-requires c = (field-inside c.requires.0 1 (omega arith), omega (arith, variable-inside c.requires.0 _ (operate-within c.args.store.now c.requires.0 c.requires.1).0, c.requires.0.ready.setting.few_words))

pub assign-requires : goal.assign-requires
assign-requires c = (omega (arith, variable-inside c.requires.0 _ (operate-within c.args.store.now c.requires.0 c.requires.1).0, c.number_at.ensures), omega (arith, c.requires.0.ready.inside))

pub returns : goal.returns
returns c =
    let start = c in
    made_so _ _ _ _ _ c.assign.ensures
    (operate-next start.args.store.now start.requires.0 start.requires.1 c.left_constant.result c.right_constant.result c.left_constant.ensures c.right_constant.ensures c.number_at.result c.number_at.ensures
    c.operand-left.result c.operand-right.result c.operand-left.type_inv c.operand-right.type_inv c.operand-left.ensures c.operand-right.ensures (operator_of (start.args.kind - 6)) refl _ c.outcome-result.ensures)
