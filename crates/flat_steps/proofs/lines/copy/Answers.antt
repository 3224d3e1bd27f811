-- `copy` reads the operand and stores it.
use Rattle.flat.specs.Words.{left_constant}
use Rattle.flat_steps.proofs.Handed.{again, assigned, made_so}
use Rattle.flat_steps.proofs.Made.{within-is, field-inside, variable-inside, operand-ready, copy-next}
use borrow.Author.Rules.{rules}
use native.Mathlib.Omega.{arith}
use Rattle.flat_steps.proofs.lines.copy.Goals as goal

pub operand-value-requires : goal.operand-value-requires
operand-value-requires c = operand-ready c.requires 2 (omega arith) (left_constant c.args.operation) c.left_constant.result c.left_constant.ensures (within-is c.requires).1

pub number_at-requires : goal.number_at-requires
number_at-requires c = (field-inside c.requires 1 (omega arith), omega (arith, variable-inside c.requires _ (within-is c.requires).0, c.requires.ready.setting.few_words))

pub store_word-requires : goal.store_word-requires
store_word-requires c = (omega (arith, variable-inside c.requires _ (within-is c.requires).0, c.number_at.ensures), omega (arith, c.requires.ready.inside))

pub returns : goal.returns
returns c =
    made_so _ _ _ _ _ (assigned c.args.store.now c.args.line c.number_at.result (again c.operand-value.result) c.store_word.result c.store_word.new.store c.store_word.ensures)
    (copy-next c.args.store.now c.requires c.left_constant.result c.left_constant.ensures c.number_at.result c.number_at.ensures c.operand-value.result c.operand-value.type_inv c.operand-value.ensures)
