-- `fetch` reads the index, makes the bounds test and stores the element.
use Rattle.flat.proofs.Accepts.{array-below}
use Rattle.flat.specs.Words.{right_constant}
use Rattle.flat_steps.proofs.Handed.{assigned, failed, made_so}
use Rattle.flat_steps.proofs.Made.{fetch-within, small, field-inside, variable-inside, operand-ready, lies, fetch-fails, fetch-next, fetch-inside}
use borrow.Author.Rules.{rules}
use mathlib.Core.Path.{refl}
use native.Mathlib.Omega.{arith}
use Rattle.flat_steps.proofs.lines.fetch.Goals as goal

pub operand-index-requires : goal.operand-index-requires
operand-index-requires c = operand-ready c.requires 3 (omega arith) (right_constant c.args.operation) c.right_constant.result c.right_constant.ensures (fetch-within c.args.store.now c.requires).2

pub number_at-requires : goal.number_at-requires
number_at-requires c = (field-inside c.requires 2 (omega arith), omega (arith, array-below _ (small c.requires) _ (fetch-within c.args.store.now c.requires).1, (small c.requires).few_arrays))

pub locate-requires : goal.locate-requires
locate-requires c = rw c.number_at.ensures (lies c.requires _ (fetch-within c.args.store.now c.requires).1).bounded

pub offset_bounds-store-at : goal.offset_bounds-store-at
offset_bounds-store-at c = omega (arith, fetch-inside c.args.store.now c.requires c.right_constant.result c.right_constant.ensures c.number_at.result c.number_at.ensures c.operand-index.result c.operand-index.type_inv c.operand-index.ensures c.locate.result c.locate.ensures c.in_ok-at.at c.in_ok-at.was, c.requires.ready.setting.few_words)

pub slice_copy_out-value : goal.slice_copy_out-value
slice_copy_out-value c = fetch-inside c.args.store.now c.requires c.right_constant.result c.right_constant.ensures c.number_at.result c.number_at.ensures c.operand-index.result c.operand-index.type_inv c.operand-index.ensures c.locate.result c.locate.ensures c.in_ok-at.at c.in_ok-at.was

pub number_at-requires-2 : goal.number_at-requires-2
number_at-requires-2 c = (field-inside c.requires 1 (omega arith), omega (arith, variable-inside c.requires _ (fetch-within c.args.store.now c.requires).0, c.requires.ready.setting.few_words))

pub returns-in_err-at : goal.returns-in_err-at
returns-in_err-at c = failed c.args.store.now _ _ c.from_residual.ensures.1 _ (fetch-fails c.args.store.now c.requires c.right_constant.result c.right_constant.ensures c.number_at.result c.number_at.ensures c.operand-index.result c.operand-index.type_inv c.operand-index.ensures c.locate.result c.locate.ensures _ c.in_err-at.was)

pub store_word-requires : goal.store_word-requires
store_word-requires c = (omega (arith, variable-inside c.requires _ (fetch-within c.args.store.now c.requires).0, c.number_at-2.ensures), omega (arith, c.requires.ready.inside))

pub returns : goal.returns
returns c =
    made_so _ _ _ _ _ (assigned c.args.store.now c.args.line c.number_at-2.result _ c.store_word.result c.store_word.new.store c.store_word.ensures)
    (fetch-next c.args.store.now c.requires c.right_constant.result c.right_constant.ensures c.number_at.result c.number_at.ensures c.operand-index.result c.operand-index.type_inv c.operand-index.ensures c.locate.result c.locate.ensures c.in_ok-at.at c.in_ok-at.was c.number_at-2.result c.number_at-2.ensures _ c.value-1.given refl)
