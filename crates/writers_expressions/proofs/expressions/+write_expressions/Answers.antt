-- The writers of expressions meet their contracts: what stands in the table is the emission of the code of the tree at the row. Each need
-- is a law of the parts that are written so far.
use mathlib.Core.Path.{sym, ap, ◌∙◌}
use Prim.Native.Nat.{◌+◌, ◌<◌}
use native.Mathlib.Omega.{arith}
use Rattle.language.specs.Decode.{argument_list_at, part_at}
use Rattle.measures_table.specs.Parts.{called_in}
use Rattle.writers_rows.specs.LeafLaws.{recoded, nothing-wrote}
use Rattle.writers_calls.specs.ArgumentLaws.{link-inside}
use Rattle.writers_calls.specs.CallCode.{code-none}
use Rattle.writers_calls.specs.Ranks.{rank_most, rank-some}
use Rattle.writers_expressions.proofs.ArgumentParts.{size_is, count_is, levels-low, value_inside, value-small, next-falls, value-falls, behind-asks, rest-reach, value-asks, value-reach, argument-room, arguments-length, arguments-written, arguments-asked, argument-found, behind-written, value-written}
use Rattle.writers_rows.proofs.Words.{pick-most}
use Rattle.writers_expressions.proofs.BranchParts.{code-small, branch-room, row-reach, code-asks, code-reach, end-room, branch-length, branch-written, branch-asked, branch-sizes, block-row, code-written}
use Rattle.writers_expressions.proofs.CallParts.{call-small, target_low, first_below, count_low, own-within, arguments-ask, arguments-reach, call_asks, call_length, call-written, call-asked, call-found, passed-written}
use Rattle.writers_rows.specs.Chain.{room-less}
use Rattle.writers_expressions.proofs.ChoiceParts.{true-small, false-small, choice-room, if-reach, true-room, true-reach, false-room, choice-length, choice-written, choice-asked, choice-sizes, if-rows, true-branch}
use Rattle.measures_table.specs.MeasureLaws.{whole-behind}
use Rattle.translation.specs.Translate.{operand_code}
use Rattle.writers_expressions.proofs.ExpressionParts.{source, all_small, called-asks, called-code, copied-most, first_inside, first_small, second-inside, second-small, held-within, operands-within, second-levels, level-small, first-falls, second-falls, first-asks, sizes-within, first_reach, hold-room, held-reach, second-asks, second-reach, last-asks, expression-length, expression-written, expression-asked, operands-found, expression-sizes, first-written, held-written, second-written, last-written}
use Rattle.writers_expressions.proofs.Ranks.{choice-falls}
use Rattle.writers_expressions.proofs.Choices.{chosen, branches-fit}
use Rattle.writers_expressions.proofs.expressions.+write_expressions.Goals as goal

-- The arguments of a call are written as their code: those behind the first, the first one's code and the copy of its value stand one behind the
-- other. What is known at each place is gathered once, in a record of ArgumentParts; each need is a law of the nearest record.

-- ---- no arguments
pub write_arguments-returns-then-count-eq0 : goal.write_arguments-returns-then-count-eq0
write_arguments-returns-then-count-eq0 t c =
    let args = c.args in
    let rows = args.source.now.rows.now in
    recoded _ _ _ _ _ _ (nothing-wrote args.at.follows args.at.base _)
    (code-none (called_in rows) args.source.now.store (argument_list_at rows args.argument) args.copies args.at.level (omega (arith, c.requires.1.count_is, c.if-count-eq0.true)))

-- ---- the first argument
pub write_arguments-arguments_taken-requires : goal.write_arguments-arguments_taken-requires
write_arguments-arguments_taken-requires t c =
    (c.requires.0.measured, omega (arith, c.number_at-next.ensures, link-inside _ c.requires.1.inside c.argument_value-e.ensures.behind))

pub write_arguments-overflow_add-above : goal.write_arguments-overflow_add-above
write_arguments-overflow_add-above t c =
    omega (arith, c.arguments_taken.ensures.low, c.requires.1.level_low, rank_most c.args.source.now.rows.now c.number_at-next.result, c.requires.0.measured.source.few_rows)

pub write_arguments-operand_size-k-requires : goal.write_arguments-operand_size-k-requires
write_arguments-operand_size-k-requires t c =
    let asked = (arguments-asked c.args.out.now c.requires) in
    let at = c.argument_value-e.ensures in
    (asked.writing.measured, at.onward.inside, value-small asked at)

pub write_arguments-overflow_add-rest : goal.write_arguments-overflow_add-rest
write_arguments-overflow_add-rest t c = omega (arith, size_is (argument-found (arguments-asked c.args.out.now c.requires) c.argument_value-e.ensures c.number_at-next.ensures c.arguments_taken.ensures c.operand_size-k.ensures), c.requires.1.room.low)

pub write_arguments-overflow_sub-rest : goal.write_arguments-overflow_sub-rest
write_arguments-overflow_sub-rest t c = omega (arith, size_is (argument-found (arguments-asked c.args.out.now c.requires) c.argument_value-e.ensures c.number_at-next.ensures c.arguments_taken.ensures c.operand_size-k.ensures))

pub write_arguments-overflow_add-n : goal.write_arguments-overflow_add-n
write_arguments-overflow_add-n t c = omega (arith, size_is (argument-found (arguments-asked c.args.out.now c.requires) c.argument_value-e.ensures c.number_at-next.ensures c.arguments_taken.ensures c.operand_size-k.ensures), c.requires.1.room.low)

pub write_arguments-overflow_sub-count : goal.write_arguments-overflow_sub-count
write_arguments-overflow_sub-count t c = omega (arith, count_is (argument-found (arguments-asked c.args.out.now c.requires) c.argument_value-e.ensures c.number_at-next.ensures c.arguments_taken.ensures c.operand_size-k.ensures))

-- ---- those behind it
pub write_arguments-write_arguments-requires : goal.write_arguments-write_arguments-requires
write_arguments-write_arguments-requires t c =
    (omega (arith, next-falls (argument-found (arguments-asked c.args.out.now c.requires) c.argument_value-e.ensures c.number_at-next.ensures c.arguments_taken.ensures c.operand_size-k.ensures), c.decreases), (c.requires.0, behind-asks (argument-found (arguments-asked c.args.out.now c.requires) c.argument_value-e.ensures c.number_at-next.ensures c.arguments_taken.ensures c.operand_size-k.ensures)))

-- ---- its code
pub write_arguments-overflow_mul-rest : goal.write_arguments-overflow_mul-rest
write_arguments-overflow_mul-rest t c = omega (arith, rest-reach (behind-written c.more.result (argument-found (arguments-asked c.args.out.now c.requires) c.argument_value-e.ensures c.number_at-next.ensures c.arguments_taken.ensures c.operand_size-k.ensures) c.write_arguments.ensures))

pub write_arguments-offset_bounds-out-rest : goal.write_arguments-offset_bounds-out-rest
write_arguments-offset_bounds-out-rest t c = omega (arith, rest-reach (behind-written c.more.result (argument-found (arguments-asked c.args.out.now c.requires) c.argument_value-e.ensures c.number_at-next.ensures c.arguments_taken.ensures c.operand_size-k.ensures) c.write_arguments.ensures))

pub write_arguments-slice_bounds-write_expression-count : goal.write_arguments-slice_bounds-write_expression-count
write_arguments-slice_bounds-write_expression-count t c = omega (arith, rest-reach (behind-written c.more.result (argument-found (arguments-asked c.args.out.now c.requires) c.argument_value-e.ensures c.number_at-next.ensures c.arguments_taken.ensures c.operand_size-k.ensures) c.write_arguments.ensures))

pub write_arguments-slice_bounds-write_expression-start : goal.write_arguments-slice_bounds-write_expression-start
write_arguments-slice_bounds-write_expression-start t c = omega (arith, rest-reach (behind-written c.more.result (argument-found (arguments-asked c.args.out.now c.requires) c.argument_value-e.ensures c.number_at-next.ensures c.arguments_taken.ensures c.operand_size-k.ensures) c.write_arguments.ensures))

pub write_arguments-slice_bounds-write_expression-end : goal.write_arguments-slice_bounds-write_expression-end
write_arguments-slice_bounds-write_expression-end t c = omega (arith, rest-reach (behind-written c.more.result (argument-found (arguments-asked c.args.out.now c.requires) c.argument_value-e.ensures c.number_at-next.ensures c.arguments_taken.ensures c.operand_size-k.ensures) c.write_arguments.ensures))

pub write_arguments-write_expression-requires : goal.write_arguments-write_expression-requires
write_arguments-write_expression-requires t c =
    (omega (arith, value-falls (argument-found (arguments-asked c.args.out.now c.requires) c.argument_value-e.ensures c.number_at-next.ensures c.arguments_taken.ensures c.operand_size-k.ensures), c.decreases), (c.requires.0, value-asks (behind-written c.more.result (argument-found (arguments-asked c.args.out.now c.requires) c.argument_value-e.ensures c.number_at-next.ensures c.arguments_taken.ensures c.operand_size-k.ensures) c.write_arguments.ensures)))

-- ---- the copy of its value
pub write_arguments-overflow_add-at-2 : goal.write_arguments-overflow_add-at-2
write_arguments-overflow_add-at-2 t c = omega (arith, value-reach (value-written c.more-held.result (behind-written c.more.result (argument-found (arguments-asked c.args.out.now c.requires) c.argument_value-e.ensures c.number_at-next.ensures c.arguments_taken.ensures c.operand_size-k.ensures) c.write_arguments.ensures) c.more.ensures c.write_expression.ensures))

pub write_arguments-overflow_mul-n : goal.write_arguments-overflow_mul-n
write_arguments-overflow_mul-n t c = omega (arith, value-reach (value-written c.more-held.result (behind-written c.more.result (argument-found (arguments-asked c.args.out.now c.requires) c.argument_value-e.ensures c.number_at-next.ensures c.arguments_taken.ensures c.operand_size-k.ensures) c.write_arguments.ensures) c.more.ensures c.write_expression.ensures))

pub write_arguments-offset_bounds-out-n : goal.write_arguments-offset_bounds-out-n
write_arguments-offset_bounds-out-n t c = omega (arith, value-reach (value-written c.more-held.result (behind-written c.more.result (argument-found (arguments-asked c.args.out.now c.requires) c.argument_value-e.ensures c.number_at-next.ensures c.arguments_taken.ensures c.operand_size-k.ensures) c.write_arguments.ensures) c.more.ensures c.write_expression.ensures))

pub write_arguments-slice_bounds-put_hold-count : goal.write_arguments-slice_bounds-put_hold-count
write_arguments-slice_bounds-put_hold-count t c = omega (arith, value-reach (value-written c.more-held.result (behind-written c.more.result (argument-found (arguments-asked c.args.out.now c.requires) c.argument_value-e.ensures c.number_at-next.ensures c.arguments_taken.ensures c.operand_size-k.ensures) c.write_arguments.ensures) c.more.ensures c.write_expression.ensures))

pub write_arguments-slice_bounds-put_hold-start : goal.write_arguments-slice_bounds-put_hold-start
write_arguments-slice_bounds-put_hold-start t c = omega (arith, value-reach (value-written c.more-held.result (behind-written c.more.result (argument-found (arguments-asked c.args.out.now c.requires) c.argument_value-e.ensures c.number_at-next.ensures c.arguments_taken.ensures c.operand_size-k.ensures) c.write_arguments.ensures) c.more.ensures c.write_expression.ensures))

pub write_arguments-slice_bounds-put_hold-end : goal.write_arguments-slice_bounds-put_hold-end
write_arguments-slice_bounds-put_hold-end t c = omega (arith, value-reach (value-written c.more-held.result (behind-written c.more.result (argument-found (arguments-asked c.args.out.now c.requires) c.argument_value-e.ensures c.number_at-next.ensures c.arguments_taken.ensures c.operand_size-k.ensures) c.write_arguments.ensures) c.more.ensures c.write_expression.ensures))

pub write_arguments-put_hold-requires : goal.write_arguments-put_hold-requires
write_arguments-put_hold-requires t c =
    (c.requires.0, value_inside (argument-found (arguments-asked c.args.out.now c.requires) c.argument_value-e.ensures c.number_at-next.ensures c.arguments_taken.ensures c.operand_size-k.ensures), omega (arith, (levels-low (argument-found (arguments-asked c.args.out.now c.requires) c.argument_value-e.ensures c.number_at-next.ensures c.arguments_taken.ensures c.operand_size-k.ensures)).1), argument-room (value-written c.more-held.result (behind-written c.more.result (argument-found (arguments-asked c.args.out.now c.requires) c.argument_value-e.ensures c.number_at-next.ensures c.arguments_taken.ensures c.operand_size-k.ensures) c.write_arguments.ensures) c.more.ensures c.write_expression.ensures))

pub write_arguments-shape_of-out : goal.write_arguments-shape_of-out
write_arguments-shape_of-out t c =
    arguments-length (value-written c.more-held.result (behind-written c.more.result (argument-found (arguments-asked c.args.out.now c.requires) c.argument_value-e.ensures c.number_at-next.ensures c.arguments_taken.ensures c.operand_size-k.ensures) c.write_arguments.ensures) c.more.ensures c.write_expression.ensures) c.args.at.follows c.more-held.ensures c.put_hold.ensures

pub write_arguments-returns : goal.write_arguments-returns
write_arguments-returns t c =
    arguments-written (value-written c.more-held.result (behind-written c.more.result (argument-found (arguments-asked c.args.out.now c.requires) c.argument_value-e.ensures c.number_at-next.ensures c.arguments_taken.ensures c.operand_size-k.ensures) c.write_arguments.ensures) c.more.ensures c.write_expression.ensures) c.args.at.follows c.more-held.ensures c.put_hold.ensures

-- A branch is written as the block of its code: the block's row, the expression's code and the end stand one behind the other. What is known
-- at each place is gathered once, in a record of BranchParts; each need is a law of the nearest record.

-- ---- the sizes
pub write_branch-operand_size-k-requires : goal.write_branch-operand_size-k-requires
write_branch-operand_size-k-requires t c =
    let asked = (branch-asked c.args.out.now c.requires) in
    (asked.writing.measured, asked.fits.inside, code-small asked)

pub write_branch-overflow_add-n : goal.write_branch-overflow_add-n
write_branch-overflow_add-n t c = omega (arith, branch-room (branch-sizes (branch-asked c.args.out.now c.requires) c.operand_size-k.ensures c.finish_size-last.ensures))

pub write_branch-overflow_add-k : goal.write_branch-overflow_add-k
write_branch-overflow_add-k t c = omega (arith, branch-room (branch-sizes (branch-asked c.args.out.now c.requires) c.operand_size-k.ensures c.finish_size-last.ensures))

pub write_branch-overflow_add-base : goal.write_branch-overflow_add-base
write_branch-overflow_add-base t c = omega (arith, branch-room (branch-sizes (branch-asked c.args.out.now c.requires) c.operand_size-k.ensures c.finish_size-last.ensures))

-- ---- the block's row
pub write_branch-put_block-requires : goal.write_branch-put_block-requires
write_branch-put_block-requires t c =
    let room = branch-room (branch-sizes (branch-asked c.args.out.now c.requires) c.operand_size-k.ensures c.finish_size-last.ensures) in
    let base = c.args.base in
    let Past-more = c.more in
    let past-behind = c.behind in
    (omega (arith, room), omega (arith, room, past-behind.ensures, pick-most Past-more.result (base + 1)), omega arith)

-- ---- the expression's code
pub write_branch-overflow_add-base-2 : goal.write_branch-overflow_add-base-2
write_branch-overflow_add-base-2 t c = omega (arith, row-reach (block-row (branch-sizes (branch-asked c.args.out.now c.requires) c.operand_size-k.ensures c.finish_size-last.ensures) c.more.ensures c.behind.ensures c.put_block.ensures))

pub write_branch-slice_bounds-write_expression-count : goal.write_branch-slice_bounds-write_expression-count
write_branch-slice_bounds-write_expression-count t c = omega (arith, row-reach (block-row (branch-sizes (branch-asked c.args.out.now c.requires) c.operand_size-k.ensures c.finish_size-last.ensures) c.more.ensures c.behind.ensures c.put_block.ensures))

pub write_branch-slice_bounds-write_expression-start : goal.write_branch-slice_bounds-write_expression-start
write_branch-slice_bounds-write_expression-start t c = omega (arith, row-reach (block-row (branch-sizes (branch-asked c.args.out.now c.requires) c.operand_size-k.ensures c.finish_size-last.ensures) c.more.ensures c.behind.ensures c.put_block.ensures))

pub write_branch-slice_bounds-write_expression-end : goal.write_branch-slice_bounds-write_expression-end
write_branch-slice_bounds-write_expression-end t c = omega (arith, row-reach (block-row (branch-sizes (branch-asked c.args.out.now c.requires) c.operand_size-k.ensures c.finish_size-last.ensures) c.more.ensures c.behind.ensures c.put_block.ensures))

pub write_branch-write_expression-requires : goal.write_branch-write_expression-requires
write_branch-write_expression-requires t c =
    let measure = c.decreases in
    (omega (arith, measure), ((branch-asked c.args.out.now c.requires).writing, code-asks (block-row (branch-sizes (branch-asked c.args.out.now c.requires) c.operand_size-k.ensures c.finish_size-last.ensures) c.more.ensures c.behind.ensures c.put_block.ensures)))

-- ---- the end
pub write_branch-overflow_add-base-3 : goal.write_branch-overflow_add-base-3
write_branch-overflow_add-base-3 t c = omega (arith, code-reach (code-written (block-row (branch-sizes (branch-asked c.args.out.now c.requires) c.operand_size-k.ensures c.finish_size-last.ensures) c.more.ensures c.behind.ensures c.put_block.ensures) c.more-2.result c.more-2.ensures c.write_expression.ensures))

pub write_branch-overflow_mul-n : goal.write_branch-overflow_mul-n
write_branch-overflow_mul-n t c = omega (arith, code-reach (code-written (block-row (branch-sizes (branch-asked c.args.out.now c.requires) c.operand_size-k.ensures c.finish_size-last.ensures) c.more.ensures c.behind.ensures c.put_block.ensures) c.more-2.result c.more-2.ensures c.write_expression.ensures))

pub write_branch-offset_bounds-out-n : goal.write_branch-offset_bounds-out-n
write_branch-offset_bounds-out-n t c = omega (arith, code-reach (code-written (block-row (branch-sizes (branch-asked c.args.out.now c.requires) c.operand_size-k.ensures c.finish_size-last.ensures) c.more.ensures c.behind.ensures c.put_block.ensures) c.more-2.result c.more-2.ensures c.write_expression.ensures))

pub write_branch-slice_bounds-put_finish-count : goal.write_branch-slice_bounds-put_finish-count
write_branch-slice_bounds-put_finish-count t c = omega (arith, code-reach (code-written (block-row (branch-sizes (branch-asked c.args.out.now c.requires) c.operand_size-k.ensures c.finish_size-last.ensures) c.more.ensures c.behind.ensures c.put_block.ensures) c.more-2.result c.more-2.ensures c.write_expression.ensures))

pub write_branch-slice_bounds-put_finish-start : goal.write_branch-slice_bounds-put_finish-start
write_branch-slice_bounds-put_finish-start t c = omega (arith, code-reach (code-written (block-row (branch-sizes (branch-asked c.args.out.now c.requires) c.operand_size-k.ensures c.finish_size-last.ensures) c.more.ensures c.behind.ensures c.put_block.ensures) c.more-2.result c.more-2.ensures c.write_expression.ensures))

pub write_branch-slice_bounds-put_finish-end : goal.write_branch-slice_bounds-put_finish-end
write_branch-slice_bounds-put_finish-end t c = omega (arith, code-reach (code-written (block-row (branch-sizes (branch-asked c.args.out.now c.requires) c.operand_size-k.ensures c.finish_size-last.ensures) c.more.ensures c.behind.ensures c.put_block.ensures) c.more-2.result c.more-2.ensures c.write_expression.ensures))

pub write_branch-put_finish-requires : goal.write_branch-put_finish-requires
write_branch-put_finish-requires t c =
    let asked = (branch-asked c.args.out.now c.requires) in
    (end-room (code-written (block-row (branch-sizes (branch-asked c.args.out.now c.requires) c.operand_size-k.ensures c.finish_size-last.ensures) c.more.ensures c.behind.ensures c.put_block.ensures) c.more-2.result c.more-2.ensures c.write_expression.ensures), asked.fits.atom_fits, omega (arith, asked.fits.level_low, asked.writing.small_store))

pub write_branch-shape_of-out : goal.write_branch-shape_of-out
write_branch-shape_of-out t c = branch-length (code-written (block-row (branch-sizes (branch-asked c.args.out.now c.requires) c.operand_size-k.ensures c.finish_size-last.ensures) c.more.ensures c.behind.ensures c.put_block.ensures) c.more-2.result c.more-2.ensures c.write_expression.ensures) _ c.put_finish.ensures

pub write_branch-returns : goal.write_branch-returns
write_branch-returns t c = branch-written (code-written (block-row (branch-sizes (branch-asked c.args.out.now c.requires) c.operand_size-k.ensures c.finish_size-last.ensures) c.more.ensures c.behind.ensures c.put_block.ensures) c.more-2.result c.more-2.ensures c.write_expression.ensures) _ c.put_finish.ensures

-- A call is written as its code: its arguments' code and the call on what holds them stand one behind the other. What is known at each place is
-- gathered once, in a record of CallParts; each need is a law of the nearest record.

-- ---- the call
pub write_call-argument_count-count-requires : goal.write_call-argument_count-count-requires
write_call-argument_count-count-requires t c =
    (c.requires.0.measured.source, link-inside _ c.requires.1.inside c.call_at-call.ensures.onward)

pub write_call-target_word-number-requires : goal.write_call-target_word-number-requires
write_call-target_word-number-requires t c =
    let asked = (call-asked c.args.out.now c.requires) in
    (target_low asked, asked.asks.use_fits)

pub write_call-overflow_mul-own : goal.write_call-overflow_mul-own
write_call-overflow_mul-own t c = omega (arith, count_low (call-found (call-asked c.args.out.now c.requires) c.call_at-call.ensures c.call_copies-copies.ensures c.argument_count-count.ensures c.target_word-number.ensures))

pub write_call-overflow_add-own : goal.write_call-overflow_add-own
write_call-overflow_add-own t c = omega (arith, count_low (call-found (call-asked c.args.out.now c.requires) c.call_at-call.ensures c.call_copies-copies.ensures c.argument_count-count.ensures c.target_word-number.ensures))

pub write_call-operand_size-requires : goal.write_call-operand_size-requires
write_call-operand_size-requires t c =
    let asked = (call-asked c.args.out.now c.requires) in
    (asked.writing.measured, asked.asks.inside, call-small asked)

pub write_call-overflow_sub-n : goal.write_call-overflow_sub-n
write_call-overflow_sub-n t c = omega (arith, c.operand_size.ensures, own-within (call-found (call-asked c.args.out.now c.requires) c.call_at-call.ensures c.call_copies-copies.ensures c.argument_count-count.ensures c.target_word-number.ensures))

-- ---- its arguments
pub write_call-write_arguments-requires : goal.write_call-write_arguments-requires
write_call-write_arguments-requires t c =
    (omega (arith, first_below (call-found (call-asked c.args.out.now c.requires) c.call_at-call.ensures c.call_copies-copies.ensures c.argument_count-count.ensures c.target_word-number.ensures), c.decreases), (c.requires.0, arguments-ask (call-found (call-asked c.args.out.now c.requires) c.call_at-call.ensures c.call_copies-copies.ensures c.argument_count-count.ensures c.target_word-number.ensures) c.operand_size.ensures))

-- ---- the call on what holds them
pub write_call-overflow_mul-n : goal.write_call-overflow_mul-n
write_call-overflow_mul-n t c = omega (arith, arguments-reach (passed-written (call-found (call-asked c.args.out.now c.requires) c.call_at-call.ensures c.call_copies-copies.ensures c.argument_count-count.ensures c.target_word-number.ensures) c.operand_size.ensures c.write_arguments.ensures))

pub write_call-offset_bounds-out-n : goal.write_call-offset_bounds-out-n
write_call-offset_bounds-out-n t c = omega (arith, arguments-reach (passed-written (call-found (call-asked c.args.out.now c.requires) c.call_at-call.ensures c.call_copies-copies.ensures c.argument_count-count.ensures c.target_word-number.ensures) c.operand_size.ensures c.write_arguments.ensures))

pub write_call-slice_bounds-put_call-count : goal.write_call-slice_bounds-put_call-count
write_call-slice_bounds-put_call-count t c = omega (arith, arguments-reach (passed-written (call-found (call-asked c.args.out.now c.requires) c.call_at-call.ensures c.call_copies-copies.ensures c.argument_count-count.ensures c.target_word-number.ensures) c.operand_size.ensures c.write_arguments.ensures))

pub write_call-slice_bounds-put_call-start : goal.write_call-slice_bounds-put_call-start
write_call-slice_bounds-put_call-start t c = omega (arith, arguments-reach (passed-written (call-found (call-asked c.args.out.now c.requires) c.call_at-call.ensures c.call_copies-copies.ensures c.argument_count-count.ensures c.target_word-number.ensures) c.operand_size.ensures c.write_arguments.ensures))

pub write_call-slice_bounds-put_call-end : goal.write_call-slice_bounds-put_call-end
write_call-slice_bounds-put_call-end t c = omega (arith, arguments-reach (passed-written (call-found (call-asked c.args.out.now c.requires) c.call_at-call.ensures c.call_copies-copies.ensures c.argument_count-count.ensures c.target_word-number.ensures) c.operand_size.ensures c.write_arguments.ensures))

pub write_call-put_call-requires : goal.write_call-put_call-requires
write_call-put_call-requires t c =
    (c.requires.0, call_asks (passed-written (call-found (call-asked c.args.out.now c.requires) c.call_at-call.ensures c.call_copies-copies.ensures c.argument_count-count.ensures c.target_word-number.ensures) c.operand_size.ensures c.write_arguments.ensures))

pub write_call-shape_of-out : goal.write_call-shape_of-out
write_call-shape_of-out t c =
    call_length (passed-written (call-found (call-asked c.args.out.now c.requires) c.call_at-call.ensures c.call_copies-copies.ensures c.argument_count-count.ensures c.target_word-number.ensures) c.operand_size.ensures c.write_arguments.ensures) c.args.at.follows c.put_call.ensures

pub write_call-returns : goal.write_call-returns
write_call-returns t c =
    call-written (passed-written (call-found (call-asked c.args.out.now c.requires) c.call_at-call.ensures c.call_copies-copies.ensures c.argument_count-count.ensures c.target_word-number.ensures) c.operand_size.ensures c.write_arguments.ensures) c.args.at.follows c.put_call.ensures

-- A choice is written as an if: its rows and the two branches stand one behind the other. What is known at each place is gathered once, in
-- a record of ChoiceParts; each need is a law of the nearest record.

-- ---- the sizes
pub write_choice-branch_size-n-requires : goal.write_choice-branch_size-n-requires
write_choice-branch_size-n-requires t c =
    let asked = (choice-asked c.args.test c.args.out.now c.requires.writing c.requires.room) in
    (asked.writing.measured, asked.true_fits.inside, omega (arith, true-small asked))

pub write_choice-overflow_add-n : goal.write_choice-overflow_add-n
write_choice-overflow_add-n t c = omega (arith, true-small (choice-asked c.args.test c.args.out.now c.requires.writing c.requires.room), c.branch_size-n.ensures)

pub write_choice-branch_size-requires : goal.write_choice-branch_size-requires
write_choice-branch_size-requires t c =
    let asked = (choice-asked c.args.test c.args.out.now c.requires.writing c.requires.room) in
    (asked.writing.measured, asked.false_fits.inside, omega (arith, false-small asked))

pub write_choice-overflow_add-m : goal.write_choice-overflow_add-m
write_choice-overflow_add-m t c = omega (arith, choice-room (choice-sizes (choice-asked c.args.test c.args.out.now c.requires.writing c.requires.room) c.branch_size-n.ensures c.branch_size.ensures))

-- ---- the rows of the if and of its test
pub write_choice-put_if-requires : goal.write_choice-put_if-requires
write_choice-put_if-requires t c =
    let room = choice-room (choice-sizes (choice-asked c.args.test c.args.out.now c.requires.writing c.requires.room) c.branch_size-n.ensures c.branch_size.ensures) in
    let args = c.args in
    let end = args.at.base + (2 + c.branch_size-n.result + c.branch_size.result) in (
      room-less 2 room (omega arith),
      omega (arith, room),
      omega (arith, room, c.behind.ensures, pick-most args.at.follows end),
      (choice-asked c.args.test c.args.out.now c.requires.writing c.requires.room).test_fits,
    )

-- ---- the branch taken where the test is true
pub write_choice-slice_bounds-write_branch-count : goal.write_choice-slice_bounds-write_branch-count
write_choice-slice_bounds-write_branch-count t c = omega (arith, if-reach (if-rows (choice-sizes (choice-asked c.args.test c.args.out.now c.requires.writing c.requires.room) c.branch_size-n.ensures c.branch_size.ensures) c.args.at.follows c.behind.ensures c.put_if.ensures))

pub write_choice-slice_bounds-write_branch-start : goal.write_choice-slice_bounds-write_branch-start
write_choice-slice_bounds-write_branch-start t c = omega (arith, if-reach (if-rows (choice-sizes (choice-asked c.args.test c.args.out.now c.requires.writing c.requires.room) c.branch_size-n.ensures c.branch_size.ensures) c.args.at.follows c.behind.ensures c.put_if.ensures))

pub write_choice-slice_bounds-write_branch-end : goal.write_choice-slice_bounds-write_branch-end
write_choice-slice_bounds-write_branch-end t c = omega (arith, if-reach (if-rows (choice-sizes (choice-asked c.args.test c.args.out.now c.requires.writing c.requires.room) c.branch_size-n.ensures c.branch_size.ensures) c.args.at.follows c.behind.ensures c.put_if.ensures))

pub write_choice-write_branch-requires : goal.write_choice-write_branch-requires
write_choice-write_branch-requires t c =
    let measure = c.decreases in
    let asked = (choice-asked c.args.test c.args.out.now c.requires.writing c.requires.room) in
    (omega (arith, measure), (asked.writing, asked.true_fits, true-room (if-rows (choice-sizes (choice-asked c.args.test c.args.out.now c.requires.writing c.requires.room) c.branch_size-n.ensures c.branch_size.ensures) c.args.at.follows c.behind.ensures c.put_if.ensures)))

-- ---- the other branch
pub write_choice-overflow_mul-n : goal.write_choice-overflow_mul-n
write_choice-overflow_mul-n t c = omega (arith, true-reach (true-branch (if-rows (choice-sizes (choice-asked c.args.test c.args.out.now c.requires.writing c.requires.room) c.branch_size-n.ensures c.branch_size.ensures) c.args.at.follows c.behind.ensures c.put_if.ensures) c.write_branch.ensures))

pub write_choice-offset_bounds-out-n : goal.write_choice-offset_bounds-out-n
write_choice-offset_bounds-out-n t c = omega (arith, true-reach (true-branch (if-rows (choice-sizes (choice-asked c.args.test c.args.out.now c.requires.writing c.requires.room) c.branch_size-n.ensures c.branch_size.ensures) c.args.at.follows c.behind.ensures c.put_if.ensures) c.write_branch.ensures))

pub write_choice-slice_bounds-write_branch-count-2 : goal.write_choice-slice_bounds-write_branch-count-2
write_choice-slice_bounds-write_branch-count-2 t c = omega (arith, true-reach (true-branch (if-rows (choice-sizes (choice-asked c.args.test c.args.out.now c.requires.writing c.requires.room) c.branch_size-n.ensures c.branch_size.ensures) c.args.at.follows c.behind.ensures c.put_if.ensures) c.write_branch.ensures))

pub write_choice-slice_bounds-write_branch-start-2 : goal.write_choice-slice_bounds-write_branch-start-2
write_choice-slice_bounds-write_branch-start-2 t c = omega (arith, true-reach (true-branch (if-rows (choice-sizes (choice-asked c.args.test c.args.out.now c.requires.writing c.requires.room) c.branch_size-n.ensures c.branch_size.ensures) c.args.at.follows c.behind.ensures c.put_if.ensures) c.write_branch.ensures))

pub write_choice-slice_bounds-write_branch-end-2 : goal.write_choice-slice_bounds-write_branch-end-2
write_choice-slice_bounds-write_branch-end-2 t c = omega (arith, true-reach (true-branch (if-rows (choice-sizes (choice-asked c.args.test c.args.out.now c.requires.writing c.requires.room) c.branch_size-n.ensures c.branch_size.ensures) c.args.at.follows c.behind.ensures c.put_if.ensures) c.write_branch.ensures))

pub write_choice-write_branch-requires-2 : goal.write_choice-write_branch-requires-2
write_choice-write_branch-requires-2 t c =
    let measure = c.decreases in
    let asked = (choice-asked c.args.test c.args.out.now c.requires.writing c.requires.room) in
    (omega (arith, measure), (asked.writing, asked.false_fits, false-room (true-branch (if-rows (choice-sizes (choice-asked c.args.test c.args.out.now c.requires.writing c.requires.room) c.branch_size-n.ensures c.branch_size.ensures) c.args.at.follows c.behind.ensures c.put_if.ensures) c.write_branch.ensures)))

pub write_choice-shape_of-out : goal.write_choice-shape_of-out
write_choice-shape_of-out t c = choice-length (true-branch (if-rows (choice-sizes (choice-asked c.args.test c.args.out.now c.requires.writing c.requires.room) c.branch_size-n.ensures c.branch_size.ensures) c.args.at.follows c.behind.ensures c.put_if.ensures) c.write_branch.ensures) _ c.write_branch-2.ensures

pub write_choice-returns : goal.write_choice-returns
write_choice-returns t c = choice-written (true-branch (if-rows (choice-sizes (choice-asked c.args.test c.args.out.now c.requires.writing c.requires.room) c.branch_size-n.ensures c.branch_size.ensures) c.args.at.follows c.behind.ensures c.put_if.ensures) c.write_branch.ensures) _ c.write_branch-2.ensures

-- An expression is written as its code: the operands' code, the copy between them and what is done with their values stand one behind the other. What is known at
-- each place is gathered once, in a record of ExpressionParts; each need is a law of the nearest record.

-- ---- an absent expression
pub write_expression-returns-then-row-eq0 : goal.write_expression-returns-then-row-eq0
write_expression-returns-then-row-eq0 t c =
    let args = c.args in
    recoded _ _ _ _ _ _ (nothing-wrote args.at.follows args.at.base _)
    (ap (λ r. operand_code (called_in args.source.now.rows.now) args.source.now.store (part_at args.source.now.rows.now r) args.usage args.at.level) (sym c.if-row-eq0.true))

-- ---- a call
pub write_expression-is_call-requires : goal.write_expression-is_call-requires
write_expression-is_call-requires t c =
    let asked = (expression-asked c.args.out.now c.requires) in
    (source asked, asked.asks.inside)

pub write_expression-write_call-requires : goal.write_expression-write_call-requires
write_expression-write_call-requires t c =
    let asked = (expression-asked c.args.out.now c.requires) in
    let some : 0 < c.args.row = omega (arith, c.if-row-eq0.false) in
    let rank_is = rank-some c.args.source.now.rows.now c.args.row some in
    (omega (arith, rank_is, asked.asks.inside, c.decreases), (asked.writing, called-asks asked some (sym c.is_call.ensures ∙ c.if-is_call.true)))

pub write_expression-returns-then-is_call : goal.write_expression-returns-then-is_call
write_expression-returns-then-is_call t c = recoded _ _ _ _ _ _ c.write_call.ensures (called-code (expression-asked c.args.out.now c.requires) (omega (arith, c.if-row-eq0.false)))

-- ---- the operands and the sizes
pub write_expression-operand_copied-copied-requires : goal.write_expression-operand_copied-copied-requires
write_expression-operand_copied-copied-requires t c =
    let asked = (expression-asked c.args.out.now c.requires) in
    (asked.writing.measured, asked.asks.inside)

pub write_expression-own_at-own-requires : goal.write_expression-own_at-own-requires
write_expression-own_at-own-requires t c =
    let asked = (expression-asked c.args.out.now c.requires) in
    record { measured_from = (whole-behind asked.writing.measured _, asked.asks.inside, c.operand_copied-copied.ensures); row_value = sym c.is_call.ensures ∙ c.if-is_call.false }

pub write_expression-overflow_add-above : goal.write_expression-overflow_add-above
write_expression-overflow_add-above t c =
    omega (arith, second-levels (operands-found (expression-asked c.args.out.now c.requires) c.if-row-eq0.false c.is_call.ensures c.if-is_call.false c.operand_copied-copied.ensures c.own_at-own.ensures c.second_use-second_use.ensures) c.own_at-own.ensures.above-is)

pub write_expression-overflow_mul-copy : goal.write_expression-overflow_mul-copy
write_expression-overflow_mul-copy t c = omega (arith, copied-most (operands-found (expression-asked c.args.out.now c.requires) c.if-row-eq0.false c.is_call.ensures c.if-is_call.false c.operand_copied-copied.ensures c.own_at-own.ensures c.second_use-second_use.ensures))

pub write_expression-operand_size-m-requires : goal.write_expression-operand_size-m-requires
write_expression-operand_size-m-requires t c =
    let operands = (operands-found (expression-asked c.args.out.now c.requires) c.if-row-eq0.false c.is_call.ensures c.if-is_call.false c.operand_copied-copied.ensures c.own_at-own.ensures c.second_use-second_use.ensures) in
    ((expression-asked c.args.out.now c.requires).writing.measured, first_inside operands, first_small operands)

pub write_expression-overflow_add-h : goal.write_expression-overflow_add-h
write_expression-overflow_add-h t c =
    omega (arith, held-within (operands-found (expression-asked c.args.out.now c.requires) c.if-row-eq0.false c.is_call.ensures c.if-is_call.false c.operand_copied-copied.ensures c.own_at-own.ensures c.second_use-second_use.ensures) c.operand_size-m.ensures, all_small (expression-asked c.args.out.now c.requires))

pub write_expression-operand_size-k-requires : goal.write_expression-operand_size-k-requires
write_expression-operand_size-k-requires t c =
    let operands = (operands-found (expression-asked c.args.out.now c.requires) c.if-row-eq0.false c.is_call.ensures c.if-is_call.false c.operand_copied-copied.ensures c.own_at-own.ensures c.second_use-second_use.ensures) in
    ((expression-asked c.args.out.now c.requires).writing.measured, second-inside operands, second-small operands)

pub write_expression-overflow_add-n : goal.write_expression-overflow_add-n
write_expression-overflow_add-n t c =
    let within = operands-within (operands-found (expression-asked c.args.out.now c.requires) c.if-row-eq0.false c.is_call.ensures c.if-is_call.false c.operand_copied-copied.ensures c.own_at-own.ensures c.second_use-second_use.ensures) c.operand_size-m.ensures c.operand_size-k.ensures in
    omega (arith, within, all_small (expression-asked c.args.out.now c.requires))

pub write_expression-operand_size-requires : goal.write_expression-operand_size-requires
write_expression-operand_size-requires t c =
    let asked = (expression-asked c.args.out.now c.requires) in
    (asked.writing.measured, asked.asks.inside, all_small asked)

pub write_expression-overflow_sub-last : goal.write_expression-overflow_sub-last
write_expression-overflow_sub-last t c = omega (arith, sizes-within (expression-sizes (operands-found (expression-asked c.args.out.now c.requires) c.if-row-eq0.false c.is_call.ensures c.if-is_call.false c.operand_copied-copied.ensures c.own_at-own.ensures c.second_use-second_use.ensures) c.operand_size-m.ensures c.operand_size-k.ensures c.operand_size.ensures))

-- ---- the first operand
pub write_expression-write_expression-requires : goal.write_expression-write_expression-requires
write_expression-write_expression-requires t c =
    let operands = (operands-found (expression-asked c.args.out.now c.requires) c.if-row-eq0.false c.is_call.ensures c.if-is_call.false c.operand_copied-copied.ensures c.own_at-own.ensures c.second_use-second_use.ensures) in
    let measure = c.decreases in
    (omega (arith, first-falls operands, measure), ((expression-asked c.args.out.now c.requires).writing, first-asks operands))

-- ---- the copy of its value
pub write_expression-overflow_add-at : goal.write_expression-overflow_add-at
write_expression-overflow_add-at t c = omega (arith, first_reach (first-written (expression-sizes (operands-found (expression-asked c.args.out.now c.requires) c.if-row-eq0.false c.is_call.ensures c.if-is_call.false c.operand_copied-copied.ensures c.own_at-own.ensures c.second_use-second_use.ensures) c.operand_size-m.ensures c.operand_size-k.ensures c.operand_size.ensures) c.more.result c.write_expression.ensures))

pub write_expression-overflow_mul-m : goal.write_expression-overflow_mul-m
write_expression-overflow_mul-m t c = omega (arith, first_reach (first-written (expression-sizes (operands-found (expression-asked c.args.out.now c.requires) c.if-row-eq0.false c.is_call.ensures c.if-is_call.false c.operand_copied-copied.ensures c.own_at-own.ensures c.second_use-second_use.ensures) c.operand_size-m.ensures c.operand_size-k.ensures c.operand_size.ensures) c.more.result c.write_expression.ensures))

pub write_expression-offset_bounds-out-m : goal.write_expression-offset_bounds-out-m
write_expression-offset_bounds-out-m t c = omega (arith, first_reach (first-written (expression-sizes (operands-found (expression-asked c.args.out.now c.requires) c.if-row-eq0.false c.is_call.ensures c.if-is_call.false c.operand_copied-copied.ensures c.own_at-own.ensures c.second_use-second_use.ensures) c.operand_size-m.ensures c.operand_size-k.ensures c.operand_size.ensures) c.more.result c.write_expression.ensures))

pub write_expression-slice_bounds-put_hold-count : goal.write_expression-slice_bounds-put_hold-count
write_expression-slice_bounds-put_hold-count t c = omega (arith, first_reach (first-written (expression-sizes (operands-found (expression-asked c.args.out.now c.requires) c.if-row-eq0.false c.is_call.ensures c.if-is_call.false c.operand_copied-copied.ensures c.own_at-own.ensures c.second_use-second_use.ensures) c.operand_size-m.ensures c.operand_size-k.ensures c.operand_size.ensures) c.more.result c.write_expression.ensures))

pub write_expression-slice_bounds-put_hold-start : goal.write_expression-slice_bounds-put_hold-start
write_expression-slice_bounds-put_hold-start t c = omega (arith, first_reach (first-written (expression-sizes (operands-found (expression-asked c.args.out.now c.requires) c.if-row-eq0.false c.is_call.ensures c.if-is_call.false c.operand_copied-copied.ensures c.own_at-own.ensures c.second_use-second_use.ensures) c.operand_size-m.ensures c.operand_size-k.ensures c.operand_size.ensures) c.more.result c.write_expression.ensures))

pub write_expression-slice_bounds-put_hold-end : goal.write_expression-slice_bounds-put_hold-end
write_expression-slice_bounds-put_hold-end t c = omega (arith, first_reach (first-written (expression-sizes (operands-found (expression-asked c.args.out.now c.requires) c.if-row-eq0.false c.is_call.ensures c.if-is_call.false c.operand_copied-copied.ensures c.own_at-own.ensures c.second_use-second_use.ensures) c.operand_size-m.ensures c.operand_size-k.ensures c.operand_size.ensures) c.more.result c.write_expression.ensures))

pub write_expression-put_hold-requires : goal.write_expression-put_hold-requires
write_expression-put_hold-requires t c =
    let operands = (operands-found (expression-asked c.args.out.now c.requires) c.if-row-eq0.false c.is_call.ensures c.if-is_call.false c.operand_copied-copied.ensures c.own_at-own.ensures c.second_use-second_use.ensures) in
    ((expression-asked c.args.out.now c.requires).writing, first_inside operands, level-small operands, hold-room (first-written (expression-sizes (operands-found (expression-asked c.args.out.now c.requires) c.if-row-eq0.false c.is_call.ensures c.if-is_call.false c.operand_copied-copied.ensures c.own_at-own.ensures c.second_use-second_use.ensures) c.operand_size-m.ensures c.operand_size-k.ensures c.operand_size.ensures) c.more.result c.write_expression.ensures))

-- ---- the second operand
pub write_expression-overflow_add-at-2 : goal.write_expression-overflow_add-at-2
write_expression-overflow_add-at-2 t c = omega (arith, held-reach (held-written (first-written (expression-sizes (operands-found (expression-asked c.args.out.now c.requires) c.if-row-eq0.false c.is_call.ensures c.if-is_call.false c.operand_copied-copied.ensures c.own_at-own.ensures c.second_use-second_use.ensures) c.operand_size-m.ensures c.operand_size-k.ensures c.operand_size.ensures) c.more.result c.write_expression.ensures) c.more-held.result c.more.ensures c.put_hold.ensures))

pub write_expression-overflow_mul-h : goal.write_expression-overflow_mul-h
write_expression-overflow_mul-h t c = omega (arith, held-reach (held-written (first-written (expression-sizes (operands-found (expression-asked c.args.out.now c.requires) c.if-row-eq0.false c.is_call.ensures c.if-is_call.false c.operand_copied-copied.ensures c.own_at-own.ensures c.second_use-second_use.ensures) c.operand_size-m.ensures c.operand_size-k.ensures c.operand_size.ensures) c.more.result c.write_expression.ensures) c.more-held.result c.more.ensures c.put_hold.ensures))

pub write_expression-offset_bounds-out-h : goal.write_expression-offset_bounds-out-h
write_expression-offset_bounds-out-h t c = omega (arith, held-reach (held-written (first-written (expression-sizes (operands-found (expression-asked c.args.out.now c.requires) c.if-row-eq0.false c.is_call.ensures c.if-is_call.false c.operand_copied-copied.ensures c.own_at-own.ensures c.second_use-second_use.ensures) c.operand_size-m.ensures c.operand_size-k.ensures c.operand_size.ensures) c.more.result c.write_expression.ensures) c.more-held.result c.more.ensures c.put_hold.ensures))

pub write_expression-slice_bounds-write_expression-count : goal.write_expression-slice_bounds-write_expression-count
write_expression-slice_bounds-write_expression-count t c = omega (arith, held-reach (held-written (first-written (expression-sizes (operands-found (expression-asked c.args.out.now c.requires) c.if-row-eq0.false c.is_call.ensures c.if-is_call.false c.operand_copied-copied.ensures c.own_at-own.ensures c.second_use-second_use.ensures) c.operand_size-m.ensures c.operand_size-k.ensures c.operand_size.ensures) c.more.result c.write_expression.ensures) c.more-held.result c.more.ensures c.put_hold.ensures))

pub write_expression-slice_bounds-write_expression-start : goal.write_expression-slice_bounds-write_expression-start
write_expression-slice_bounds-write_expression-start t c = omega (arith, held-reach (held-written (first-written (expression-sizes (operands-found (expression-asked c.args.out.now c.requires) c.if-row-eq0.false c.is_call.ensures c.if-is_call.false c.operand_copied-copied.ensures c.own_at-own.ensures c.second_use-second_use.ensures) c.operand_size-m.ensures c.operand_size-k.ensures c.operand_size.ensures) c.more.result c.write_expression.ensures) c.more-held.result c.more.ensures c.put_hold.ensures))

pub write_expression-slice_bounds-write_expression-end : goal.write_expression-slice_bounds-write_expression-end
write_expression-slice_bounds-write_expression-end t c = omega (arith, held-reach (held-written (first-written (expression-sizes (operands-found (expression-asked c.args.out.now c.requires) c.if-row-eq0.false c.is_call.ensures c.if-is_call.false c.operand_copied-copied.ensures c.own_at-own.ensures c.second_use-second_use.ensures) c.operand_size-m.ensures c.operand_size-k.ensures c.operand_size.ensures) c.more.result c.write_expression.ensures) c.more-held.result c.more.ensures c.put_hold.ensures))

pub write_expression-write_expression-requires-2 : goal.write_expression-write_expression-requires-2
write_expression-write_expression-requires-2 t c =
    let measure = c.decreases in
    (omega (arith, second-falls (operands-found (expression-asked c.args.out.now c.requires) c.if-row-eq0.false c.is_call.ensures c.if-is_call.false c.operand_copied-copied.ensures c.own_at-own.ensures c.second_use-second_use.ensures), measure), ((expression-asked c.args.out.now c.requires).writing, second-asks (held-written (first-written (expression-sizes (operands-found (expression-asked c.args.out.now c.requires) c.if-row-eq0.false c.is_call.ensures c.if-is_call.false c.operand_copied-copied.ensures c.own_at-own.ensures c.second_use-second_use.ensures) c.operand_size-m.ensures c.operand_size-k.ensures c.operand_size.ensures) c.more.result c.write_expression.ensures) c.more-held.result c.more.ensures c.put_hold.ensures)))

-- ---- what is done with the operands' values
pub write_expression-overflow_add-at-3 : goal.write_expression-overflow_add-at-3
write_expression-overflow_add-at-3 t c = omega (arith, second-reach (second-written (held-written (first-written (expression-sizes (operands-found (expression-asked c.args.out.now c.requires) c.if-row-eq0.false c.is_call.ensures c.if-is_call.false c.operand_copied-copied.ensures c.own_at-own.ensures c.second_use-second_use.ensures) c.operand_size-m.ensures c.operand_size-k.ensures c.operand_size.ensures) c.more.result c.write_expression.ensures) c.more-held.result c.more.ensures c.put_hold.ensures) c.more-then.result c.more-held.ensures c.write_expression-2.ensures))

pub write_expression-overflow_mul-n : goal.write_expression-overflow_mul-n
write_expression-overflow_mul-n t c = omega (arith, second-reach (second-written (held-written (first-written (expression-sizes (operands-found (expression-asked c.args.out.now c.requires) c.if-row-eq0.false c.is_call.ensures c.if-is_call.false c.operand_copied-copied.ensures c.own_at-own.ensures c.second_use-second_use.ensures) c.operand_size-m.ensures c.operand_size-k.ensures c.operand_size.ensures) c.more.result c.write_expression.ensures) c.more-held.result c.more.ensures c.put_hold.ensures) c.more-then.result c.more-held.ensures c.write_expression-2.ensures))

pub write_expression-offset_bounds-out-n : goal.write_expression-offset_bounds-out-n
write_expression-offset_bounds-out-n t c = omega (arith, second-reach (second-written (held-written (first-written (expression-sizes (operands-found (expression-asked c.args.out.now c.requires) c.if-row-eq0.false c.is_call.ensures c.if-is_call.false c.operand_copied-copied.ensures c.own_at-own.ensures c.second_use-second_use.ensures) c.operand_size-m.ensures c.operand_size-k.ensures c.operand_size.ensures) c.more.result c.write_expression.ensures) c.more-held.result c.more.ensures c.put_hold.ensures) c.more-then.result c.more-held.ensures c.write_expression-2.ensures))

pub write_expression-slice_bounds-write_last-count : goal.write_expression-slice_bounds-write_last-count
write_expression-slice_bounds-write_last-count t c = omega (arith, second-reach (second-written (held-written (first-written (expression-sizes (operands-found (expression-asked c.args.out.now c.requires) c.if-row-eq0.false c.is_call.ensures c.if-is_call.false c.operand_copied-copied.ensures c.own_at-own.ensures c.second_use-second_use.ensures) c.operand_size-m.ensures c.operand_size-k.ensures c.operand_size.ensures) c.more.result c.write_expression.ensures) c.more-held.result c.more.ensures c.put_hold.ensures) c.more-then.result c.more-held.ensures c.write_expression-2.ensures))

pub write_expression-slice_bounds-write_last-start : goal.write_expression-slice_bounds-write_last-start
write_expression-slice_bounds-write_last-start t c = omega (arith, second-reach (second-written (held-written (first-written (expression-sizes (operands-found (expression-asked c.args.out.now c.requires) c.if-row-eq0.false c.is_call.ensures c.if-is_call.false c.operand_copied-copied.ensures c.own_at-own.ensures c.second_use-second_use.ensures) c.operand_size-m.ensures c.operand_size-k.ensures c.operand_size.ensures) c.more.result c.write_expression.ensures) c.more-held.result c.more.ensures c.put_hold.ensures) c.more-then.result c.more-held.ensures c.write_expression-2.ensures))

pub write_expression-slice_bounds-write_last-end : goal.write_expression-slice_bounds-write_last-end
write_expression-slice_bounds-write_last-end t c = omega (arith, second-reach (second-written (held-written (first-written (expression-sizes (operands-found (expression-asked c.args.out.now c.requires) c.if-row-eq0.false c.is_call.ensures c.if-is_call.false c.operand_copied-copied.ensures c.own_at-own.ensures c.second_use-second_use.ensures) c.operand_size-m.ensures c.operand_size-k.ensures c.operand_size.ensures) c.more.result c.write_expression.ensures) c.more-held.result c.more.ensures c.put_hold.ensures) c.more-then.result c.more-held.ensures c.write_expression-2.ensures))

pub write_expression-write_last-requires : goal.write_expression-write_last-requires
write_expression-write_last-requires t c =
    let measure = c.decreases in
    let asked = (expression-asked c.args.out.now c.requires) in
    let rank_is = rank-some c.args.source.now.rows.now c.args.row (operands-found (expression-asked c.args.out.now c.requires) c.if-row-eq0.false c.is_call.ensures c.if-is_call.false c.operand_copied-copied.ensures c.own_at-own.ensures c.second_use-second_use.ensures).some in
    (omega (arith, rank_is, asked.asks.inside, measure), (asked.writing, last-asks (second-written (held-written (first-written (expression-sizes (operands-found (expression-asked c.args.out.now c.requires) c.if-row-eq0.false c.is_call.ensures c.if-is_call.false c.operand_copied-copied.ensures c.own_at-own.ensures c.second_use-second_use.ensures) c.operand_size-m.ensures c.operand_size-k.ensures c.operand_size.ensures) c.more.result c.write_expression.ensures) c.more-held.result c.more.ensures c.put_hold.ensures) c.more-then.result c.more-held.ensures c.write_expression-2.ensures)))

pub write_expression-shape_of-out : goal.write_expression-shape_of-out
write_expression-shape_of-out t c = expression-length (last-written (second-written (held-written (first-written (expression-sizes (operands-found (expression-asked c.args.out.now c.requires) c.if-row-eq0.false c.is_call.ensures c.if-is_call.false c.operand_copied-copied.ensures c.own_at-own.ensures c.second_use-second_use.ensures) c.operand_size-m.ensures c.operand_size-k.ensures c.operand_size.ensures) c.more.result c.write_expression.ensures) c.more-held.result c.more.ensures c.put_hold.ensures) c.more-then.result c.more-held.ensures c.write_expression-2.ensures) c.args.at.follows c.more-then.ensures c.write_last.ensures)

pub write_expression-returns : goal.write_expression-returns
write_expression-returns t c = expression-written (last-written (second-written (held-written (first-written (expression-sizes (operands-found (expression-asked c.args.out.now c.requires) c.if-row-eq0.false c.is_call.ensures c.if-is_call.false c.operand_copied-copied.ensures c.own_at-own.ensures c.second_use-second_use.ensures) c.operand_size-m.ensures c.operand_size-k.ensures c.operand_size.ensures) c.more.result c.write_expression.ensures) c.more-held.result c.more.ensures c.put_hold.ensures) c.more-then.result c.more-held.ensures c.write_expression-2.ensures) c.args.at.follows c.more-then.ensures c.write_last.ensures)

-- What an expression does behind its operands is written as its choice says: an if with two branches, or straight code.

-- ---- an if with two branches
pub write_last-write_choice-requires : goal.write_last-write_choice-requires
write_last-write_choice-requires t c =
    let past-choice-at = c.choice_at-choice in
    let measure = c.decreases in
    let writing = c.requires.0 in
    let asks = c.requires.1 in
    let fit = branches-fit c.args.usage (chosen past-choice-at.ensures c.in-Some.is) asks.level_low in (
      choice-falls c.args.source.now.rows.now c.args.row fit.true_later fit.false_later asks.inside measure,
      ((writing, fit.test_fits, fit.true_fits, fit.false_fits), room-less _ asks.room (omega (arith, fit.rows_are c.args.usage))),
    )

-- ---- straight code
pub write_last-put_straight-requires : goal.write_last-put_straight-requires
write_last-put_straight-requires t c =
    let asks = c.requires.1 in (
      c.requires.0,
      record {
        inside = asks.inside;
        no_call = asks.no_call;
        level_low = omega (arith, asks.level_low);
        use_fits = asks.use_fits;
        room = room-less _ asks.room (omega arith);
      },
    )

-- ---- what was written is what the choice says
pub write_last-returns-in-Some : goal.write_last-returns-in-Some
write_last-returns-in-Some t c =
    let past-choice-at = c.choice_at-choice in
    recoded _ _ _ _ _ _ c.write_choice.ensures (sym ((chosen past-choice-at.ensures c.in-Some.is).is c.args.usage))

pub write_last-returns-in-None : goal.write_last-returns-in-None
write_last-returns-in-None t c =
    let past-choice-at = c.choice_at-choice in
    recoded _ _ _ _ _ _ c.put_straight.ensures (sym ((chosen past-choice-at.ensures c.in-None.is).is c.args.usage))
