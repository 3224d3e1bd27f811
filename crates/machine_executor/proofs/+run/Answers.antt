-- Expressions, statements and lists meet their contracts: each member's answer is what `spend` of the meaning of the tree at its row gives.
-- Each answer is a chain of the laws of a row of its kind, and of what the calls answered; the members follow one another.
use mathlib.Core.Path.{refl, sym, ap, ◌∙◌, ◌≡◌}
use Prim.Native.Nat.{◌-◌}
use native.Mathlib.Omega.{arith}
use lib.IntN.{ℤ, pos, negsuc}
use lib.ListN.{set, length-set}
use Rattle.words.specs.Laws.{back}
use Rattle.computation.specs.Remaining.{gives, spend, Rest, onward}
use Rattle.machine_operations.specs.Rows.{context_at, evaluate_at, locate_at}
use Rattle.machine_operations.proofs.Operands.{answered-least, goes, hands-up, found, lost, handed-value, link-asks, linked, linked-place, handed-on, operands-handed, chosen-true, chosen-false, fetched, negated, hands-placed, handed_on-placed, element-handed, array-asks, array-is, decided-left, decided-right, decided-bit, truth-is}
use Rattle.machine_operations.proofs.Positions.{given-at, place_inside, locate-inside, place-variable}
use Rattle.machine_operations.proofs.Rows.{assign-links, assign-row, binary-links, binary-row, field-inside, comma-links, comma-row, compound-links, compound-row, numbered, operating, constant-row, element-row, unary-link, unary-row, other_row, increment-link, increment-row, element-index, locate-row, logical-row, logical-links, place-variable-row, ternary-links, ternary-row}
use Rattle.words.specs.Table.{number_at, row_count}
use Rattle.machine_executor.proofs.Bindings.{arguments-here, parameters-here, before-ready, argument-there, parameter-asks, bind-none, bind-spent, argument-answered, bind-stop, bind-earlier-stop, bind-stored, argument-ready, value-link, argument-link, function-listed, function-found, definition-ready, parameter-link, body-link, count-asks, bind-ready, call-row}
use Rattle.arithmetic.specs.Arithmetic.{is_true, bit}
use Rattle.machine_flows.proofs.Answers.{ran-next, ran-handed, hands-flow, call-turns, ran-spent, expressed, arms-again, arms-left, block_falls, flow_next, ran-least, ran-break, ran-continue, ran-guard, initial, valued, goes-round, round-falls, leaves, switch-turns, turned-last, hands-turn, body-turns, goes_on, ends-round, round-ends}
use Rattle.machine_executor.proofs.Rows.{if-links, optional-asks, optional, otherwise-none, otherwise-some, if-row, block-link, block-row, express-link, express-row, table-row, defined-item, stated-item, in_table, part-absent, part-there, empty-row, while-links, while-row, do-links, do-row, break-row, continue-row, goto-row, declare-link, declared-inside, declared-asks, declare-row, return-link, return-row, other_row as other-statement, for-links, for-row, switch-links, switch-row}
use Rattle.machine_flows.proofs.Items.{ahead-falls, continued-next, continued-end, list-step}
use Rattle.machine_executor.proofs.Choices.{arm-links, arm-here, arm_now, guard-answered, chooses_none, chooses-spent, chooses-stop, chooses-block, trying-next, arms-ready, guarded_after, guarded-turn, guarded-none, guarded-again, guarded-rounds, guarded-once, guarded-link, guarded-row, choice-stops, block-below, choice_none, choice-block, abort-row}
use Rattle.machine_flows.specs.Lists.{start_of}
use Rattle.machine_executor.specs.Rows.{rounds_at, perform_at, exec_at, turn_at, closing}
use Rattle.language.specs.Meaning.{update, new_value, next, choice_rounds, seeking, items}
use mathlib.Core.Bool.{true, false, not}
use Rattle.words.specs.Kinds.{kinds, kind_in, kind_of}
use Rattle.words.specs.KindLaws.{between-both, binary-kind, compound-kind, prefix-kind, postfix-kind, kind-numbered}
use Rattle.words.specs.declared.Kind.TheVariants.{OfExpression}
use Rattle.words.specs.declared.ExpressionKind.TheVariants.{Binary, Compound, Prefix, Postfix}
use Rattle.machine_operations.specs.Answers.{operand_of, position_of}
use Rattle.machine_operations.proofs.Decoding.{handed, answered-word, answered-spent, wide_fits, answered-wide, placed-wide, placed-spent}
use Rattle.machine_operations.proofs.Enter.{entered, not_entered}
use Rattle.language.specs.Decode.{arm_list_at, list_at, part_at}
use Rattle.machine_operations.specs.Bounds.{layout_in}
use Rattle.machine_operations.proofs.Bounds.{lies}
use Rattle.words.specs.Word.{pick, natural}
use Rattle.language.specs.Trees.{label, Items}
use Rattle.machine_executor.proofs.LoopLaws.{loop-round, closing-is, round_is}
use Rattle.machine_executor.proofs.KindNumbers.{beyond-assign, not_call, passed-by, not_plain, not-jump, not-other, not-return, guarded-kind}
use Rattle.machine_executor.proofs.+run.Goals as goal

-- The value, then the place, then the store.

pub expressions::assign-link_at-requires : goal.expressions::assign-link_at-requires
expressions::assign-link_at-requires t c =
    link-asks c.requires.ready (assign-links c.requires).1 (omega arith)

pub expressions::assign-eval-value_answer-requires : goal.expressions::assign-eval-value_answer-requires
expressions::assign-eval-value_answer-requires t c =
    (omega (arith, c.decreases), linked c.requires.ready (assign-links c.requires).1 c.link_at.ensures refl)

pub expressions::assign-returns-in_default : goal.expressions::assign-returns-in_default
expressions::assign-returns-in_default t c =
    hands-up _ _ _ c.eval-value_answer.type_inv c.eval-value_answer.ensures _ c.operand.ensures c.in_default.is _ ∙ sym (assign-row c.requires refl c.link_at.ensures c.args.left.now c.args.store.now)

pub expressions::assign-link_at-requires-2 : goal.expressions::assign-link_at-requires-2
expressions::assign-link_at-requires-2 t c =
    link-asks c.requires.ready (assign-links c.requires).0.0 (omega arith)

pub expressions::assign-place-place_answer-requires : goal.expressions::assign-place-place_answer-requires
expressions::assign-place-place_answer-requires t c =
    (omega (arith, c.decreases, answered-least _ _ _ _ _ _ c.eval-value_answer.ensures), linked-place c.requires.ready (assign-links c.requires).0 c.link_at-2.ensures c.eval-value_answer.auto.store)

pub expressions::assign-returns-in_default-position : goal.expressions::assign-returns-in_default-position
expressions::assign-returns-in_default-position t c =
    lost _ _ _ c.place-place_answer.type_inv c.place-place_answer.ensures _ c.position.ensures _ c.in_default-position.is
    ∙ sym (assign-row c.requires c.link_at-2.ensures c.link_at.ensures c.args.left.now c.args.store.now ∙ goes _ _ _ _ c.eval-value_answer.type_inv c.eval-value_answer.ensures _ c.operand.ensures c.in-Some.value c.in-Some.is)

pub expressions::assign-offset_bounds-store-at : goal.expressions::assign-offset_bounds-store-at
expressions::assign-offset_bounds-store-at t c =
    let inside = place_inside (linked-place c.requires.ready (assign-links c.requires).0 c.link_at-2.ensures c.eval-value_answer.auto.store) c.eval-value_answer.new.left c.eval-value_answer.new.store c.in-Some-position.at c.place-place_answer.new.left c.place-place_answer.new.store (given-at _ _ _ c.place-place_answer.type_inv c.place-place_answer.ensures _ c.position.ensures c.in-Some-position.at c.in-Some-position.is) in omega (arith, inside, c.eval-value_answer.auto.store, c.requires.ready.setting.few_words)

pub expressions::assign-bounds-store-at : goal.expressions::assign-bounds-store-at
expressions::assign-bounds-store-at t c =
    let inside = place_inside (linked-place c.requires.ready (assign-links c.requires).0 c.link_at-2.ensures c.eval-value_answer.auto.store) c.eval-value_answer.new.left c.eval-value_answer.new.store c.in-Some-position.at c.place-place_answer.new.left c.place-place_answer.new.store (given-at _ _ _ c.place-place_answer.type_inv c.place-place_answer.ensures _ c.position.ensures c.in-Some-position.at c.in-Some-position.is) in omega (arith, inside, c.place-place_answer.auto.store)

pub expressions::assign-shape_of-store : goal.expressions::assign-shape_of-store
expressions::assign-shape_of-store t c =
    simp length-set (c.place-place_answer.auto.store ∙ c.eval-value_answer.auto.store)

pub expressions::assign-returns : goal.expressions::assign-returns
expressions::assign-returns t c =
    handed-value c.eval-value_answer.result _ _ _ c.operand.ensures c.in-Some.value c.in-Some.is ∙ ap (λ (z : ℤ). gives c.in-Some.value c.place-place_answer.new.left (set c.place-place_answer.new.store c.in-Some-position.at z)) (back c.in-Some.value c.in-Some.known_told-1-own.given.0.1)
    ∙ sym (assign-row c.requires c.link_at-2.ensures c.link_at.ensures c.args.left.now c.args.store.now ∙ goes _ _ _ _ c.eval-value_answer.type_inv c.eval-value_answer.ensures _ c.operand.ensures c.in-Some.value c.in-Some.is ∙ found _ _ _ c.place-place_answer.type_inv c.place-place_answer.ensures _ c.position.ensures _ c.in-Some-position.at c.in-Some-position.is)

-- The right operand, the left one, the operation.

pub expressions::binary-link_at-requires : goal.expressions::binary-link_at-requires
expressions::binary-link_at-requires t c =
    link-asks c.requires.ready (binary-links c.requires).1 (omega arith)

pub expressions::binary-eval-right_answer-requires : goal.expressions::binary-eval-right_answer-requires
expressions::binary-eval-right_answer-requires t c =
    (omega (arith, c.decreases), linked c.requires.ready (binary-links c.requires).1 c.link_at.ensures refl)

pub expressions::binary-returns-in_default : goal.expressions::binary-returns-in_default
expressions::binary-returns-in_default t c =
    hands-up _ _ _ c.eval-right_answer.type_inv c.eval-right_answer.ensures _ c.operand.ensures c.in_default.is _ ∙ sym (binary-row c.requires refl c.link_at.ensures c.args.left.now c.args.store.now)

pub expressions::binary-link_at-requires-2 : goal.expressions::binary-link_at-requires-2
expressions::binary-link_at-requires-2 t c =
    link-asks c.requires.ready (binary-links c.requires).0 (omega arith)

pub expressions::binary-eval-left_answer-requires : goal.expressions::binary-eval-left_answer-requires
expressions::binary-eval-left_answer-requires t c =
    (omega (arith, c.decreases, answered-least _ _ _ _ _ _ c.eval-right_answer.ensures), linked c.requires.ready (binary-links c.requires).0 c.link_at-2.ensures c.eval-right_answer.auto.store)

pub expressions::binary-returns-in_default-operand : goal.expressions::binary-returns-in_default-operand
expressions::binary-returns-in_default-operand t c =
    hands-up _ _ _ c.eval-left_answer.type_inv c.eval-left_answer.ensures _ c.operand-2.ensures c.in_default-operand.is _
    ∙ sym (binary-row c.requires c.link_at-2.ensures c.link_at.ensures c.args.left.now c.args.store.now ∙ goes _ _ _ _ c.eval-right_answer.type_inv c.eval-right_answer.ensures _ c.operand.ensures c.in-Some.right c.in-Some.is)

pub expressions::binary-returns : goal.expressions::binary-returns
expressions::binary-returns t c =
    handed-on c.operate.result _ _ c.operate.type_inv ∙ c.operate.ensures _ _
    ∙ operands-handed c.args.operator c.in-Some-operand.value c.in-Some.right c.in-Some-operand.known_told-in-Some-operand-2-1-own.given.0.1 c.in-Some.known_told-1-own.given.0.1 _ _
    ∙ sym (binary-row c.requires c.link_at-2.ensures c.link_at.ensures c.args.left.now c.args.store.now ∙ goes _ _ _ _ c.eval-right_answer.type_inv c.eval-right_answer.ensures _ c.operand.ensures c.in-Some.right c.in-Some.is ∙ goes _ _ _ _ c.eval-left_answer.type_inv c.eval-left_answer.ensures _ c.operand-2.ensures c.in-Some-operand.value c.in-Some-operand.is)

-- The arguments from the last to the first, each held until those before it are bound, and then its parameter.

pub calls::bind-returns-then-count-eq0 : goal.calls::bind-returns-then-count-eq0
calls::bind-returns-then-count-eq0 t c =
    bind-none c.args.rows.now c.args.bounds.now c.args.first c.args.parameter c.if-count-eq0.true c.args.left.now c.args.store.now

pub calls::bind-returns-then-n-eq0 : goal.calls::bind-returns-then-n-eq0
calls::bind-returns-then-n-eq0 t c =
    bind-spent c.requires {k = c.args.count - 1} (omega (arith, c.if-count-eq0.false)) c.args.left.now c.args.store.now c.if-n-eq0.true

pub calls::bind-row_behind-at-requires : goal.calls::bind-row_behind-at-requires
calls::bind-row_behind-at-requires t c =
    (arguments-here c.requires).table

pub calls::bind-link_at-requires : goal.calls::bind-link_at-requires
calls::bind-link_at-requires t c =
    let argument = argument-there c.requires {k = c.args.count - 1} (omega (arith, c.if-count-eq0.false)) c.row_behind-at.ensures in
    link-asks (argument-ready c.requires argument) (value-link c.requires argument) (omega arith)

pub calls::bind-eval-answer-requires : goal.calls::bind-eval-answer-requires
calls::bind-eval-answer-requires t c =
    let argument = argument-there c.requires {k = c.args.count - 1} (omega (arith, c.if-count-eq0.false)) c.row_behind-at.ensures in
    (omega (arith, c.decreases, c.if-n-eq0.false), linked (argument-ready c.requires argument) (value-link c.requires argument) c.link_at.ensures refl)

pub calls::bind-returns-in_default : goal.calls::bind-returns-in_default
calls::bind-returns-in_default t c =
    bind-stop c.requires {k = c.args.count - 1} (omega (arith, c.if-count-eq0.false)) c.args.left.now c.args.store.now _ _ _ c.eval-answer.type_inv (argument-answered c.requires {k = c.args.count - 1} (omega (arith, c.if-count-eq0.false)) c.args.left.now c.args.store.now c.if-n-eq0.false c.row_behind-at.ensures c.link_at.ensures c.eval-answer.result c.eval-answer.new.left c.eval-answer.new.store c.eval-answer.ensures) _ c.operand.ensures c.in_default.is

pub calls::bind-bind-before-requires : goal.calls::bind-bind-before-requires
calls::bind-bind-before-requires t c =
    (omega (arith, c.decreases, c.if-n-eq0.false, answered-least _ _ _ _ _ _ c.eval-answer.ensures), before-ready c.requires {k = c.args.count - 1} (omega (arith, c.if-count-eq0.false)) c.eval-answer.auto.store)

pub calls::bind-returns-in_default-operand : goal.calls::bind-returns-in_default-operand
calls::bind-returns-in_default-operand t c =
    bind-earlier-stop c.requires {k = c.args.count - 1} (omega (arith, c.if-count-eq0.false)) c.args.left.now c.args.store.now _ _ _ c.eval-answer.type_inv (argument-answered c.requires {k = c.args.count - 1} (omega (arith, c.if-count-eq0.false)) c.args.left.now c.args.store.now c.if-n-eq0.false c.row_behind-at.ensures c.link_at.ensures c.eval-answer.result c.eval-answer.new.left c.eval-answer.new.store c.eval-answer.ensures) _ c.operand.ensures c.in-Some.value c.in-Some.is _ _ _ c.bind-before.type_inv c.bind-before.ensures _ c.operand-2.ensures c.in_default-operand.is

pub calls::bind-row_behind-requires : goal.calls::bind-row_behind-requires
calls::bind-row_behind-requires t c =
    parameters-here c.requires

pub calls::bind-store_parameter-requires : goal.calls::bind-store_parameter-requires
calls::bind-store_parameter-requires t c =
    parameter-asks c.requires {k = c.args.count - 1} (omega (arith, c.if-count-eq0.false)) c.row_behind.ensures (c.bind-before.auto.store ∙ c.eval-answer.auto.store)

pub calls::bind-returns : goal.calls::bind-returns
calls::bind-returns t c =
    let v = c.in-Some.value in
    bind-stored c.requires {k = c.args.count - 1} (omega (arith, c.if-count-eq0.false)) c.args.left.now c.args.store.now _ _ _ c.eval-answer.type_inv (argument-answered c.requires {k = c.args.count - 1} (omega (arith, c.if-count-eq0.false)) c.args.left.now c.args.store.now c.if-n-eq0.false c.row_behind-at.ensures c.link_at.ensures c.eval-answer.result c.eval-answer.new.left c.eval-answer.new.store c.eval-answer.ensures) _ c.operand.ensures v c.in-Some.is _ _ _ c.bind-before.type_inv c.bind-before.ensures _ c.operand-2.ensures c.in-Some-operand.field-0 c.in-Some-operand.is c.row_behind.ensures (c.store_parameter.ensures ∙ ap (λ (x : ℤ). set c.bind-before.new.store (number_at c.args.rows.now c.row_behind.result 1) x) (back v c.in-Some.known_told-1-own.given.0.1))

-- The test of an if, then one branch.

pub statements::branch-link_at-requires : goal.statements::branch-link_at-requires
statements::branch-link_at-requires t c =
    link-asks c.requires.ready (if-links c.requires).0 (omega arith)

pub statements::branch-eval-answer-requires : goal.statements::branch-eval-answer-requires
statements::branch-eval-answer-requires t c =
    (omega (arith, c.decreases), linked c.requires.ready (if-links c.requires).0 c.link_at.ensures refl)

pub statements::branch-returns-in_default : goal.statements::branch-returns-in_default
statements::branch-returns-in_default t c =
    hands-flow _ _ _ c.eval-answer.type_inv c.eval-answer.ensures _ c.operand.ensures c.in_default.is _ ∙ sym (if-row c.requires c.link_at.ensures refl refl c.args.left.now c.args.store.now)

pub statements::branch-link_at-requires-then-is_true : goal.statements::branch-link_at-requires-then-is_true
statements::branch-link_at-requires-then-is_true t c =
    link-asks c.requires.ready (if-links c.requires).1 (omega arith)

pub statements::branch-exec-requires : goal.statements::branch-exec-requires
statements::branch-exec-requires t c =
    (omega (arith, c.decreases, answered-least _ _ _ _ _ _ c.eval-answer.ensures), linked c.requires.ready (if-links c.requires).1 c.link_at-then-is_true.ensures c.eval-answer.auto.store)

pub statements::branch-returns-then-is_true : goal.statements::branch-returns-then-is_true
statements::branch-returns-then-is_true t c =
    ran-handed c.exec.result _ _ c.exec.type_inv ∙ c.exec.ensures
    ∙ sym (if-row c.requires c.link_at.ensures c.link_at-then-is_true.ensures refl c.args.left.now c.args.store.now ∙ goes _ _ _ _ c.eval-answer.type_inv c.eval-answer.ensures _ c.operand.ensures c.in-Some.value c.in-Some.is ∙ chosen-true _ _ _ (sym (ap is_true (back c.in-Some.value c.in-Some.known_told-1-own.given.0.1)) ∙ sym c.is_true.ensures ∙ c.if-is_true.true))

pub statements::branch-link_at-other-requires : goal.statements::branch-link_at-other-requires
statements::branch-link_at-other-requires t c =
    optional-asks c.requires.ready (if-links c.requires).2 (omega arith)

pub statements::branch-returns-then-other-eq0 : goal.statements::branch-returns-then-other-eq0
statements::branch-returns-then-other-eq0 t c =
    ran-next _ _ ∙ sym (if-row c.requires c.link_at.ensures refl c.link_at-other.ensures c.args.left.now c.args.store.now ∙ goes _ _ _ _ c.eval-answer.type_inv c.eval-answer.ensures _ c.operand.ensures c.in-Some.value c.in-Some.is ∙ chosen-false _ _ _ (sym (ap is_true (back c.in-Some.value c.in-Some.known_told-1-own.given.0.1)) ∙ sym c.is_true.ensures ∙ c.if-is_true.false)
    ∙ otherwise-none c.args.rows.now c.args.bounds.now c.eval-answer.new.left c.eval-answer.new.store c.link_at-other.result c.if-other-eq0.true)

pub statements::branch-exec-requires-2 : goal.statements::branch-exec-requires-2
statements::branch-exec-requires-2 t c =
    (omega (arith, c.decreases, answered-least _ _ _ _ _ _ c.eval-answer.ensures), optional c.requires.ready (if-links c.requires).2 c.link_at-other.ensures c.eval-answer.auto.store)

pub statements::branch-returns : goal.statements::branch-returns
statements::branch-returns t c =
    ran-handed c.exec-2.result _ _ c.exec-2.type_inv ∙ c.exec-2.ensures
    ∙ sym (if-row c.requires c.link_at.ensures refl c.link_at-other.ensures c.args.left.now c.args.store.now ∙ goes _ _ _ _ c.eval-answer.type_inv c.eval-answer.ensures _ c.operand.ensures c.in-Some.value c.in-Some.is ∙ chosen-false _ _ _ (sym (ap is_true (back c.in-Some.value c.in-Some.known_told-1-own.given.0.1)) ∙ sym c.is_true.ensures ∙ c.if-is_true.false)
    ∙ otherwise-some c.args.rows.now c.args.bounds.now c.eval-answer.new.left c.eval-answer.new.store c.link_at-other.result c.if-other-eq0.false)

-- The arguments and the parameters, then the function's block, and the value that it returns.

pub calls::call-number_at-requires : goal.calls::call-number_at-requires
calls::call-number_at-requires t c =
    field-inside c.requires.ready 1 (omega arith)

pub calls::call-function_row-definition-requires : goal.calls::call-function_row-definition-requires
calls::call-function_row-definition-requires t c =
    function-listed c.requires c.number_at.ensures

pub calls::call-link_at-first-requires : goal.calls::call-link_at-first-requires
calls::call-link_at-first-requires t c =
    optional-asks c.requires.ready (argument-link c.requires) (omega arith)

pub calls::call-link_at-parameter-requires : goal.calls::call-link_at-parameter-requires
calls::call-link_at-parameter-requires t c =
    optional-asks (definition-ready c.requires c.number_at.ensures (function-found c.requires c.number_at.ensures c.function_row-definition.ensures)) (parameter-link c.requires c.number_at.ensures (function-found c.requires c.number_at.ensures c.function_row-definition.ensures)) (omega arith)

pub calls::call-argument_count-count-requires : goal.calls::call-argument_count-count-requires
calls::call-argument_count-count-requires t c =
    count-asks c.requires c.number_at.ensures (function-found c.requires c.number_at.ensures c.function_row-definition.ensures) c.link_at-first.ensures

pub calls::call-bind-answer-requires : goal.calls::call-bind-answer-requires
calls::call-bind-answer-requires t c =
    (omega (arith, c.decreases), bind-ready c.requires c.number_at.ensures (function-found c.requires c.number_at.ensures c.function_row-definition.ensures) c.link_at-first.ensures c.link_at-parameter.ensures c.argument_count-count.ensures)

pub calls::call-returns-in_default : goal.calls::call-returns-in_default
calls::call-returns-in_default t c =
    hands-up _ _ _ c.bind-answer.type_inv c.bind-answer.ensures _ c.operand.ensures c.in_default.is _
    ∙ sym (call-row c.requires c.number_at.ensures (function-found c.requires c.number_at.ensures c.function_row-definition.ensures) c.link_at-first.ensures c.link_at-parameter.ensures c.argument_count-count.ensures refl c.args.left.now c.args.store.now)

pub calls::call-link_at-requires : goal.calls::call-link_at-requires
calls::call-link_at-requires t c =
    link-asks (definition-ready c.requires c.number_at.ensures (function-found c.requires c.number_at.ensures c.function_row-definition.ensures)) (body-link c.requires c.number_at.ensures (function-found c.requires c.number_at.ensures c.function_row-definition.ensures)) (omega arith)

pub calls::call-exec-requires : goal.calls::call-exec-requires
calls::call-exec-requires t c =
    (omega (arith, c.decreases, answered-least _ _ _ _ _ _ c.bind-answer.ensures), linked (definition-ready c.requires c.number_at.ensures (function-found c.requires c.number_at.ensures c.function_row-definition.ensures)) (body-link c.requires c.number_at.ensures (function-found c.requires c.number_at.ensures c.function_row-definition.ensures)) c.link_at.ensures c.bind-answer.auto.store)

pub calls::call-returns : goal.calls::call-returns
calls::call-returns t c =
    handed-on c.after_call.result _ _ c.after_call.type_inv
    ∙ call-turns _ _ _ c.exec.type_inv c.exec.ensures c.after_call.result c.after_call.ensures
    ∙ sym (call-row c.requires c.number_at.ensures (function-found c.requires c.number_at.ensures c.function_row-definition.ensures) c.link_at-first.ensures c.link_at-parameter.ensures c.argument_count-count.ensures c.link_at.ensures c.args.left.now c.args.store.now
    ∙ goes _ _ _ _ c.bind-answer.type_inv c.bind-answer.ensures _ c.operand.ensures c.in-Some.field-0 c.in-Some.is)

-- `choose` tries the arms in turn: the invariant is that the arms are the arms from the row on; the measure is the rows ahead.

pub loops::choose-loop-at-init : goal.loops::choose-loop-at-init
loops::choose-loop-at-init t c = record { arms = c.requires; same = refl; steps = omega arith; runs = refl }

pub loops::choose-shape_of-store-then-n-eq0 : goal.loops::choose-shape_of-store-then-n-eq0
loops::choose-shape_of-store-then-n-eq0 t c = c.loop-at.invariant.same

pub loops::choose-returns-then-n-eq0 : goal.loops::choose-returns-then-n-eq0
loops::choose-returns-then-n-eq0 t c = chooses-spent c.loop-at.invariant c.loop-at-test.true c.if-n-eq0.true

pub loops::choose-link_at-requires : goal.loops::choose-link_at-requires
loops::choose-link_at-requires t c =
    let here = arm-here c.loop-at.invariant c.loop-at-test.true in
    link-asks here.ready (arm-links here).0 (omega arith)

pub loops::choose-eval-answer-requires : goal.loops::choose-eval-answer-requires
loops::choose-eval-answer-requires t c =
    let here = arm_now c.loop-at.invariant c.loop-at-test.true in
    (omega (arith, c.decreases, c.loop-at.invariant.steps, c.if-n-eq0.false), linked here.ready (arm-links here).0 c.link_at.ensures refl)

pub loops::choose-shape_of-store-in_default : goal.loops::choose-shape_of-store-in_default
loops::choose-shape_of-store-in_default t c = c.eval-answer.auto.store ∙ c.loop-at.invariant.same

pub loops::choose-returns-in_default : goal.loops::choose-returns-in_default
loops::choose-returns-in_default t c =
    chooses-stop c.loop-at.invariant c.loop-at-test.true _ _ _ c.eval-answer.type_inv (guard-answered c.loop-at.invariant c.loop-at-test.true c.if-n-eq0.false c.eval-answer.result c.eval-answer.new.left c.eval-answer.new.store c.link_at.ensures c.eval-answer.ensures) _ c.operand.ensures c.in_default.is

pub loops::choose-link_at-requires-then-is_true : goal.loops::choose-link_at-requires-then-is_true
loops::choose-link_at-requires-then-is_true t c =
    let here = arm-here c.loop-at.invariant c.loop-at-test.true in
    link-asks here.ready (arm-links here).1 (omega arith)

pub loops::choose-overflow_cast-result : goal.loops::choose-overflow_cast-result
loops::choose-overflow_cast-result t c =
    let here = arm-here c.loop-at.invariant c.loop-at-test.true in
    omega (arith, c.link_at-then-is_true.ensures, (arm-links here).1.inside, here.ready.setting.few_rows)

pub loops::choose-shape_of-store-then-is_true : goal.loops::choose-shape_of-store-then-is_true
loops::choose-shape_of-store-then-is_true t c = c.eval-answer.auto.store ∙ c.loop-at.invariant.same

pub loops::choose-returns-then-is_true : goal.loops::choose-returns-then-is_true
loops::choose-returns-then-is_true t c =
    chooses-block c.loop-at.invariant c.loop-at-test.true _ _ _ c.eval-answer.type_inv (guard-answered c.loop-at.invariant c.loop-at-test.true c.if-n-eq0.false c.eval-answer.result c.eval-answer.new.left c.eval-answer.new.store c.link_at.ensures c.eval-answer.ensures) _ c.operand.ensures c.in-Some.value c.in-Some.is (sym (ap is_true (back c.in-Some.value c.in-Some.known_told-1-own.given.0.1)) ∙ sym c.is_true.ensures ∙ c.if-is_true.true) c.link_at-then-is_true.ensures

pub loops::choose-link_at-at-requires : goal.loops::choose-link_at-at-requires
loops::choose-link_at-at-requires t c =
    let here = arm-here c.loop-at.invariant c.loop-at-test.true in
    optional-asks here.ready (λ h. ((arm-links here).2 h).0) (omega arith)

pub loops::choose-loop-at-smaller : goal.loops::choose-loop-at-smaller
loops::choose-loop-at-smaller t c =
    let here = arm-here c.loop-at.invariant c.loop-at-test.true in
    ahead-falls (row_count c.args.rows.now) c.loop-at.at c.link_at-at.result c.loop-at-test.true c.loop-at.invariant.arms.ready.below (λ h. rw c.link_at-at.ensures ((arm-links here).2 (rw c.link_at-at.ensures at h)).0.later)

pub loops::choose-loop-at-preserved : goal.loops::choose-loop-at-preserved
loops::choose-loop-at-preserved t c =
    trying-next c.loop-at.invariant c.loop-at-test.true _ _ _ c.eval-answer.type_inv (guard-answered c.loop-at.invariant c.loop-at-test.true c.if-n-eq0.false c.eval-answer.result c.eval-answer.new.left c.eval-answer.new.store c.link_at.ensures c.eval-answer.ensures) _ c.operand.ensures c.in-Some.value c.in-Some.is (sym (ap is_true (back c.in-Some.value c.in-Some.known_told-1-own.given.0.1)) ∙ sym c.is_true.ensures ∙ c.if-is_true.false) c.eval-answer.auto.store c.link_at-at.ensures

pub loops::choose-shape_of-store : goal.loops::choose-shape_of-store
loops::choose-shape_of-store t c = c.loop-at.invariant.same

pub loops::choose-returns : goal.loops::choose-returns
loops::choose-returns t c = chooses_none c.loop-at.invariant c.loop-at-test.false

-- Two operands, the first dropped.

pub expressions::comma-link_at-requires : goal.expressions::comma-link_at-requires
expressions::comma-link_at-requires t c =
    link-asks c.requires.ready (comma-links c.requires).0 (omega arith)

pub expressions::comma-eval-answer-requires : goal.expressions::comma-eval-answer-requires
expressions::comma-eval-answer-requires t c =
    (omega (arith, c.decreases), linked c.requires.ready (comma-links c.requires).0 c.link_at.ensures refl)

pub expressions::comma-returns-in_default : goal.expressions::comma-returns-in_default
expressions::comma-returns-in_default t c =
    hands-up _ _ _ c.eval-answer.type_inv c.eval-answer.ensures _ c.operand.ensures c.in_default.is _ ∙ sym (comma-row c.requires c.link_at.ensures refl c.args.left.now c.args.store.now)

pub expressions::comma-link_at-requires-2 : goal.expressions::comma-link_at-requires-2
expressions::comma-link_at-requires-2 t c =
    link-asks c.requires.ready (comma-links c.requires).1 (omega arith)

pub expressions::comma-eval-requires : goal.expressions::comma-eval-requires
expressions::comma-eval-requires t c =
    (omega (arith, c.decreases, answered-least _ _ _ _ _ _ c.eval-answer.ensures), linked c.requires.ready (comma-links c.requires).1 c.link_at-2.ensures c.eval-answer.auto.store)

pub expressions::comma-returns : goal.expressions::comma-returns
expressions::comma-returns t c =
    handed-on c.eval.result _ _ c.eval.type_inv ∙ c.eval.ensures
    ∙ sym (comma-row c.requires c.link_at.ensures c.link_at-2.ensures c.args.left.now c.args.store.now ∙ goes _ _ _ _ c.eval-answer.type_inv c.eval-answer.ensures _ c.operand.ensures c.in-Some.field-0 c.in-Some.is)

-- The value, the place, the update.

pub expressions::compound-link_at-requires : goal.expressions::compound-link_at-requires
expressions::compound-link_at-requires t c =
    link-asks c.requires.ready (compound-links c.requires).1 (omega arith)

pub expressions::compound-eval-value_answer-requires : goal.expressions::compound-eval-value_answer-requires
expressions::compound-eval-value_answer-requires t c =
    (omega (arith, c.decreases), linked c.requires.ready (compound-links c.requires).1 c.link_at.ensures refl)

pub expressions::compound-returns-in_default : goal.expressions::compound-returns-in_default
expressions::compound-returns-in_default t c =
    hands-up _ _ _ c.eval-value_answer.type_inv c.eval-value_answer.ensures _ c.operand.ensures c.in_default.is _ ∙ sym (compound-row c.requires refl c.link_at.ensures c.args.left.now c.args.store.now)

pub expressions::compound-link_at-requires-2 : goal.expressions::compound-link_at-requires-2
expressions::compound-link_at-requires-2 t c =
    link-asks c.requires.ready (compound-links c.requires).0.0 (omega arith)

pub expressions::compound-place-place_answer-requires : goal.expressions::compound-place-place_answer-requires
expressions::compound-place-place_answer-requires t c =
    (omega (arith, c.decreases, answered-least _ _ _ _ _ _ c.eval-value_answer.ensures), linked-place c.requires.ready (compound-links c.requires).0 c.link_at-2.ensures c.eval-value_answer.auto.store)

pub expressions::compound-returns-in_default-position : goal.expressions::compound-returns-in_default-position
expressions::compound-returns-in_default-position t c =
    lost _ _ _ c.place-place_answer.type_inv c.place-place_answer.ensures _ c.position.ensures _ c.in_default-position.is
    ∙ sym (compound-row c.requires c.link_at-2.ensures c.link_at.ensures c.args.left.now c.args.store.now ∙ goes _ _ _ _ c.eval-value_answer.type_inv c.eval-value_answer.ensures _ c.operand.ensures c.in-Some.right c.in-Some.is)

pub expressions::compound-update-requires : goal.expressions::compound-update-requires
expressions::compound-update-requires t c =
    let inside = place_inside (linked-place c.requires.ready (compound-links c.requires).0 c.link_at-2.ensures c.eval-value_answer.auto.store) c.eval-value_answer.new.left c.eval-value_answer.new.store c.in-Some-position.at c.place-place_answer.new.left c.place-place_answer.new.store (given-at _ _ _ c.place-place_answer.type_inv c.place-place_answer.ensures _ c.position.ensures c.in-Some-position.at c.in-Some-position.is) in omega (arith, inside, c.place-place_answer.auto.store)

pub expressions::compound-returns : goal.expressions::compound-returns
expressions::compound-returns t c =
    handed-on c.update.result _ _ c.update.type_inv ∙ c.update.ensures c.place-place_answer.new.left
    ∙ ap (λ (z : ℤ). spend (update c.args.operator c.in-Some-position.at z new_value) c.place-place_answer.new.left c.place-place_answer.new.store) (back c.in-Some.right c.in-Some.known_told-1-own.given.0.1)
    ∙ sym (compound-row c.requires c.link_at-2.ensures c.link_at.ensures c.args.left.now c.args.store.now ∙ goes _ _ _ _ c.eval-value_answer.type_inv c.eval-value_answer.ensures _ c.operand.ensures c.in-Some.right c.in-Some.is ∙ found _ _ _ c.place-place_answer.type_inv c.place-place_answer.ensures _ c.position.ensures _ c.in-Some-position.at c.in-Some-position.is)

-- A row of each kind is handed to the function of its kind.

pub expressions::compute-number_at-number-requires : goal.expressions::compute-number_at-number-requires
expressions::compute-number_at-number-requires t c =
    field-inside c.requires 0 (omega arith)

pub expressions::compute-overflow_sub-number : goal.expressions::compute-overflow_sub-number
expressions::compute-overflow_sub-number t c =
    (between-both 6 16 c.number_at-number.result (sym c.is_binary.ensures ∙ c.if-is_binary.true)).0

pub expressions::compute-binary-requires : goal.expressions::compute-binary-requires
expressions::compute-binary-requires t c =
    let inside = between-both 6 16 c.number_at-number.result (sym c.is_binary.ensures ∙ c.if-is_binary.true) in
    (omega (arith, c.decreases), operating (λ o. OfExpression (Binary o)) c.requires c.number_at-number.ensures (binary-kind c.number_at-number.result inside.0 inside.1) c.operator_of.ensures)

pub expressions::compute-returns-then-is_binary : goal.expressions::compute-returns-then-is_binary
expressions::compute-returns-then-is_binary t c =
    handed-on c.binary.result _ _ c.binary.type_inv ∙ c.binary.ensures

pub expressions::compute-constant-requires : goal.expressions::compute-constant-requires
expressions::compute-constant-requires t c =
    field-inside c.requires 1 (omega arith)

pub expressions::compute-variable-requires : goal.expressions::compute-variable-requires
unfolding kinds kind_in kind_of
expressions::compute-variable-requires t c =
    numbered c.requires c.number_at-number.ensures 2 c.in-2.is

pub expressions::compute-locate-requires : goal.expressions::compute-locate-requires
unfolding kinds kind_in kind_of
expressions::compute-locate-requires t c =
    (omega (arith, c.decreases), numbered c.requires c.number_at-number.ensures 3 c.in-3.is)

pub expressions::compute-fetch-requires : goal.expressions::compute-fetch-requires
unfolding kinds kind_in kind_of
expressions::compute-fetch-requires t c =
    let rest = c.locate.new.left in
    let store = c.locate.new.store in (
      omega (arith, c.requires.setting.few_words, c.locate.auto.store),
      λ i q. let inside = locate-inside (numbered c.requires c.number_at-number.ensures 3 c.in-3.is) c.args.left.now c.args.store.now i rest store (given-at c.locate.result rest store c.locate.type_inv c.locate.ensures (position_of (operand_of (handed c.locate.result))) refl i q) in omega (arith, inside, c.locate.auto.store),
    )

pub expressions::compute-link_at-requires : goal.expressions::compute-link_at-requires
unfolding kinds kind_in kind_of
expressions::compute-link_at-requires t c =
    link-asks c.requires (unary-link false (numbered c.requires c.number_at-number.ensures 4 c.in-4.is)) (omega arith)

pub expressions::compute-eval-requires : goal.expressions::compute-eval-requires
unfolding kinds kind_in kind_of
expressions::compute-eval-requires t c =
    (omega (arith, c.decreases), linked c.requires (unary-link false (numbered c.requires c.number_at-number.ensures 4 c.in-4.is)) c.link_at.ensures refl)

pub expressions::compute-link_at-requires-in-5 : goal.expressions::compute-link_at-requires-in-5
unfolding kinds kind_in kind_of
expressions::compute-link_at-requires-in-5 t c =
    link-asks c.requires (unary-link true (numbered c.requires c.number_at-number.ensures 5 c.in-5.is)) (omega arith)

pub expressions::compute-eval-requires-in-5 : goal.expressions::compute-eval-requires-in-5
unfolding kinds kind_in kind_of
expressions::compute-eval-requires-in-5 t c =
    (omega (arith, c.decreases), linked c.requires (unary-link true (numbered c.requires c.number_at-number.ensures 5 c.in-5.is)) c.link_at-in-5.ensures refl)

pub expressions::compute-logical-requires : goal.expressions::compute-logical-requires
unfolding kinds kind_in kind_of
expressions::compute-logical-requires t c =
    (omega (arith, c.decreases), numbered c.requires c.number_at-number.ensures 17 c.in-17.is)

pub expressions::compute-logical-requires-in-18 : goal.expressions::compute-logical-requires-in-18
unfolding kinds kind_in kind_of
expressions::compute-logical-requires-in-18 t c =
    (omega (arith, c.decreases), numbered c.requires c.number_at-number.ensures 18 c.in-18.is)

pub expressions::compute-ternary-requires : goal.expressions::compute-ternary-requires
unfolding kinds kind_in kind_of
expressions::compute-ternary-requires t c =
    (omega (arith, c.decreases), numbered c.requires c.number_at-number.ensures 19 c.in-19.is)

pub expressions::compute-comma-requires : goal.expressions::compute-comma-requires
unfolding kinds kind_in kind_of
expressions::compute-comma-requires t c =
    (omega (arith, c.decreases), numbered c.requires c.number_at-number.ensures 20 c.in-20.is)

pub expressions::compute-assign-requires : goal.expressions::compute-assign-requires
unfolding kinds kind_in kind_of
expressions::compute-assign-requires t c =
    (omega (arith, c.decreases), numbered c.requires c.number_at-number.ensures 21 c.in-21.is)

pub expressions::compute-call-requires : goal.expressions::compute-call-requires
unfolding kinds kind_in kind_of
expressions::compute-call-requires t c =
    (omega (arith, c.decreases), numbered c.requires c.number_at-number.ensures 31 c.in-31.is)

pub expressions::compute-overflow_sub-number-in-22-to-26 : goal.expressions::compute-overflow_sub-number-in-22-to-26
expressions::compute-overflow_sub-number-in-22-to-26 t c =
    beyond-assign c.number_at-number.result c.in-22-to-26.in_default-own.rest c.in-22-to-26.if-number-lt17-own.false

pub expressions::compute-compound-requires : goal.expressions::compute-compound-requires
expressions::compute-compound-requires t c =
    (omega (arith, c.decreases), operating (λ o. OfExpression (Compound o)) c.requires c.number_at-number.ensures (compound-kind c.number_at-number.result (beyond-assign c.number_at-number.result c.in-22-to-26.in_default-own.rest c.in-22-to-26.if-number-lt17-own.false) (omega (arith, c.in-22-to-26.if-number-lt27-own.true))) c.operator_of-in-22-to-26.ensures)

pub expressions::compute-increment-requires : goal.expressions::compute-increment-requires
expressions::compute-increment-requires t c =
    (omega (arith, c.decreases), operating (λ o. OfExpression (Prefix o)) c.requires c.number_at-number.ensures (prefix-kind c.number_at-number.result (omega (arith, c.in-27-to-28.if-number-lt27-own.false)) (omega (arith, c.in-27-to-28.if-number-lt29-own.true))) c.operator_of-in-27-to-28.ensures)

pub expressions::compute-increment-requires-in-29-to-30 : goal.expressions::compute-increment-requires-in-29-to-30
expressions::compute-increment-requires-in-29-to-30 t c =
    (omega (arith, c.decreases), operating (λ o. OfExpression (Postfix o)) c.requires c.number_at-number.ensures (postfix-kind c.number_at-number.result (omega (arith, c.in-29-to-30.if-number-lt29-own.false)) (omega (arith, c.in-29-to-30.if-number-lt31-own.true))) c.operator_of-in-29-to-30.ensures)

pub expressions::compute-returns-in-1 : goal.expressions::compute-returns-in-1
unfolding kinds kind_in kind_of
expressions::compute-returns-in-1 t c =
    handed-on c.constant.result _ _ c.constant.type_inv ∙ c.constant.ensures _ _ ∙ sym (constant-row (numbered c.requires c.number_at-number.ensures 1 c.in-1.is) c.args.left.now c.args.store.now)

pub expressions::compute-returns-in-2 : goal.expressions::compute-returns-in-2
expressions::compute-returns-in-2 t c =
    handed-on c.variable.result _ _ c.variable.type_inv ∙ c.variable.ensures c.args.left.now

pub expressions::compute-returns-in-3 : goal.expressions::compute-returns-in-3
unfolding kinds kind_in kind_of
expressions::compute-returns-in-3 t c =
    fetched _ _ _ c.locate.type_inv c.locate.ensures c.fetch.result c.fetch.type_inv c.fetch.ensures ∙ sym (element-row (numbered c.requires c.number_at-number.ensures 3 c.in-3.is) c.args.left.now c.args.store.now)

pub expressions::compute-returns-in-4 : goal.expressions::compute-returns-in-4
unfolding kinds kind_in kind_of
expressions::compute-returns-in-4 t c =
    negated false _ _ _ c.eval.type_inv c.eval.ensures c.negate.result c.negate.type_inv c.negate.ensures ∙ sym (unary-row false (numbered c.requires c.number_at-number.ensures 4 c.in-4.is) c.link_at.ensures c.args.left.now c.args.store.now)

pub expressions::compute-returns-in-5 : goal.expressions::compute-returns-in-5
unfolding kinds kind_in kind_of
expressions::compute-returns-in-5 t c =
    negated true _ _ _ c.eval-in-5.type_inv c.eval-in-5.ensures c.negate-in-5.result c.negate-in-5.type_inv c.negate-in-5.ensures ∙ sym (unary-row true (numbered c.requires c.number_at-number.ensures 5 c.in-5.is) c.link_at-in-5.ensures c.args.left.now c.args.store.now)

pub expressions::compute-returns-in-17 : goal.expressions::compute-returns-in-17
expressions::compute-returns-in-17 t c =
    handed-on c.logical.result _ _ c.logical.type_inv ∙ c.logical.ensures

pub expressions::compute-returns-in-18 : goal.expressions::compute-returns-in-18
expressions::compute-returns-in-18 t c =
    handed-on c.logical-in-18.result _ _ c.logical-in-18.type_inv ∙ c.logical-in-18.ensures

pub expressions::compute-returns-in-19 : goal.expressions::compute-returns-in-19
expressions::compute-returns-in-19 t c =
    handed-on c.ternary.result _ _ c.ternary.type_inv ∙ c.ternary.ensures

pub expressions::compute-returns-in-20 : goal.expressions::compute-returns-in-20
expressions::compute-returns-in-20 t c =
    handed-on c.comma.result _ _ c.comma.type_inv ∙ c.comma.ensures

pub expressions::compute-returns-in-21 : goal.expressions::compute-returns-in-21
expressions::compute-returns-in-21 t c =
    handed-on c.assign.result _ _ c.assign.type_inv ∙ c.assign.ensures

pub expressions::compute-returns-in-31 : goal.expressions::compute-returns-in-31
expressions::compute-returns-in-31 t c =
    handed-on c.call.result _ _ c.call.type_inv ∙ c.call.ensures

pub expressions::compute-returns-in-22-to-26 : goal.expressions::compute-returns-in-22-to-26
expressions::compute-returns-in-22-to-26 t c =
    handed-on c.compound.result _ _ c.compound.type_inv ∙ c.compound.ensures

pub expressions::compute-returns-in-27-to-28 : goal.expressions::compute-returns-in-27-to-28
expressions::compute-returns-in-27-to-28 t c =
    handed-on c.increment.result _ _ c.increment.type_inv ∙ c.increment.ensures

pub expressions::compute-returns-in-29-to-30 : goal.expressions::compute-returns-in-29-to-30
expressions::compute-returns-in-29-to-30 t c =
    handed-on c.increment-in-29-to-30.result _ _ c.increment-in-29-to-30.type_inv ∙ c.increment-in-29-to-30.ensures

pub expressions::compute-returns-in_default : goal.expressions::compute-returns-in_default
expressions::compute-returns-in_default t c =
    let beyond = passed-by c.number_at-number.result c.in_default.in_default-own.rest (sym c.is_binary.ensures ∙ c.if-is_binary.false) in
    answered-word (pos 0) (omega arith) _ _ ∙ sym (other_row c.requires c.number_at-number.ensures (λ inside. omega (arith, c.in_default.if-number-lt17-own.true, beyond inside.0)) c.args.left.now c.args.store.now)

pub expressions::compute-returns-in_default-2 : goal.expressions::compute-returns-in_default-2
expressions::compute-returns-in_default-2 t c =
    answered-word (pos 0) (omega arith) _ _ ∙ sym (other_row c.requires c.number_at-number.ensures (λ inside. not_call c.number_at-number.result c.in_default.in_default-own.rest (omega (arith, c.in_default.if-number-lt31-own.false, inside.1))) c.args.left.now c.args.store.now)

-- A block's list, or what `perform` does.

pub statements::entry-number_at-number-requires : goal.statements::entry-number_at-number-requires
statements::entry-number_at-number-requires t c =
    field-inside c.requires 0 (omega arith)

pub statements::entry-link_at-requires : goal.statements::entry-link_at-requires
unfolding kinds kind_in kind_of
statements::entry-link_at-requires t c =
    optional-asks c.requires (block-link (numbered c.requires c.number_at-number.ensures 42 c.if-number-eq42.true)) (omega arith)

pub statements::entry-list-requires : goal.statements::entry-list-requires
unfolding kinds kind_in kind_of
statements::entry-list-requires t c =
    (omega (arith, c.decreases), optional c.requires (block-link (numbered c.requires c.number_at-number.ensures 42 c.if-number-eq42.true)) c.link_at.ensures refl)

pub statements::entry-returns-then-number-eq42 : goal.statements::entry-returns-then-number-eq42
unfolding kinds kind_in kind_of
statements::entry-returns-then-number-eq42 t c =
    ran-handed c.list.result _ _ c.list.type_inv ∙ c.list.ensures
    ∙ sym (block-row (numbered c.requires c.number_at-number.ensures 42 c.if-number-eq42.true) c.link_at.ensures c.args.left.now c.args.store.now)

pub statements::entry-perform-requires : goal.statements::entry-perform-requires
statements::entry-perform-requires t c =
    (omega (arith, c.decreases), c.requires)

pub statements::entry-returns : goal.statements::entry-returns
statements::entry-returns t c = ran-handed c.perform.result _ _ c.perform.type_inv ∙ c.perform.ensures

-- A step, and then the row by its number.

pub expressions::eval-returns-then-n-eq0 : goal.expressions::eval-returns-then-n-eq0
expressions::eval-returns-then-n-eq0 t c =
    answered-spent c.args.left.now c.args.store.now ∙ sym (not_entered (evaluate_at c.args.rows.now c.args.bounds.now c.args.row) c.args.store.now c.args.left.now c.if-n-eq0.true)

pub expressions::eval-number_at-number-requires : goal.expressions::eval-number_at-number-requires
expressions::eval-number_at-number-requires t c =
    field-inside c.requires 0 (omega arith)

pub expressions::eval-constant-requires : goal.expressions::eval-constant-requires
expressions::eval-constant-requires t c =
    field-inside c.requires 1 (omega arith)

pub expressions::eval-returns-then-number-eq1 : goal.expressions::eval-returns-then-number-eq1
unfolding kinds kind_in kind_of
expressions::eval-returns-then-number-eq1 t c =
    handed-on c.constant.result _ _ c.constant.type_inv ∙ c.constant.ensures _ _ ∙ sym (constant-row (numbered c.requires c.number_at-number.ensures 1 c.if-number-eq1.true) (c.args.left.now - 1) c.args.store.now) ∙ sym (entered (evaluate_at c.args.rows.now c.args.bounds.now c.args.row) c.args.store.now c.args.left.now c.if-n-eq0.false)

pub expressions::eval-variable-requires : goal.expressions::eval-variable-requires
unfolding kinds kind_in kind_of
expressions::eval-variable-requires t c =
    numbered c.requires c.number_at-number.ensures 2 c.if-number-eq2.true

pub expressions::eval-returns-then-number-eq2 : goal.expressions::eval-returns-then-number-eq2
expressions::eval-returns-then-number-eq2 t c =
    handed-on c.variable.result _ _ c.variable.type_inv ∙ c.variable.ensures (c.args.left.now - 1) ∙ sym (entered (evaluate_at c.args.rows.now c.args.bounds.now c.args.row) c.args.store.now c.args.left.now c.if-n-eq0.false)

pub expressions::eval-compute-requires : goal.expressions::eval-compute-requires
expressions::eval-compute-requires t c =
    (omega (arith, c.decreases, c.if-n-eq0.false), c.requires)

pub expressions::eval-returns : goal.expressions::eval-returns
expressions::eval-returns t c =
    handed-on c.compute.result _ _ c.compute.type_inv ∙ c.compute.ensures ∙ sym (entered (evaluate_at c.args.rows.now c.args.bounds.now c.args.row) c.args.store.now c.args.left.now c.if-n-eq0.false)

-- A step, and then what follows the entry.

pub statements::exec-returns-then-n-eq0 : goal.statements::exec-returns-then-n-eq0
statements::exec-returns-then-n-eq0 t c =
    ran-spent c.args.left.now c.args.store.now ∙ sym (not_entered (perform_at c.args.rows.now c.args.bounds.now c.args.row) c.args.store.now c.args.left.now c.if-n-eq0.true)

pub statements::exec-entry-requires : goal.statements::exec-entry-requires
statements::exec-entry-requires t c =
    (omega (arith, c.decreases, c.if-n-eq0.false), c.requires)

pub statements::exec-returns : goal.statements::exec-returns
statements::exec-returns t c =
    ran-handed c.entry.result _ _ c.entry.type_inv ∙ c.entry.ensures ∙ sym (entered (perform_at c.args.rows.now c.args.bounds.now c.args.row) c.args.store.now c.args.left.now c.if-n-eq0.false)

-- `express` enters the row of its expression, and drops the value.

pub statements::express-returns-then-n-eq0 : goal.statements::express-returns-then-n-eq0
statements::express-returns-then-n-eq0 t c =
    let rows = c.args.rows.now in
    let bounds = c.args.bounds.now in
    ran-spent c.args.left.now c.args.store.now
    ∙ sym (express-row c.requires refl c.args.left.now c.args.store.now
    ∙ ap (λ (r : Rest ℤ). onward r (λ _ n s. gives next n s)) (not_entered (evaluate_at rows bounds (number_at rows c.args.row 1)) c.args.store.now c.args.left.now c.if-n-eq0.true))

pub statements::express-link_at-requires : goal.statements::express-link_at-requires
statements::express-link_at-requires t c =
    link-asks c.requires.ready (express-link c.requires) (omega arith)

pub statements::express-compute-requires : goal.statements::express-compute-requires
statements::express-compute-requires t c =
    (omega (arith, c.decreases, c.if-n-eq0.false), linked c.requires.ready (express-link c.requires) c.link_at.ensures refl)

pub statements::express-returns : goal.statements::express-returns
statements::express-returns t c =
    let rows = c.args.rows.now in
    let bounds = c.args.bounds.now in
    expressed _ _ _ c.compute.type_inv c.compute.ensures c.after_expression.result c.after_expression.type_inv c.after_expression.ensures
    ∙ ap (λ (r : Rest ℤ). onward r (λ _ n s. gives next n s)) (sym (entered (evaluate_at rows bounds c.link_at.result) c.args.store.now c.args.left.now c.if-n-eq0.false))
    ∙ sym (express-row c.requires c.link_at.ensures c.args.left.now c.args.store.now)

-- The arms of a guarded statement, and the block that they come to; the rounds of a guarded do: each comes to a block that ends plainly, and the rounds go on
-- with fewer steps left, or it is the last.

pub loops::guarded-link_at-first-requires : goal.loops::guarded-link_at-first-requires
loops::guarded-link_at-first-requires t c =
    optional-asks c.requires.ready (λ h. (guarded-link c.args.repeats c.requires h).0) (omega arith)

pub loops::guarded-loop-block-init : goal.loops::guarded-loop-block-init
loops::guarded-loop-block-init t c = (refl, omega arith, refl)

pub loops::guarded-choose-answer-requires : goal.loops::guarded-choose-answer-requires
loops::guarded-choose-answer-requires t c =
    (omega (arith, c.decreases, c.loop-block.invariant.1), arms-ready c.requires (guarded-link c.args.repeats c.requires) c.link_at-first.ensures c.loop-block.invariant.0)

pub loops::guarded-shape_of-store-in_default : goal.loops::guarded-shape_of-store-in_default
loops::guarded-shape_of-store-in_default t c = c.choose-answer.auto.store ∙ c.loop-block.invariant.0

pub loops::guarded-returns-in_default : goal.loops::guarded-returns-in_default
loops::guarded-returns-in_default t c =
    choice-stops c.choose-answer.result c.choose-answer.new.left c.choose-answer.new.store c.choose-answer.ensures c.choose-answer.type_inv _ c.position.ensures c.in_default.is (guarded_after c.args.repeats c.args.rows.now c.args.bounds.now c.link_at-first.result) ∙ sym (guarded-row c.args.repeats c.requires c.link_at-first.ensures c.args.left.now c.args.store.now ∙ c.loop-block.invariant.2 ∙ guarded-turn c.args.repeats c.args.rows.now c.args.bounds.now c.link_at-first.result c.loop-block.left c.loop-block.store)

pub loops::guarded-shape_of-store-then-block-eq0 : goal.loops::guarded-shape_of-store-then-block-eq0
loops::guarded-shape_of-store-then-block-eq0 t c = c.choose-answer.auto.store ∙ c.loop-block.invariant.0

pub loops::guarded-returns-then-block-eq0 : goal.loops::guarded-returns-then-block-eq0
loops::guarded-returns-then-block-eq0 t c =
    ran-handed c.without_guard.result _ _ c.without_guard.type_inv ∙ c.without_guard.ensures _ _ ∙ sym (guarded-row c.args.repeats c.requires c.link_at-first.ensures c.args.left.now c.args.store.now ∙ c.loop-block.invariant.2 ∙ guarded-turn c.args.repeats c.args.rows.now c.args.bounds.now c.link_at-first.result c.loop-block.left c.loop-block.store ∙ choice_none c.choose-answer.result c.choose-answer.new.left c.choose-answer.new.store c.choose-answer.ensures c.choose-answer.type_inv _ c.position.ensures c.in-Some.block c.in-Some.is c.if-block-eq0.true (guarded_after c.args.repeats c.args.rows.now c.args.bounds.now c.link_at-first.result) ∙ guarded-none c.args.repeats c.args.rows.now c.args.bounds.now c.link_at-first.result _ _)

pub loops::guarded-exec-ended-requires : goal.loops::guarded-exec-ended-requires
loops::guarded-exec-ended-requires t c =
    (omega (arith, c.decreases, c.loop-block.invariant.1, c.choose-answer.ensures.steps), table-row c.requires.ready (block-below c.choose-answer.result c.choose-answer.new.left c.choose-answer.new.store c.choose-answer.ensures c.choose-answer.type_inv _ c.position.ensures c.in-Some.block c.in-Some.is) (c.choose-answer.auto.store ∙ c.loop-block.invariant.0))

pub loops::guarded-shape_of-store-then-not-repeats : goal.loops::guarded-shape_of-store-then-not-repeats
loops::guarded-shape_of-store-then-not-repeats t c = c.exec-ended.auto.store ∙ c.choose-answer.auto.store ∙ c.loop-block.invariant.0

pub loops::guarded-returns-then-not-repeats : goal.loops::guarded-returns-then-not-repeats
loops::guarded-returns-then-not-repeats t c =
    ran-handed c.exec-ended.result _ _ c.exec-ended.type_inv ∙ c.exec-ended.ensures ∙ sym (guarded-row c.args.repeats c.requires c.link_at-first.ensures c.args.left.now c.args.store.now ∙ c.loop-block.invariant.2 ∙ guarded-turn c.args.repeats c.args.rows.now c.args.bounds.now c.link_at-first.result c.loop-block.left c.loop-block.store ∙ choice-block c.choose-answer.result c.choose-answer.new.left c.choose-answer.new.store c.choose-answer.ensures c.choose-answer.type_inv _ c.position.ensures c.in-Some.block c.in-Some.is c.if-block-eq0.false (guarded_after c.args.repeats c.args.rows.now c.args.bounds.now c.link_at-first.result) ∙ guarded-once c.args.repeats c.args.rows.now c.args.bounds.now c.link_at-first.result c.if-not-repeats.true (spend (exec_at c.args.rows.now c.args.bounds.now c.in-Some.block) c.choose-answer.new.left c.choose-answer.new.store))

pub loops::guarded-loop-block-smaller : goal.loops::guarded-loop-block-smaller
loops::guarded-loop-block-smaller t c =
    omega (arith, c.choose-answer.ensures.steps, block_falls _ _ _ c.exec-ended.type_inv _ c.flow.ensures c.in-Next.is (perform_at c.args.rows.now c.args.bounds.now c.in-Some.block) c.choose-answer.new.left c.choose-answer.new.store c.exec-ended.ensures)

pub loops::guarded-loop-block-preserved : goal.loops::guarded-loop-block-preserved
loops::guarded-loop-block-preserved t c =
    let repeats-is = c.if-not-repeats.false in (
      c.exec-ended.auto.store ∙ c.choose-answer.auto.store ∙ c.loop-block.invariant.0,
      omega (arith, c.loop-block.invariant.1, c.choose-answer.ensures.steps, block_falls _ _ _ c.exec-ended.type_inv _ c.flow.ensures c.in-Next.is (perform_at c.args.rows.now c.args.bounds.now c.in-Some.block) c.choose-answer.new.left c.choose-answer.new.store c.exec-ended.ensures),
      c.loop-block.invariant.2 ∙ guarded-turn c.args.repeats c.args.rows.now c.args.bounds.now c.link_at-first.result c.loop-block.left c.loop-block.store ∙ choice-block c.choose-answer.result c.choose-answer.new.left c.choose-answer.new.store c.choose-answer.ensures c.choose-answer.type_inv _ c.position.ensures c.in-Some.block c.in-Some.is c.if-block-eq0.false (guarded_after c.args.repeats c.args.rows.now c.args.bounds.now c.link_at-first.result) ∙ guarded-again c.args.repeats c.args.rows.now c.args.bounds.now c.link_at-first.result repeats-is (spend (exec_at c.args.rows.now c.args.bounds.now c.in-Some.block) c.choose-answer.new.left c.choose-answer.new.store)
          ∙ arms-again _ _ _ c.exec-ended.type_inv c.exec-ended.ensures _ c.flow.ensures c.in-Next.is (spend (choice_rounds (context_at c.args.rows.now c.args.bounds.now) (arm_list_at c.args.rows.now c.link_at-first.result))) ∙ guarded-rounds c.args.repeats c.args.rows.now c.args.bounds.now c.link_at-first.result repeats-is _ _,
    )

pub loops::guarded-shape_of-store-in_default-flow : goal.loops::guarded-shape_of-store-in_default-flow
loops::guarded-shape_of-store-in_default-flow t c = c.exec-ended.auto.store ∙ c.choose-answer.auto.store ∙ c.loop-block.invariant.0

pub loops::guarded-returns-in_default-flow : goal.loops::guarded-returns-in_default-flow
loops::guarded-returns-in_default-flow t c =
    sym (guarded-row c.args.repeats c.requires c.link_at-first.ensures c.args.left.now c.args.store.now ∙ c.loop-block.invariant.2 ∙ guarded-turn c.args.repeats c.args.rows.now c.args.bounds.now c.link_at-first.result c.loop-block.left c.loop-block.store ∙ choice-block c.choose-answer.result c.choose-answer.new.left c.choose-answer.new.store c.choose-answer.ensures c.choose-answer.type_inv _ c.position.ensures c.in-Some.block c.in-Some.is c.if-block-eq0.false (guarded_after c.args.repeats c.args.rows.now c.args.bounds.now c.link_at-first.result) ∙ guarded-again c.args.repeats c.args.rows.now c.args.bounds.now c.link_at-first.result c.if-not-repeats.false (spend (exec_at c.args.rows.now c.args.bounds.now c.in-Some.block) c.choose-answer.new.left c.choose-answer.new.store)
    ∙ arms-left _ _ _ c.exec-ended.type_inv c.exec-ended.ensures _ c.flow.ensures c.in_default-flow.not-Next (spend (choice_rounds (context_at c.args.rows.now c.args.bounds.now) (arm_list_at c.args.rows.now c.link_at-first.result))))

-- The place, then the update by 1.

pub expressions::increment-link_at-requires : goal.expressions::increment-link_at-requires
expressions::increment-link_at-requires t c =
    link-asks c.requires.ready (increment-link c.args.old c.args.operator c.requires).0 (omega arith)

pub expressions::increment-place-place_answer-requires : goal.expressions::increment-place-place_answer-requires
expressions::increment-place-place_answer-requires t c =
    (omega (arith, c.decreases), linked-place c.requires.ready (increment-link c.args.old c.args.operator c.requires) c.link_at.ensures refl)

pub expressions::increment-returns-in_default : goal.expressions::increment-returns-in_default
expressions::increment-returns-in_default t c =
    lost _ _ _ c.place-place_answer.type_inv c.place-place_answer.ensures _ c.position.ensures _ c.in_default.is ∙ sym (increment-row c.args.old c.args.operator c.requires c.link_at.ensures c.args.left.now c.args.store.now)

pub expressions::increment-update-requires : goal.expressions::increment-update-requires
expressions::increment-update-requires t c =
    let inside = place_inside (linked-place c.requires.ready (increment-link c.args.old c.args.operator c.requires) c.link_at.ensures refl) c.args.left.now c.args.store.now c.in-Some.at c.place-place_answer.new.left c.place-place_answer.new.store (given-at _ _ _ c.place-place_answer.type_inv c.place-place_answer.ensures _ c.position.ensures c.in-Some.at c.in-Some.is) in omega (arith, inside, c.place-place_answer.auto.store)

pub expressions::increment-returns : goal.expressions::increment-returns
expressions::increment-returns t c =
    handed-on c.update.result _ _ c.update.type_inv ∙ c.update.ensures c.place-place_answer.new.left ∙ sym (increment-row c.args.old c.args.operator c.requires c.link_at.ensures c.args.left.now c.args.store.now ∙ found _ _ _ c.place-place_answer.type_inv c.place-place_answer.ensures _ c.position.ensures _ c.in-Some.at c.in-Some.is)

-- A definition is passed over; else a step, and then what follows the entry.

pub statements::item-number_at-number-requires : goal.statements::item-number_at-number-requires
statements::item-number_at-number-requires t c =
    field-inside c.requires 0 (omega arith)

pub statements::item-returns-then-number-eq59 : goal.statements::item-returns-then-number-eq59
statements::item-returns-then-number-eq59 t c =
    ran-next c.args.left.now c.args.store.now ∙ sym (defined-item c.args.rows.now c.args.bounds.now c.args.row c.number_at-number.ensures c.args.left.now c.args.store.now c.if-number-eq59.true)

pub statements::item-returns-then-n-eq0 : goal.statements::item-returns-then-n-eq0
statements::item-returns-then-n-eq0 t c =
    ran-spent c.args.left.now c.args.store.now
    ∙ sym (stated-item c.args.rows.now c.args.bounds.now c.args.row c.number_at-number.ensures c.args.left.now c.args.store.now c.if-number-eq59.false ∙ not_entered (perform_at c.args.rows.now c.args.bounds.now c.args.row) c.args.store.now c.args.left.now c.if-n-eq0.true)

pub statements::item-entry-requires : goal.statements::item-entry-requires
statements::item-entry-requires t c =
    (omega (arith, c.decreases, c.if-n-eq0.false), c.requires)

pub statements::item-returns : goal.statements::item-returns
statements::item-returns t c =
    ran-handed c.entry.result _ _ c.entry.type_inv ∙ c.entry.ensures
    ∙ sym (stated-item c.args.rows.now c.args.bounds.now c.args.row c.number_at-number.ensures c.args.left.now c.args.store.now c.if-number-eq59.false ∙ entered (perform_at c.args.rows.now c.args.bounds.now c.args.row) c.args.store.now c.args.left.now c.if-n-eq0.false)

-- The items of a list in turn: the invariant is that the list is the list from the row on; the measure is the rows ahead.

pub statements::list-loop-at-init : goal.statements::list-loop-at-init
statements::list-loop-at-init t c =
    (c.requires.below, refl, omega arith, continued-next c.args.rows.now (context_at c.args.rows.now c.args.bounds.now) (negsuc 0) c.args.left.now c.args.store.now c.args.first flow_next)

pub statements::list-item-answer-requires : goal.statements::list-item-answer-requires
statements::list-item-answer-requires t c =
    (omega (arith, c.loop-at.invariant.2, c.decreases), table-row c.requires c.loop-at.invariant.0 c.loop-at.invariant.1)

pub statements::list-resume-at-requires : goal.statements::list-resume-at-requires
statements::list-resume-at-requires t c =
    in_table (table-row c.requires c.loop-at.invariant.0 refl)

pub statements::list-loop-at-smaller : goal.statements::list-loop-at-smaller
statements::list-loop-at-smaller t c =
    ahead-falls (row_count c.args.rows.now) c.loop-at.at c.resume-at.result c.loop-at-test.true c.loop-at.invariant.0 c.resume-at.ensures.ahead

pub statements::list-loop-at-preserved : goal.statements::list-loop-at-preserved
statements::list-loop-at-preserved t c =
    let here = c.requires in (
      c.resume-at.ensures.below,
      c.item-answer.auto.store ∙ c.loop-at.invariant.1,
      omega (arith, c.loop-at.invariant.2, ran-least _ _ _ _ _ _ c.item-answer.ensures),
      c.loop-at.invariant.3
          ∙ list-step (layout_in c.args.rows.now c.args.bounds.now) c.args.rows.now (in_table (table-row here c.loop-at.invariant.0 refl)) c.loop-at-test.true _ c.loop-at.left c.loop-at.store _ _ _ c.item-answer.type_inv c.item-answer.ensures c.resume-at.result c.resume-at.ensures,
    )

pub statements::list-returns : goal.statements::list-returns
statements::list-returns t c =
    sym (c.loop-at.invariant.3 ∙ continued-end (layout_in c.args.rows.now c.args.bounds.now) c.args.rows.now c.loop-at.at _ c.loop-at.left c.loop-at.store c.loop-at-test.false)

-- The index, then the bounds test.

pub expressions::locate-link_at-requires : goal.expressions::locate-link_at-requires
expressions::locate-link_at-requires t c =
    link-asks c.requires.ready (element-index c.requires) (omega arith)

pub expressions::locate-eval-answer-requires : goal.expressions::locate-eval-answer-requires
expressions::locate-eval-answer-requires t c =
    (omega (arith, c.decreases), linked c.requires.ready (element-index c.requires) c.link_at.ensures refl)

pub expressions::locate-returns-in_default : goal.expressions::locate-returns-in_default
expressions::locate-returns-in_default t c =
    hands-placed _ _ _ c.eval-answer.type_inv c.eval-answer.ensures _ c.operand.ensures c.in_default.is _ ∙ sym (locate-row c.requires refl c.link_at.ensures c.args.left.now c.args.store.now)

pub expressions::locate-link_at-requires-2 : goal.expressions::locate-link_at-requires-2
expressions::locate-link_at-requires-2 t c =
    array-asks c.requires

pub expressions::locate-within-requires : goal.expressions::locate-within-requires
expressions::locate-within-requires t c =
    (lies c.requires.ready.setting _ (array-is c.requires c.link_at-2.ensures)).bounded

pub expressions::locate-returns : goal.expressions::locate-returns
expressions::locate-returns t c =
    handed_on-placed c.within.result _ _ c.within.type_inv ∙ c.within.ensures _ _
    ∙ (let arrays = lies c.requires.ready.setting c.link_at-2.result (array-is c.requires c.link_at-2.ensures) in element-handed _ _ _ _ c.in-Some.value arrays.base arrays.span c.in-Some.known_told-1-own.given.0.1 _ _)
    ∙ sym (locate-row c.requires c.link_at-2.ensures c.link_at.ensures c.args.left.now c.args.store.now ∙ goes _ _ _ _ c.eval-answer.type_inv c.eval-answer.ensures _ c.operand.ensures c.in-Some.value c.in-Some.is)

-- The left operand, and the right one where it is needed.

pub expressions::logical-link_at-requires : goal.expressions::logical-link_at-requires
expressions::logical-link_at-requires t c =
    link-asks c.requires.ready (logical-links c.args.decided c.requires).0 (omega arith)

pub expressions::logical-eval-left_answer-requires : goal.expressions::logical-eval-left_answer-requires
expressions::logical-eval-left_answer-requires t c =
    (omega (arith, c.decreases), linked c.requires.ready (logical-links c.args.decided c.requires).0 c.link_at.ensures refl)

pub expressions::logical-returns-in_default : goal.expressions::logical-returns-in_default
expressions::logical-returns-in_default t c =
    hands-up _ _ _ c.eval-left_answer.type_inv c.eval-left_answer.ensures _ c.operand.ensures c.in_default.is _ ∙ sym (logical-row c.args.decided c.requires c.link_at.ensures refl c.args.left.now c.args.store.now)

pub expressions::logical-overflow_cast-result : goal.expressions::logical-overflow_cast-result
expressions::logical-overflow_cast-result t c =
    wide_fits c.bit.result c.bit.type_inv

pub expressions::logical-returns-then-decides : goal.expressions::logical-returns-then-decides
expressions::logical-returns-then-decides t c =
    answered-wide c.bit.result c.bit.type_inv _ _ ∙ ap (λ (z : ℤ). gives z c.eval-left_answer.new.left c.eval-left_answer.new.store) c.bit.ensures ∙ decided-bit c.args.decided _ _
    ∙ sym (logical-row c.args.decided c.requires c.link_at.ensures refl c.args.left.now c.args.store.now ∙ goes _ _ _ _ c.eval-left_answer.type_inv c.eval-left_answer.ensures _ c.operand.ensures c.in-Some.value c.in-Some.is ∙ decided-left c.args.decided _ _ _ _ (sym (ap (λ (z : ℤ). pick c.args.decided (is_true z) (not (is_true z))) (back c.in-Some.value c.in-Some.known_told-1-own.given.0.1)) ∙ sym c.decides.ensures ∙ c.if-decides.true))

pub expressions::logical-link_at-requires-2 : goal.expressions::logical-link_at-requires-2
expressions::logical-link_at-requires-2 t c =
    link-asks c.requires.ready (logical-links c.args.decided c.requires).1 (omega arith)

pub expressions::logical-eval-right_answer-requires : goal.expressions::logical-eval-right_answer-requires
expressions::logical-eval-right_answer-requires t c =
    (omega (arith, c.decreases, answered-least _ _ _ _ _ _ c.eval-left_answer.ensures), linked c.requires.ready (logical-links c.args.decided c.requires).1 c.link_at-2.ensures c.eval-left_answer.auto.store)

pub expressions::logical-returns-in_default-operand : goal.expressions::logical-returns-in_default-operand
expressions::logical-returns-in_default-operand t c =
    hands-up _ _ _ c.eval-right_answer.type_inv c.eval-right_answer.ensures _ c.operand-2.ensures c.in_default-operand.is _
    ∙ sym (logical-row c.args.decided c.requires c.link_at.ensures c.link_at-2.ensures c.args.left.now c.args.store.now ∙ goes _ _ _ _ c.eval-left_answer.type_inv c.eval-left_answer.ensures _ c.operand.ensures c.in-Some.value c.in-Some.is ∙ decided-right c.args.decided _ _ _ _ (sym (ap (λ (z : ℤ). pick c.args.decided (is_true z) (not (is_true z))) (back c.in-Some.value c.in-Some.known_told-1-own.given.0.1)) ∙ sym c.decides.ensures ∙ c.if-decides.false))

pub expressions::logical-overflow_cast-result-2 : goal.expressions::logical-overflow_cast-result-2
expressions::logical-overflow_cast-result-2 t c =
    wide_fits c.bit-2.result c.bit-2.type_inv

pub expressions::logical-returns : goal.expressions::logical-returns
expressions::logical-returns t c =
    answered-wide c.bit-2.result c.bit-2.type_inv _ _ ∙ ap (λ (z : ℤ). gives z c.eval-right_answer.new.left c.eval-right_answer.new.store) (c.bit-2.ensures ∙ ap bit (c.is_true.ensures ∙ ap is_true (back c.in-Some-operand.right c.in-Some-operand.known_told-in-Some-operand-2-1-own.given.0.1)) ∙ truth-is c.in-Some-operand.right)
    ∙ sym (logical-row c.args.decided c.requires c.link_at.ensures c.link_at-2.ensures c.args.left.now c.args.store.now ∙ goes _ _ _ _ c.eval-left_answer.type_inv c.eval-left_answer.ensures _ c.operand.ensures c.in-Some.value c.in-Some.is ∙ decided-right c.args.decided _ _ _ _ (sym (ap (λ (z : ℤ). pick c.args.decided (is_true z) (not (is_true z))) (back c.in-Some.value c.in-Some.known_told-1-own.given.0.1)) ∙ sym c.decides.ensures ∙ c.if-decides.false) ∙ goes _ _ _ _ c.eval-right_answer.type_inv c.eval-right_answer.ensures _ c.operand-2.ensures c.in-Some-operand.right c.in-Some-operand.is)

-- `part` evaluates the expression at a row, if there is one.

pub loops::part-overflow_cast-result : goal.loops::part-overflow_cast-result
loops::part-overflow_cast-result t c =
    wide_fits c.args.absent c.ranges.absent.sfits

pub loops::part-returns-then-row-eq0 : goal.loops::part-returns-then-row-eq0
loops::part-returns-then-row-eq0 t c =
    answered-wide c.args.absent c.ranges.absent.sfits _ _ ∙ sym (part-absent c.args.absent c.args.rows.now c.args.bounds.now c.args.left.now c.args.store.now c.args.row c.if-row-eq0.true)

pub loops::part-eval-requires : goal.loops::part-eval-requires
loops::part-eval-requires t c = let start = c.before.before.before.before in (omega (arith, start.decreases), start.requires)

pub loops::part-returns : goal.loops::part-returns
loops::part-returns t c =
    handed-on c.eval.result _ _ c.eval.type_inv ∙ c.eval.ensures
    ∙ sym (part-there c.args.absent c.args.rows.now c.args.bounds.now c.args.left.now c.args.store.now c.args.row c.if-row-eq0.false)

-- A row of each kind is handed to the function of its kind.

pub statements::perform-number_at-number-requires : goal.statements::perform-number_at-number-requires
statements::perform-number_at-number-requires t c =
    field-inside c.requires 0 (omega arith)

pub statements::perform-express-requires : goal.statements::perform-express-requires
unfolding kinds kind_in kind_of
statements::perform-express-requires t c =
    (omega (arith, c.decreases), numbered c.requires c.number_at-number.ensures 41 c.in-41.is)

pub statements::perform-link_at-requires : goal.statements::perform-link_at-requires
unfolding kinds kind_in kind_of
statements::perform-link_at-requires t c =
    optional-asks c.requires (block-link (numbered c.requires c.number_at-number.ensures 42 c.in-42.is)) (omega arith)

pub statements::perform-list-requires : goal.statements::perform-list-requires
unfolding kinds kind_in kind_of
statements::perform-list-requires t c =
    (omega (arith, c.decreases), optional c.requires (block-link (numbered c.requires c.number_at-number.ensures 42 c.in-42.is)) c.link_at.ensures refl)

pub statements::perform-branch-rows-requires : goal.statements::perform-branch-rows-requires
unfolding kinds kind_in kind_of
statements::perform-branch-rows-requires t c =
    (omega (arith, c.decreases), numbered c.requires c.number_at-number.ensures 43 c.in-43.is)

pub statements::perform-link_at-requires-in-44 : goal.statements::perform-link_at-requires-in-44
unfolding kinds kind_in kind_of
statements::perform-link_at-requires-in-44 t c =
    link-asks c.requires (while-links (numbered c.requires c.number_at-number.ensures 44 c.in-44.is)).0 (omega arith)

pub statements::perform-link_at-requires-in-44-2 : goal.statements::perform-link_at-requires-in-44-2
unfolding kinds kind_in kind_of
statements::perform-link_at-requires-in-44-2 t c =
    link-asks c.requires (while-links (numbered c.requires c.number_at-number.ensures 44 c.in-44.is)).1 (omega arith)

pub statements::perform-rounds-requires : goal.statements::perform-rounds-requires
unfolding kinds kind_in kind_of
statements::perform-rounds-requires t c =
    let links = while-links (numbered c.requires c.number_at-number.ensures 44 c.in-44.is) in (
      omega (arith, c.decreases),
      record {
        test_ready = linked c.requires links.0 c.link_at-in-44.ensures refl;
        body_ready = linked c.requires links.1 c.link_at-in-44-2.ensures refl;
        last_ready = table-row c.requires c.requires.setting.sound.some_rows refl;
      },
    )

pub statements::perform-link_at-requires-in-45 : goal.statements::perform-link_at-requires-in-45
unfolding kinds kind_in kind_of
statements::perform-link_at-requires-in-45 t c =
    link-asks c.requires (do-links (numbered c.requires c.number_at-number.ensures 45 c.in-45.is)).0 (omega arith)

pub statements::perform-link_at-requires-in-45-2 : goal.statements::perform-link_at-requires-in-45-2
unfolding kinds kind_in kind_of
statements::perform-link_at-requires-in-45-2 t c =
    link-asks c.requires (do-links (numbered c.requires c.number_at-number.ensures 45 c.in-45.is)).1 (omega arith)

pub statements::perform-rounds-requires-in-45 : goal.statements::perform-rounds-requires-in-45
unfolding kinds kind_in kind_of
statements::perform-rounds-requires-in-45 t c =
    let links = do-links (numbered c.requires c.number_at-number.ensures 45 c.in-45.is) in (
      omega (arith, c.decreases),
      record {
        test_ready = table-row c.requires c.requires.setting.sound.some_rows refl;
        body_ready = linked c.requires links.0 c.link_at-in-45.ensures refl;
        last_ready = linked c.requires links.1 c.link_at-in-45-2.ensures refl;
      },
    )

pub statements::perform-switch-requires : goal.statements::perform-switch-requires
unfolding kinds kind_in kind_of
statements::perform-switch-requires t c =
    (omega (arith, c.decreases), numbered c.requires c.number_at-number.ensures 47 c.in-47.is)

pub statements::perform-word_at-requires : goal.statements::perform-word_at-requires
statements::perform-word_at-requires t c =
    field-inside c.requires 1 (omega arith)

pub statements::perform-link_at-requires-in-58 : goal.statements::perform-link_at-requires-in-58
unfolding kinds kind_in kind_of
statements::perform-link_at-requires-in-58 t c =
    optional-asks c.requires (declare-link (numbered c.requires c.number_at-number.ensures 58 c.in-58.is)) (omega arith)

pub statements::perform-eval-requires : goal.statements::perform-eval-requires
unfolding kinds kind_in kind_of
statements::perform-eval-requires t c =
    (omega (arith, c.decreases), optional c.requires (declare-link (numbered c.requires c.number_at-number.ensures 58 c.in-58.is)) c.link_at-in-58.ensures refl)

pub statements::perform-after_initial-requires : goal.statements::perform-after_initial-requires
unfolding kinds kind_in kind_of
statements::perform-after_initial-requires t c =
    let declares = numbered c.requires c.number_at-number.ensures 58 c.in-58.is in
    ((declared-asks declares).0, omega (arith, declared-inside declares, c.eval.auto.store), omega (arith, c.requires.setting.few_words, c.eval.auto.store))

pub statements::perform-link_at-requires-in-60 : goal.statements::perform-link_at-requires-in-60
unfolding kinds kind_in kind_of
statements::perform-link_at-requires-in-60 t c =
    optional-asks c.requires (return-link (numbered c.requires c.number_at-number.ensures 60 c.in-60.is)) (omega arith)

pub statements::perform-part-requires : goal.statements::perform-part-requires
unfolding kinds kind_in kind_of
statements::perform-part-requires t c =
    (omega (arith, c.decreases), optional c.requires (return-link (numbered c.requires c.number_at-number.ensures 60 c.in-60.is)) c.link_at-in-60.ensures refl)

pub statements::perform-guarded-requires : goal.statements::perform-guarded-requires
statements::perform-guarded-requires t c =
    (omega (arith, c.decreases), record { ready = c.requires; kind_is = kind-numbered c.args.rows.now c.args.row c.number_at-number.ensures c.number_at-number.result refl ∙ guarded-kind c.number_at-number.result (omega (arith, c.in-54-to-55.if-number-lt54-own.false)) (omega (arith, c.in-54-to-55.if-number-lt56-own.true)) })

pub statements::perform-returns-in-40 : goal.statements::perform-returns-in-40
unfolding kinds kind_in kind_of
statements::perform-returns-in-40 t c =
    ran-next _ _ ∙ sym (empty-row (numbered c.requires c.number_at-number.ensures 40 c.in-40.is) c.args.left.now c.args.store.now)

pub statements::perform-returns-in-41 : goal.statements::perform-returns-in-41
statements::perform-returns-in-41 t c =
    ran-handed c.express.result _ _ c.express.type_inv ∙ c.express.ensures

pub statements::perform-returns-in-42 : goal.statements::perform-returns-in-42
unfolding kinds kind_in kind_of
statements::perform-returns-in-42 t c =
    ran-handed c.list.result _ _ c.list.type_inv ∙ c.list.ensures ∙ sym (block-row (numbered c.requires c.number_at-number.ensures 42 c.in-42.is) c.link_at.ensures c.args.left.now c.args.store.now)

pub statements::perform-returns-in-43 : goal.statements::perform-returns-in-43
statements::perform-returns-in-43 t c =
    ran-handed c.branch-rows.result _ _ c.branch-rows.type_inv ∙ c.branch-rows.ensures

pub statements::perform-returns-in-44 : goal.statements::perform-returns-in-44
unfolding kinds kind_in kind_of
statements::perform-returns-in-44 t c =
    ran-handed c.rounds.result _ _ c.rounds.type_inv ∙ c.rounds.ensures ∙ sym (while-row (numbered c.requires c.number_at-number.ensures 44 c.in-44.is) c.link_at-in-44.ensures c.link_at-in-44-2.ensures c.args.left.now c.args.store.now)

pub statements::perform-returns-in-45 : goal.statements::perform-returns-in-45
unfolding kinds kind_in kind_of
statements::perform-returns-in-45 t c =
    ran-handed c.rounds-in-45.result _ _ c.rounds-in-45.type_inv ∙ c.rounds-in-45.ensures ∙ sym (do-row (numbered c.requires c.number_at-number.ensures 45 c.in-45.is) c.link_at-in-45.ensures c.link_at-in-45-2.ensures c.args.left.now c.args.store.now)

pub statements::perform-returns-in-47 : goal.statements::perform-returns-in-47
statements::perform-returns-in-47 t c =
    ran-handed c.switch.result _ _ c.switch.type_inv ∙ c.switch.ensures

pub statements::perform-returns-in-50 : goal.statements::perform-returns-in-50
unfolding kinds kind_in kind_of
statements::perform-returns-in-50 t c =
    ran-break _ _ ∙ sym (break-row (numbered c.requires c.number_at-number.ensures 50 c.in-50.is) c.args.left.now c.args.store.now)

pub statements::perform-returns-in-51 : goal.statements::perform-returns-in-51
unfolding kinds kind_in kind_of
statements::perform-returns-in-51 t c =
    ran-continue _ _ ∙ sym (continue-row (numbered c.requires c.number_at-number.ensures 51 c.in-51.is) c.args.left.now c.args.store.now)

pub statements::perform-returns-in-52 : goal.statements::perform-returns-in-52
unfolding kinds kind_in kind_of
statements::perform-returns-in-52 t c =
    ran-handed c.jump.result _ _ c.jump.type_inv ∙ c.jump.ensures c.args.left.now c.args.store.now ∙ ap (λ (z : ℤ). gives (seeking (label (natural z))) c.args.left.now c.args.store.now) (back c.word_at.result c.word_at.type_inv ∙ c.word_at.ensures)
    ∙ sym (goto-row (numbered c.requires c.number_at-number.ensures 52 c.in-52.is) c.args.left.now c.args.store.now)

pub statements::perform-returns-in-57 : goal.statements::perform-returns-in-57
unfolding kinds kind_in kind_of
statements::perform-returns-in-57 t c =
    ran-guard _ _ ∙ sym (abort-row (numbered c.requires c.number_at-number.ensures 57 c.in-57.is) c.args.left.now c.args.store.now)

pub statements::perform-returns-in-58 : goal.statements::perform-returns-in-58
unfolding kinds kind_in kind_of
statements::perform-returns-in-58 t c =
    initial _ _ _ c.eval.type_inv c.eval.ensures c.after_initial.result c.after_initial.type_inv (number_at c.args.rows.now c.args.row 1) c.after_initial.new.store c.after_initial.ensures
    ∙ sym (declare-row (numbered c.requires c.number_at-number.ensures 58 c.in-58.is) refl c.link_at-in-58.ensures c.args.left.now c.args.store.now)

pub statements::perform-returns-in-60 : goal.statements::perform-returns-in-60
unfolding kinds kind_in kind_of
statements::perform-returns-in-60 t c =
    valued _ _ _ c.part.type_inv c.part.ensures c.after_value.result c.after_value.type_inv c.after_value.ensures
    ∙ sym (return-row (numbered c.requires c.number_at-number.ensures 60 c.in-60.is) c.link_at-in-60.ensures c.args.left.now c.args.store.now)

pub statements::perform-returns-in-54-to-55 : goal.statements::perform-returns-in-54-to-55
statements::perform-returns-in-54-to-55 t c =
    ran-handed c.guarded.result _ _ c.guarded.type_inv ∙ c.guarded.ensures

pub statements::perform-returns-in_default : goal.statements::perform-returns-in_default
statements::perform-returns-in_default t c =
    let number = c.number_at-number.result in
    let rest = c.in_default.in_default-own.rest in
    ran-next _ _ ∙ sym (other-statement c.requires c.number_at-number.ensures (not_plain number rest) (not-jump number rest) (λ inside. omega (arith, c.in_default.if-number-lt54-own.true, inside.0)) (not-other number rest) (not-return number rest) c.args.left.now c.args.store.now)

pub statements::perform-returns-in_default-2 : goal.statements::perform-returns-in_default-2
statements::perform-returns-in_default-2 t c =
    let number = c.number_at-number.result in
    let rest = c.in_default.in_default-own.rest in
    ran-next _ _ ∙ sym (other-statement c.requires c.number_at-number.ensures (not_plain number rest) (not-jump number rest) (λ inside. omega (arith, c.in_default.if-number-lt56-own.false, inside.1)) (not-other number rest) (not-return number rest) c.args.left.now c.args.store.now)

-- The arm of a for in `perform`: its start, then its rounds.

pub statements::perform-link_at-requires-in-46 : goal.statements::perform-link_at-requires-in-46
unfolding kinds kind_in kind_of
statements::perform-link_at-requires-in-46 t c =
    let entry = numbered c.requires c.number_at-number.ensures 46 c.in-46.is in
    optional-asks entry.ready (for-links entry).0 (omega arith)

pub statements::perform-part-answer-requires : goal.statements::perform-part-answer-requires
unfolding kinds kind_in kind_of
statements::perform-part-answer-requires t c =
    let entry = numbered c.requires c.number_at-number.ensures 46 c.in-46.is in
    (omega (arith, c.decreases), optional entry.ready (for-links entry).0 c.link_at-in-46.ensures refl)

pub statements::perform-returns-in_default-operand : goal.statements::perform-returns-in_default-operand
unfolding kinds kind_in kind_of
statements::perform-returns-in_default-operand t c =
    let entry = numbered c.requires c.number_at-number.ensures 46 c.in-46.is in
    hands-flow _ _ _ c.part-answer.type_inv c.part-answer.ensures _ c.operand.ensures c.in_default-operand.is _ ∙ sym (for-row entry c.link_at-in-46.ensures refl refl refl c.args.left.now c.args.store.now)

pub statements::perform-link_at-requires-in-46-2 : goal.statements::perform-link_at-requires-in-46-2
unfolding kinds kind_in kind_of
statements::perform-link_at-requires-in-46-2 t c =
    let entry = numbered c.requires c.number_at-number.ensures 46 c.in-46.is in
    optional-asks entry.ready (for-links entry).1 (omega arith)

pub statements::perform-link_at-requires-in-46-3 : goal.statements::perform-link_at-requires-in-46-3
unfolding kinds kind_in kind_of
statements::perform-link_at-requires-in-46-3 t c =
    let entry = numbered c.requires c.number_at-number.ensures 46 c.in-46.is in
    link-asks entry.ready (for-links entry).3 (omega arith)

pub statements::perform-link_at-requires-in-46-4 : goal.statements::perform-link_at-requires-in-46-4
unfolding kinds kind_in kind_of
statements::perform-link_at-requires-in-46-4 t c =
    let entry = numbered c.requires c.number_at-number.ensures 46 c.in-46.is in
    optional-asks entry.ready (for-links entry).2 (omega arith)

pub statements::perform-rounds-requires-in-46 : goal.statements::perform-rounds-requires-in-46
unfolding kinds kind_in kind_of
statements::perform-rounds-requires-in-46 t c =
    let entry = numbered c.requires c.number_at-number.ensures 46 c.in-46.is in (
      omega (arith, c.decreases, answered-least _ _ _ _ _ _ c.part-answer.ensures),
      record {
        test_ready = optional entry.ready (for-links entry).1 c.link_at-in-46-2.ensures c.part-answer.auto.store;
        body_ready = linked entry.ready (for-links entry).3 c.link_at-in-46-3.ensures c.part-answer.auto.store;
        last_ready = optional entry.ready (for-links entry).2 c.link_at-in-46-4.ensures c.part-answer.auto.store;
      },
    )

pub statements::perform-returns-in-Some : goal.statements::perform-returns-in-Some
unfolding kinds kind_in kind_of
statements::perform-returns-in-Some t c =
    let entry = numbered c.requires c.number_at-number.ensures 46 c.in-46.is in
    ran-handed c.rounds-in-46.result _ _ c.rounds-in-46.type_inv ∙ c.rounds-in-46.ensures
    ∙ sym (for-row entry c.link_at-in-46.ensures c.link_at-in-46-2.ensures c.link_at-in-46-4.ensures c.link_at-in-46-3.ensures c.args.left.now c.args.store.now ∙ goes _ _ _ _ c.part-answer.type_inv c.part-answer.ensures _ c.operand.ensures c.in-Some.field-0 c.in-Some.is)

-- A step, and then a variable or an element.

pub expressions::place-returns-then-n-eq0 : goal.expressions::place-returns-then-n-eq0
expressions::place-returns-then-n-eq0 t c =
    placed-spent c.args.left.now c.args.store.now ∙ sym (not_entered (locate_at c.args.rows.now c.args.bounds.now c.args.row) c.args.store.now c.args.left.now c.if-n-eq0.true)

pub expressions::place-number_at-number-requires : goal.expressions::place-number_at-number-requires
expressions::place-number_at-number-requires t c =
    field-inside c.requires.ready 0 (omega arith)

pub expressions::place-locate-requires : goal.expressions::place-locate-requires
unfolding kinds kind_in kind_of
expressions::place-locate-requires t c =
    (omega (arith, c.decreases, c.if-n-eq0.false), numbered c.requires.ready c.number_at-number.ensures 3 c.if-number-eq3.true)

pub expressions::place-returns-then-number-eq3 : goal.expressions::place-returns-then-number-eq3
expressions::place-returns-then-number-eq3 t c =
    handed_on-placed c.locate.result _ _ c.locate.type_inv ∙ c.locate.ensures ∙ sym (entered (locate_at c.args.rows.now c.args.bounds.now c.args.row) c.args.store.now c.args.left.now c.if-n-eq0.false)

pub expressions::place-word_at-requires : goal.expressions::place-word_at-requires
expressions::place-word_at-requires t c =
    field-inside c.requires.ready 1 (omega arith)

pub expressions::place-overflow_cast-result : goal.expressions::place-overflow_cast-result
expressions::place-overflow_cast-result t c =
    wide_fits c.word_at.result c.word_at.type_inv

pub expressions::place-returns : goal.expressions::place-returns
unfolding number_at
expressions::place-returns t c =
    let entry = place-variable c.requires c.number_at-number.ensures c.if-number-eq3.false in
    placed-wide c.word_at.result c.word_at.type_inv _ _ ∙ ap (λ (z : ℤ). gives (natural z) (c.args.left.now - 1) c.args.store.now) c.word_at.ensures ∙ sym (place-variable-row entry (c.args.left.now - 1) c.args.store.now)
    ∙ sym (entered (locate_at c.args.rows.now c.args.bounds.now c.args.row) c.args.store.now c.args.left.now c.if-n-eq0.false)

-- The rounds of a loop: each leaves the loop, or the loop goes on with fewer steps left.

pub loops::rounds-loop-init : goal.loops::rounds-loop-init
loops::rounds-loop-init t c = (refl, omega arith, refl)

pub loops::rounds-turn-answer-requires : goal.loops::rounds-turn-answer-requires
loops::rounds-turn-answer-requires t c =
    let here = c.requires in (
      omega (arith, c.loop.invariant.1, c.decreases),
      record {
        test_ready = table-row here.test_ready here.test_ready.below c.loop.invariant.0;
        body_ready = table-row here.body_ready here.body_ready.below c.loop.invariant.0;
        last_ready = table-row here.last_ready here.last_ready.below c.loop.invariant.0;
      },
    )

pub loops::rounds-loop-smaller : goal.loops::rounds-loop-smaller
loops::rounds-loop-smaller t c =
    round-falls _ _ _ c.turn-answer.type_inv _ c.flow.ensures c.in-Continue.is (turn_at c.args.rows.now c.args.bounds.now c.args.test c.args.body c.args.last c.args.decides) c.loop.left c.loop.store c.turn-answer.ensures

pub loops::rounds-loop-preserved : goal.loops::rounds-loop-preserved
loops::rounds-loop-preserved t c = (
  c.turn-answer.auto.store ∙ c.loop.invariant.0,
  omega (arith, c.loop.invariant.1, round-falls _ _ _ c.turn-answer.type_inv _ c.flow.ensures c.in-Continue.is (turn_at c.args.rows.now c.args.bounds.now c.args.test c.args.body c.args.last c.args.decides) c.loop.left c.loop.store c.turn-answer.ensures),
  c.loop.invariant.2 ∙ loop-round (turn_at c.args.rows.now c.args.bounds.now c.args.test c.args.body c.args.last c.args.decides) c.loop.left c.loop.store ∙ goes-round _ _ _ c.turn-answer.type_inv _ c.flow.ensures c.in-Continue.is c.turn-answer.ensures (spend (rounds_at c.args.rows.now c.args.bounds.now c.args.test c.args.body c.args.last c.args.decides)),
)

pub loops::rounds-returns-in_default : goal.loops::rounds-returns-in_default
loops::rounds-returns-in_default t c =
    sym (c.loop.invariant.2 ∙ loop-round (turn_at c.args.rows.now c.args.bounds.now c.args.test c.args.body c.args.last c.args.decides) c.loop.left c.loop.store ∙ leaves _ _ _ c.turn-answer.type_inv _ c.flow.ensures c.in_default.not-Continue c.turn-answer.ensures (spend (rounds_at c.args.rows.now c.args.bounds.now c.args.test c.args.body c.args.last c.args.decides)))

-- The selector, the search for the item to begin at, and the list from there.

pub statements::switch-link_at-requires : goal.statements::switch-link_at-requires
statements::switch-link_at-requires t c =
    link-asks c.requires.ready (switch-links c.requires).0 (omega arith)

pub statements::switch-eval-answer-requires : goal.statements::switch-eval-answer-requires
statements::switch-eval-answer-requires t c =
    (omega (arith, c.decreases), linked c.requires.ready (switch-links c.requires).0 c.link_at.ensures refl)

pub statements::switch-returns-in_default : goal.statements::switch-returns-in_default
statements::switch-returns-in_default t c =
    hands-flow _ _ _ c.eval-answer.type_inv c.eval-answer.ensures _ c.operand.ensures c.in_default.is _ ∙ sym (switch-row c.requires c.link_at.ensures refl c.args.left.now c.args.store.now)

pub statements::switch-link_at-requires-2 : goal.statements::switch-link_at-requires-2
statements::switch-link_at-requires-2 t c =
    optional-asks c.requires.ready (switch-links c.requires).1 (omega arith)

pub statements::switch-find_start-first-requires : goal.statements::switch-find_start-first-requires
statements::switch-find_start-first-requires t c =
    in_table (optional c.requires.ready (switch-links c.requires).1 c.link_at-2.ensures refl)

pub statements::switch-list-requires : goal.statements::switch-list-requires
statements::switch-list-requires t c =
    (omega (arith, c.decreases, answered-least _ _ _ _ _ _ c.eval-answer.ensures), table-row c.requires.ready c.find_start-first.ensures.below c.eval-answer.auto.store)

pub statements::switch-returns : goal.statements::switch-returns
statements::switch-returns t c =
    let chosen = c.in-Some.value in
    let starts : list_at c.args.rows.now c.find_start-first.result ≡ start_of chosen (list_at c.args.rows.now c.link_at-2.result) =
    c.find_start-first.ensures.list ∙ ap (λ (z : ℤ). start_of z (list_at c.args.rows.now c.link_at-2.result)) (back chosen c.in-Some.known_told-1-own.given.0.1) in
    ran-handed c.after_switch.result _ _ c.after_switch.type_inv
    ∙ switch-turns _ _ _ c.list.type_inv (c.list.ensures ∙ ap (λ (l : Items). spend (items (context_at c.args.rows.now c.args.bounds.now) l next) c.eval-answer.new.left c.eval-answer.new.store) starts) c.after_switch.result c.after_switch.ensures
    ∙ sym (switch-row c.requires c.link_at.ensures c.link_at-2.ensures c.args.left.now c.args.store.now ∙ goes _ _ _ _ c.eval-answer.type_inv c.eval-answer.ensures _ c.operand.ensures c.in-Some.value c.in-Some.is)

-- The test, then one branch.

pub expressions::ternary-link_at-requires : goal.expressions::ternary-link_at-requires
expressions::ternary-link_at-requires t c =
    link-asks c.requires.ready (ternary-links c.requires).0 (omega arith)

pub expressions::ternary-eval-answer-requires : goal.expressions::ternary-eval-answer-requires
expressions::ternary-eval-answer-requires t c =
    (omega (arith, c.decreases), linked c.requires.ready (ternary-links c.requires).0 c.link_at.ensures refl)

pub expressions::ternary-returns-in_default : goal.expressions::ternary-returns-in_default
expressions::ternary-returns-in_default t c =
    hands-up _ _ _ c.eval-answer.type_inv c.eval-answer.ensures _ c.operand.ensures c.in_default.is _ ∙ sym (ternary-row c.requires c.link_at.ensures refl refl c.args.left.now c.args.store.now)

pub expressions::ternary-link_at-requires-then-is_true : goal.expressions::ternary-link_at-requires-then-is_true
expressions::ternary-link_at-requires-then-is_true t c =
    link-asks c.requires.ready (ternary-links c.requires).1 (omega arith)

pub expressions::ternary-eval-requires : goal.expressions::ternary-eval-requires
expressions::ternary-eval-requires t c =
    (omega (arith, c.decreases, answered-least _ _ _ _ _ _ c.eval-answer.ensures), linked c.requires.ready (ternary-links c.requires).1 c.link_at-then-is_true.ensures c.eval-answer.auto.store)

pub expressions::ternary-returns-then-is_true : goal.expressions::ternary-returns-then-is_true
expressions::ternary-returns-then-is_true t c =
    handed-on c.eval.result _ _ c.eval.type_inv ∙ c.eval.ensures
    ∙ sym (ternary-row c.requires c.link_at.ensures c.link_at-then-is_true.ensures refl c.args.left.now c.args.store.now ∙ goes _ _ _ _ c.eval-answer.type_inv c.eval-answer.ensures _ c.operand.ensures c.in-Some.value c.in-Some.is ∙ chosen-true _ _ _ (sym (ap is_true (back c.in-Some.value c.in-Some.known_told-1-own.given.0.1)) ∙ sym c.is_true.ensures ∙ c.if-is_true.true))

pub expressions::ternary-link_at-requires-2 : goal.expressions::ternary-link_at-requires-2
expressions::ternary-link_at-requires-2 t c =
    link-asks c.requires.ready (ternary-links c.requires).2 (omega arith)

pub expressions::ternary-eval-requires-2 : goal.expressions::ternary-eval-requires-2
expressions::ternary-eval-requires-2 t c =
    (omega (arith, c.decreases, answered-least _ _ _ _ _ _ c.eval-answer.ensures), linked c.requires.ready (ternary-links c.requires).2 c.link_at-2.ensures c.eval-answer.auto.store)

pub expressions::ternary-returns : goal.expressions::ternary-returns
expressions::ternary-returns t c =
    handed-on c.eval-2.result _ _ c.eval-2.type_inv ∙ c.eval-2.ensures
    ∙ sym (ternary-row c.requires c.link_at.ensures refl c.link_at-2.ensures c.args.left.now c.args.store.now ∙ goes _ _ _ _ c.eval-answer.type_inv c.eval-answer.ensures _ c.operand.ensures c.in-Some.value c.in-Some.is ∙ chosen-false _ _ _ (sym (ap is_true (back c.in-Some.value c.in-Some.known_told-1-own.given.0.1)) ∙ sym c.is_true.ensures ∙ c.if-is_true.false))

-- A round of a loop: the test, the body, the last part.

pub loops::turn-part-test_answer-requires : goal.loops::turn-part-test_answer-requires
loops::turn-part-test_answer-requires t c =
    (omega (arith, c.decreases), c.requires.test_ready)

pub loops::turn-returns-in_default : goal.loops::turn-returns-in_default
loops::turn-returns-in_default t c =
    hands-turn _ _ _ c.part-test_answer.type_inv c.part-test_answer.ensures _ c.operand.ensures c.in_default.is _ ∙ sym (round_is (context_at c.args.rows.now c.args.bounds.now) (part_at c.args.rows.now c.args.test) (perform_at c.args.rows.now c.args.bounds.now c.args.body) (part_at c.args.rows.now c.args.last) c.args.decides c.args.left.now c.args.store.now)

pub loops::turn-returns-then-not-is_true : goal.loops::turn-returns-then-not-is_true
loops::turn-returns-then-not-is_true t c =
    turned-last _ _ ∙ sym (round_is (context_at c.args.rows.now c.args.bounds.now) (part_at c.args.rows.now c.args.test) (perform_at c.args.rows.now c.args.bounds.now c.args.body) (part_at c.args.rows.now c.args.last) c.args.decides c.args.left.now c.args.store.now ∙ goes _ _ _ _ c.part-test_answer.type_inv c.part-test_answer.ensures _ c.operand.ensures c.in-Some.value c.in-Some.is ∙ chosen-false _ _ _ (sym (ap is_true (back c.in-Some.value c.in-Some.known_told-1-own.given.0.1)) ∙ sym c.is_true.ensures ∙ c.if-not-is_true.true))

pub loops::turn-exec-requires : goal.loops::turn-exec-requires
loops::turn-exec-requires t c =
    (omega (arith, c.decreases, answered-least _ _ _ _ _ _ c.part-test_answer.ensures), table-row c.requires.body_ready c.requires.body_ready.below c.part-test_answer.auto.store)

pub loops::turn-returns-in_default-flow : goal.loops::turn-returns-in_default-flow
loops::turn-returns-in_default-flow t c =
    sym (round_is (context_at c.args.rows.now c.args.bounds.now) (part_at c.args.rows.now c.args.test) (perform_at c.args.rows.now c.args.bounds.now c.args.body) (part_at c.args.rows.now c.args.last) c.args.decides c.args.left.now c.args.store.now ∙ goes _ _ _ _ c.part-test_answer.type_inv c.part-test_answer.ensures _ c.operand.ensures c.in-Some.value c.in-Some.is ∙ chosen-true _ _ _ (sym (ap is_true (back c.in-Some.value c.in-Some.known_told-1-own.given.0.1)) ∙ sym c.is_true.ensures ∙ c.if-not-is_true.false)
    ∙ body-turns _ _ _ c.exec.type_inv c.exec.ensures c.after_body-body_answer.result c.after_body-body_answer.ensures (closing (context_at c.args.rows.now c.args.bounds.now) (part_at c.args.rows.now c.args.last) c.args.decides)
    ∙ ends-round c.after_body-body_answer.result c.exec.new.left c.exec.new.store c.after_body-body_answer.type_inv _ c.flow.ensures c.in_default-flow.not-Continue _)

pub loops::turn-part-last_answer-requires : goal.loops::turn-part-last_answer-requires
loops::turn-part-last_answer-requires t c =
    (omega (arith, c.decreases, answered-least _ _ _ _ _ _ c.part-test_answer.ensures, ran-least _ _ _ _ _ _ c.exec.ensures), table-row c.requires.last_ready c.requires.last_ready.below (c.exec.auto.store ∙ c.part-test_answer.auto.store))

pub loops::turn-returns-in_default-operand : goal.loops::turn-returns-in_default-operand
loops::turn-returns-in_default-operand t c =
    hands-turn _ _ _ c.part-last_answer.type_inv c.part-last_answer.ensures _ c.operand-2.ensures c.in_default-operand.is _ ∙ sym (round_is (context_at c.args.rows.now c.args.bounds.now) (part_at c.args.rows.now c.args.test) (perform_at c.args.rows.now c.args.bounds.now c.args.body) (part_at c.args.rows.now c.args.last) c.args.decides c.args.left.now c.args.store.now ∙ goes _ _ _ _ c.part-test_answer.type_inv c.part-test_answer.ensures _ c.operand.ensures c.in-Some.value c.in-Some.is ∙ chosen-true _ _ _ (sym (ap is_true (back c.in-Some.value c.in-Some.known_told-1-own.given.0.1)) ∙ sym c.is_true.ensures ∙ c.if-not-is_true.false)
    ∙ body-turns _ _ _ c.exec.type_inv c.exec.ensures c.after_body-body_answer.result c.after_body-body_answer.ensures (closing (context_at c.args.rows.now c.args.bounds.now) (part_at c.args.rows.now c.args.last) c.args.decides)
    ∙ goes_on c.after_body-body_answer.result c.exec.new.left c.exec.new.store c.after_body-body_answer.type_inv _ c.flow.ensures c.in-Continue.is (spend (closing (context_at c.args.rows.now c.args.bounds.now) (part_at c.args.rows.now c.args.last) c.args.decides)) ∙ closing-is (context_at c.args.rows.now c.args.bounds.now) (part_at c.args.rows.now c.args.last) c.args.decides _ _)

pub loops::turn-returns : goal.loops::turn-returns
loops::turn-returns t c =
    round-ends c.args.decides c.in-Some-operand.closing c.after_last.result c.in-Some-operand.known_told-in-Some-operand-2-1-own.given.0.1 c.after_last.type_inv c.after_last.ensures _ _
    ∙ sym (round_is (context_at c.args.rows.now c.args.bounds.now) (part_at c.args.rows.now c.args.test) (perform_at c.args.rows.now c.args.bounds.now c.args.body) (part_at c.args.rows.now c.args.last) c.args.decides c.args.left.now c.args.store.now ∙ goes _ _ _ _ c.part-test_answer.type_inv c.part-test_answer.ensures _ c.operand.ensures c.in-Some.value c.in-Some.is ∙ chosen-true _ _ _ (sym (ap is_true (back c.in-Some.value c.in-Some.known_told-1-own.given.0.1)) ∙ sym c.is_true.ensures ∙ c.if-not-is_true.false)
    ∙ body-turns _ _ _ c.exec.type_inv c.exec.ensures c.after_body-body_answer.result c.after_body-body_answer.ensures (closing (context_at c.args.rows.now c.args.bounds.now) (part_at c.args.rows.now c.args.last) c.args.decides)
    ∙ goes_on c.after_body-body_answer.result c.exec.new.left c.exec.new.store c.after_body-body_answer.type_inv _ c.flow.ensures c.in-Continue.is (spend (closing (context_at c.args.rows.now c.args.bounds.now) (part_at c.args.rows.now c.args.last) c.args.decides)) ∙ closing-is (context_at c.args.rows.now c.args.bounds.now) (part_at c.args.rows.now c.args.last) c.args.decides _ _ ∙ goes _ _ _ _ c.part-last_answer.type_inv c.part-last_answer.ensures _ c.operand-2.ensures c.in-Some-operand.closing c.in-Some-operand.is)
