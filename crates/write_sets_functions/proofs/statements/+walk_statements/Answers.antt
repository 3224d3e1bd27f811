-- The sets of a statement, of a list and of arms, from those of their links. The measure is twice the rows that are left, and one more for a list.
use Prim.Native.Nat.{◌<◌}
use native.Mathlib.Omega.{arith}
use Rattle.write_sets_rows.proofs.ArgumentLaws.{left_less}
use Rattle.write_sets_functions.specs.Walks.{lower_called}
use Rattle.write_sets_functions.proofs.WalkLaws.{link-inside, none-stepped, step_set, joined-none, items-next, items-all, arms_next, arms-all, item-left, item_inside}
use Rattle.write_sets_functions.proofs.DefinitionLaws.{next_inside, next-falls}
use Rattle.write_sets_functions.proofs.statements.+walk_statements.Goals as goal

pub walk_arms-loop-row-init : goal.walk_arms-loop-row-init
walk_arms-loop-row-init t c = (joined-none _ c.nothing-any.ensures, c.requires.1, omega arith)

pub walk_arms-arm_links-links-requires : goal.walk_arms-arm_links-links-requires
walk_arms-arm_links-links-requires t c = (c.requires.0.source, c.loop-row.invariant.1)

pub walk_arms-walk_expression-guard-requires : goal.walk_arms-walk_expression-guard-requires
walk_arms-walk_expression-guard-requires t c = (c.requires.0, link-inside _ c.requires.0.source c.arm_links-links.ensures.guard)

pub walk_arms-walk_statement-body-requires : goal.walk_arms-walk_statement-body-requires
walk_arms-walk_statement-body-requires t c =
    let p = c.requires in
    let less = left_less c.loop-row.row _ c.loop-row.invariant.1 c.arm_links-links.ensures.body c.loop-row-test.true in
    (omega (arith, less, c.loop-row.invariant.2, c.decreases), (p.0, link-inside _ p.0.source c.arm_links-links.ensures.body))

pub walk_arms-loop-row-smaller : goal.walk_arms-loop-row-smaller
walk_arms-loop-row-smaller t c = left_less c.loop-row.row _ c.loop-row.invariant.1 c.arm_links-links.ensures.next c.loop-row-test.true

pub walk_arms-loop-row-preserved : goal.walk_arms-loop-row-preserved
walk_arms-loop-row-preserved t c =
    let s = c.requires.0.source in
    let less = left_less c.loop-row.row _ c.loop-row.invariant.1 c.arm_links-links.ensures.next c.loop-row-test.true in
    (arms_next c.args.rows.now (lower_called c.args.rows.now c.args.known) c.loop-row-test.true c.loop-row.invariant.0 c.arm_links-links.ensures c.walk_expression-guard.ensures c.walk_statement-body.ensures c.join.ensures c.join-any.ensures, link-inside _ s c.arm_links-links.ensures.next, omega (arith, less, c.loop-row.invariant.2))

pub walk_arms-returns : goal.walk_arms-returns
walk_arms-returns t c = arms-all c.args.rows.now (lower_called c.args.rows.now c.args.known) c.loop-row.row c.loop-row.invariant.0 (omega (arith, c.loop-row-test.false))

pub walk_list-loop-row-init : goal.walk_list-loop-row-init
walk_list-loop-row-init t c = (joined-none _ c.nothing-any.ensures, c.requires.1, omega arith)

pub walk_list-item_statement-own-requires : goal.walk_list-item_statement-own-requires
walk_list-item_statement-own-requires t c = (c.requires.0.source, c.loop-row.invariant.1, c.loop-row-test.true)

pub walk_list-walk_statement-requires : goal.walk_list-walk_statement-requires
walk_list-walk_statement-requires t c =
    let p = c.requires in
    let left = item-left _ c.item_statement-own.ensures in
    (omega (arith, left, c.loop-row.invariant.2, c.decreases), (p.0, item_inside _ c.item_statement-own.ensures c.loop-row.invariant.1))

pub walk_list-number_at-row-requires : goal.walk_list-number_at-row-requires
walk_list-number_at-row-requires t c = omega (arith, c.requires.0.source.sound.whole, c.loop-row.invariant.1)

pub walk_list-loop-row-smaller : goal.walk_list-loop-row-smaller
walk_list-loop-row-smaller t c = next-falls c.requires.0.source c.loop-row.invariant.1 c.loop-row-test.true c.number_at-row.ensures

pub walk_list-loop-row-preserved : goal.walk_list-loop-row-preserved
walk_list-loop-row-preserved t c =
    let s = c.requires.0.source in
    let falls = next-falls s c.loop-row.invariant.1 c.loop-row-test.true c.number_at-row.ensures in
    (items-next c.args.rows.now (lower_called c.args.rows.now c.args.known) c.loop-row-test.true c.loop-row.invariant.0 c.item_statement-own.ensures c.walk_statement.ensures c.join-any.ensures c.number_at-row.ensures, next_inside s c.loop-row.invariant.1 _ c.number_at-row.ensures, omega (arith, falls, c.loop-row.invariant.2))

pub walk_list-returns : goal.walk_list-returns
walk_list-returns t c = items-all c.args.rows.now (lower_called c.args.rows.now c.args.known) c.loop-row.row c.loop-row.invariant.0 (omega (arith, c.loop-row-test.false))

pub walk_statement-returns-then-link-eq0 : goal.walk_statement-returns-then-link-eq0
walk_statement-returns-then-link-eq0 t c = none-stepped c.args.rows.now (lower_called c.args.rows.now c.args.known) c.args.link c.if-link-eq0.true c.nothing.ensures

pub walk_statement-step_at-step-requires : goal.walk_statement-step_at-step-requires
walk_statement-step_at-step-requires t c = let p = c.requires in (p.0.source, p.0.names, p.1)

pub walk_statement-walk_expression-first-requires : goal.walk_statement-walk_expression-first-requires
walk_statement-walk_expression-first-requires t c =
    let p = c.requires in
    let there : 0 < c.args.link = omega (arith, c.if-link-eq0.false) in
    let step = c.step_at-step.ensures (lower_called c.args.rows.now c.args.known) in
    (p.0, link-inside _ p.0.source step.first)

pub walk_statement-walk_expression-second-requires : goal.walk_statement-walk_expression-second-requires
walk_statement-walk_expression-second-requires t c =
    let p = c.requires in
    let there : 0 < c.args.link = omega (arith, c.if-link-eq0.false) in
    let step = c.step_at-step.ensures (lower_called c.args.rows.now c.args.known) in
    (p.0, link-inside _ p.0.source step.second)

pub walk_statement-walk_expression-third-requires : goal.walk_statement-walk_expression-third-requires
walk_statement-walk_expression-third-requires t c =
    let p = c.requires in
    let there : 0 < c.args.link = omega (arith, c.if-link-eq0.false) in
    let step = c.step_at-step.ensures (lower_called c.args.rows.now c.args.known) in
    (p.0, link-inside _ p.0.source step.third)

pub walk_statement-walk_statement-body-requires : goal.walk_statement-walk_statement-body-requires
walk_statement-walk_statement-body-requires t c =
    let p = c.requires in
    let there : 0 < c.args.link = omega (arith, c.if-link-eq0.false) in
    let step = c.step_at-step.ensures (lower_called c.args.rows.now c.args.known) in
    let less = left_less c.args.link _ p.1 step.body there in
    (omega (arith, less, c.decreases), (p.0, link-inside _ p.0.source step.body))

pub walk_statement-walk_statement-other-requires : goal.walk_statement-walk_statement-other-requires
walk_statement-walk_statement-other-requires t c =
    let p = c.requires in
    let there : 0 < c.args.link = omega (arith, c.if-link-eq0.false) in
    let step = c.step_at-step.ensures (lower_called c.args.rows.now c.args.known) in
    let less = left_less c.args.link _ p.1 step.other there in
    (omega (arith, less, c.decreases), (p.0, link-inside _ p.0.source step.other))

pub walk_statement-walk_list-list-requires : goal.walk_statement-walk_list-list-requires
walk_statement-walk_list-list-requires t c =
    let p = c.requires in
    let there : 0 < c.args.link = omega (arith, c.if-link-eq0.false) in
    let step = c.step_at-step.ensures (lower_called c.args.rows.now c.args.known) in
    let less = left_less c.args.link _ p.1 step.list there in
    (omega (arith, less, c.decreases), (p.0, link-inside _ p.0.source step.list))

pub walk_statement-walk_arms-arms-requires : goal.walk_statement-walk_arms-arms-requires
walk_statement-walk_arms-arms-requires t c =
    let p = c.requires in
    let there : 0 < c.args.link = omega (arith, c.if-link-eq0.false) in
    let step = c.step_at-step.ensures (lower_called c.args.rows.now c.args.known) in
    let less = left_less c.args.link _ p.1 step.arms there in
    (omega (arith, less, c.decreases), (p.0, link-inside _ p.0.source step.arms))

pub walk_statement-returns : goal.walk_statement-returns
walk_statement-returns t c =
    let p = c.requires in
    let there : 0 < c.args.link = omega (arith, c.if-link-eq0.false) in
    let step = c.step_at-step.ensures (lower_called c.args.rows.now c.args.known) in
    step_set c.args.rows.now (lower_called c.args.rows.now c.args.known) c.args.link there step c.walk_expression-first.ensures c.walk_expression-second.ensures c.walk_expression-third.ensures c.walk_statement-body.ensures c.walk_statement-other.ensures c.walk_list-list.ensures c.walk_arms-arms.ensures
    c.join.ensures c.join-2.ensures c.join-parts.ensures c.join-3.ensures c.join-4.ensures c.join-5.ensures c.join-6.ensures
