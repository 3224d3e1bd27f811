-- The sets of an expression and of arguments, from those of their links. The measure is the rows that are left.
use native.Mathlib.Omega.{arith}
use Rattle.language_shapes.specs.ShapeLaws.{argued}
use Rattle.write_sets_rows.proofs.ArgumentLaws.{left_less}
use Rattle.write_sets_rows.proofs.ReachLaws.{reach-set}
use Rattle.write_sets_functions.specs.Walks.{lower_called}
use Rattle.write_sets_functions.proofs.WalkLaws.{link-inside, walk-reach, none-walked, some-walked, none_passed, ended-passed, argument-passed, read_next}
use Rattle.write_sets_functions.proofs.DefinitionLaws.{next_inside, next-falls}
use Prim.Native.Nat.{◌<◌}
use Rattle.write_sets_functions.proofs.expressions.+walk_expressions.Goals as goal

pub walk_arguments-returns-then-link-eq0 : goal.walk_arguments-returns-then-link-eq0
walk_arguments-returns-then-link-eq0 t c = none_passed c.args.rows.now (lower_called c.args.rows.now c.args.known) c.args.link c.if-link-eq0.true c.nothing.ensures

pub walk_arguments-number_at-next-requires : goal.walk_arguments-number_at-next-requires
walk_arguments-number_at-next-requires t c = omega (arith, c.requires.0.source.sound.whole, c.requires.1)

pub walk_arguments-argument_at-shape-requires : goal.walk_arguments-argument_at-shape-requires
walk_arguments-argument_at-shape-requires t c = (c.requires.0.source, c.requires.1)

pub walk_arguments-walk_expression-first-requires : goal.walk_arguments-walk_expression-first-requires
walk_arguments-walk_expression-first-requires t c =
    let p = c.requires in
    let there : 0 < c.args.link = omega (arith, c.if-link-eq0.false) in
    let f = argued c.argument_at-shape.ensures c.in-Some.is in
    let less = left_less c.args.link _ p.1 (λ h. f.onward) there in
    (omega (arith, less, c.decreases), (p.0, f.onward.inside))

pub walk_arguments-walk_arguments-requires : goal.walk_arguments-walk_arguments-requires
walk_arguments-walk_arguments-requires t c =
    let p = c.requires in
    let there : 0 < c.args.link = omega (arith, c.if-link-eq0.false) in
    let less = next-falls p.0.source p.1 there c.number_at-next.ensures in
    (omega (arith, less, c.decreases), (p.0, next_inside p.0.source p.1 _ c.number_at-next.ensures))

pub walk_arguments-returns-in-Some : goal.walk_arguments-returns-in-Some
walk_arguments-returns-in-Some t c =
    let p = c.requires in
    let there : 0 < c.args.link = omega (arith, c.if-link-eq0.false) in
    let f = argued c.argument_at-shape.ensures c.in-Some.is in
    argument-passed c.args.rows.now (lower_called c.args.rows.now c.args.known) c.args.link there (read_next c.number_at-next.ensures f) c.walk_expression-first.ensures c.walk_arguments.ensures c.join.ensures

pub walk_arguments-returns-in-None : goal.walk_arguments-returns-in-None
walk_arguments-returns-in-None t c =
    let p = c.requires in
    let there : 0 < c.args.link = omega (arith, c.if-link-eq0.false) in
    ended-passed c.args.rows.now (lower_called c.args.rows.now c.args.known) c.args.link there (argued c.argument_at-shape.ensures c.in-None.is) c.nothing-in-None.ensures

pub walk_expression-returns-then-link-eq0 : goal.walk_expression-returns-then-link-eq0
walk_expression-returns-then-link-eq0 t c = none-walked c.args.rows.now (lower_called c.args.rows.now c.args.known) c.args.link c.if-link-eq0.true c.nothing.ensures

pub walk_expression-reach_at-reach-requires : goal.walk_expression-reach_at-reach-requires
walk_expression-reach_at-reach-requires t c = let p = c.requires in (p.0.source, p.0.names, p.1, p.0.room)

pub walk_expression-walk_arguments-passed-requires : goal.walk_expression-walk_arguments-passed-requires
walk_expression-walk_arguments-passed-requires t c =
    let p = c.requires in
    let there : 0 < c.args.link = omega (arith, c.if-link-eq0.false) in
    let reach = walk-reach p.0 c.reach_at-reach.ensures in
    let less = left_less c.args.link _ p.1 reach.arguments there in
    (omega (arith, less, c.decreases), (p.0, link-inside _ p.0.source reach.arguments))

pub walk_expression-walk_expression-third-requires : goal.walk_expression-walk_expression-third-requires
walk_expression-walk_expression-third-requires t c =
    let p = c.requires in
    let there : 0 < c.args.link = omega (arith, c.if-link-eq0.false) in
    let reach = walk-reach p.0 c.reach_at-reach.ensures in
    let less = left_less c.args.link _ p.1 reach.third there in
    (omega (arith, less, c.decreases), (p.0, link-inside _ p.0.source reach.third))

pub walk_expression-walk_expression-second-requires : goal.walk_expression-walk_expression-second-requires
walk_expression-walk_expression-second-requires t c =
    let p = c.requires in
    let there : 0 < c.args.link = omega (arith, c.if-link-eq0.false) in
    let reach = walk-reach p.0 c.reach_at-reach.ensures in
    let less = left_less c.args.link _ p.1 reach.second there in
    (omega (arith, less, c.decreases), (p.0, link-inside _ p.0.source reach.second))

pub walk_expression-walk_expression-first-requires : goal.walk_expression-walk_expression-first-requires
walk_expression-walk_expression-first-requires t c =
    let p = c.requires in
    let there : 0 < c.args.link = omega (arith, c.if-link-eq0.false) in
    let reach = walk-reach p.0 c.reach_at-reach.ensures in
    let less = left_less c.args.link _ p.1 reach.first there in
    (omega (arith, less, c.decreases), (p.0, link-inside _ p.0.source reach.first))

pub walk_expression-returns : goal.walk_expression-returns
walk_expression-returns t c =
    let p = c.requires in
    let there : 0 < c.args.link = omega (arith, c.if-link-eq0.false) in
    let reach = walk-reach p.0 c.reach_at-reach.ensures in
    some-walked c.args.rows.now (lower_called c.args.rows.now c.args.known) c.args.link there (reach-set reach c.walk_expression-first.ensures c.walk_expression-second.ensures c.walk_expression-third.ensures c.walk_arguments-passed.ensures c.join.ensures c.join-2.ensures c.join-3.ensures c.join-4.ensures)
