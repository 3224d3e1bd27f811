-- The number of arguments, from those behind one.
use mathlib.Core.Path.{ap}
use native.Mathlib.Omega.{arith}
use Rattle.language.specs.Decode.{argument_list_at}
use Rattle.language_shapes.specs.ShapeLaws.{argued}
use Rattle.writers_calls.specs.Ranks.{rank, rank_falls, rank_most}
use Rattle.writers_calls.specs.ArgumentLaws.{passing, passes_none, link-inside, count_none, count-more}
use Prim.Native.Nat.{◌<◌}
use Rattle.writers_calls.proofs.arguments.+argument_count.Goals as goal

pub returns-then-argument-eq0 : goal.returns-then-argument-eq0
returns-then-argument-eq0 t c =
    let args = c.args in
    count_none args.rows.now args.argument (ap (argument_list_at args.rows.now) c.if-argument-eq0.true)

pub argument_count-requires : goal.argument_count-requires
argument_count-requires t c =
    let args = c.args in
    let rows = args.rows.now in
    let some : 0 < args.argument = omega (arith, c.if-argument-eq0.false) in
    let at = passing args.argument some (argued c.argument_at-shape.ensures c.in-Some.is) in
    let inside = c.requires.1 in
    let next = c.number_at-next.ensures in (
      omega (arith, c.decreases, next, ap (rank rows) next, rank_falls rows args.argument _ some inside (λ h. (at.behind h).later)),
      (c.requires.0, omega (arith, next, link-inside _ inside at.behind)),
    )

pub overflow_add-result : goal.overflow_add-result
overflow_add-result t c =
    omega (arith, c.argument_count.ensures.low, rank_most c.args.rows.now c.number_at-next.result, c.requires.0.few_rows)

pub returns-in-Some : goal.returns-in-Some
returns-in-Some t c =
    let args = c.args in
    let some : 0 < args.argument = omega (arith, c.if-argument-eq0.false) in
    let at = passing args.argument some (argued c.argument_at-shape.ensures c.in-Some.is) in
    count-more args.rows.now args.argument at c.requires.1 c.number_at-next.ensures c.argument_count.ensures

pub returns-in-None : goal.returns-in-None
returns-in-None t c =
    let args = c.args in
    count_none args.rows.now args.argument (passes_none args.argument (argued c.argument_at-shape.ensures c.in-None.is))
