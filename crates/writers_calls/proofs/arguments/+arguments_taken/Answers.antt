-- The temporaries of the arguments, from those behind one and its own.
use mathlib.Core.Path.{◌≡◌, ap}
use native.Mathlib.Omega.{arith}
use Rattle.language.specs.Decode.{expression_at, argument_list_at}
use Rattle.language.specs.Trees.{no_more}
use Rattle.translation.specs.Translate.{atom_of}
use Rattle.translation.specs.Holding.{held_by}
use Rattle.translation.proofs.TranslateBounds.{taken_most}
use Rattle.language_shapes.specs.ShapeLaws.{argued}
use Rattle.measures_table.specs.Parts.{called_in}
use Rattle.writers_calls.specs.Ranks.{rank, rank_falls, rank_most}
use Rattle.writers_calls.specs.ArgumentLaws.{passing, passes_none, link-inside, taken_none, taken_more}
use Prim.Native.Nat.{◌%◌, ◌<◌}
use Rattle.writers_calls.proofs.arguments.+arguments_taken.Goals as goal

pub returns-then-argument-eq0 : goal.returns-then-argument-eq0
returns-then-argument-eq0 t c =
    let args = c.args in
    let absent : argument_list_at args.source.now.rows.now args.argument ≡ no_more = ap (argument_list_at args.source.now.rows.now) c.if-argument-eq0.true in
    taken_none args.source.now.rows.now args.argument args.copies absent

pub arguments_taken-behind-requires : goal.arguments_taken-behind-requires
arguments_taken-behind-requires t c =
    let args = c.args in
    let rows = args.source.now.rows.now in
    let some : 0 < args.argument = omega (arith, c.if-argument-eq0.false) in
    let at = passing args.argument some (argued c.argument_at-shape.ensures c.in-Some.is) in
    let inside = c.requires.1 in
    let next = c.number_at-next.ensures in (
      omega (arith, c.decreases, next, ap (rank rows) next, rank_falls rows args.argument _ some inside (λ h. (at.behind h).later)),
      (c.requires.0, omega (arith, next, link-inside _ inside at.behind)),
    )

pub held_taken-requires : goal.held_taken-requires
held_taken-requires t c =
    let at = argued c.argument_at-shape.ensures c.in-Some.is in
    (c.requires.0, at.onward.inside)

pub overflow_add-result : goal.overflow_add-result
overflow_add-result t c =
    let args = c.args in
    let rows = args.source.now.rows.now in
    let behind = c.arguments_taken-behind.ensures.low in
    let held = held_by (args.copies % 2) (atom_of (called_in rows) (expression_at rows c.in-Some.e)) in
    omega (arith, behind, rank_most rows c.number_at-next.result, c.requires.0.source.few_rows, c.held_taken.ensures, taken_most held)

pub returns-in-Some : goal.returns-in-Some
returns-in-Some t c =
    let args = c.args in
    let some : 0 < args.argument = omega (arith, c.if-argument-eq0.false) in
    let at = passing args.argument some (argued c.argument_at-shape.ensures c.in-Some.is) in
    taken_more args.source.now.rows.now args.argument args.copies at c.requires.1 c.number_at-next.ensures c.arguments_taken-behind.ensures c.held_taken.ensures

pub returns-in-None : goal.returns-in-None
returns-in-None t c =
    let args = c.args in
    taken_none args.source.now.rows.now args.argument args.copies (passes_none args.argument (argued c.argument_at-shape.ensures c.in-None.is))
