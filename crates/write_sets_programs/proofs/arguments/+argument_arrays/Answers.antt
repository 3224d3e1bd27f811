-- The arrays of arguments, from those of the first and of the arguments behind it. The measure is the rows that are left.
use native.Mathlib.Omega.{arith}
use Rattle.language_shapes.specs.ShapeLaws.{argued}
use Rattle.write_sets_functions.proofs.WalkLaws.{read_next}
use Rattle.write_sets_functions.proofs.DefinitionLaws.{next_inside, next-later, next-falls}
use Rattle.write_sets_programs.proofs.ArrayLaws.{from_less, none_passed, ended-passed, argument-passed}
use Prim.Native.Nat.{◌<◌}
use Rattle.write_sets_programs.proofs.arguments.+argument_arrays.Goals as goal

pub returns-then-link-eq0 : goal.returns-then-link-eq0
returns-then-link-eq0 t c = none_passed c.args.rows.now c.args.link c.if-link-eq0.true

pub number_at-next-requires : goal.number_at-next-requires
number_at-next-requires t c =
    let p = c.requires in
    let there : 0 < c.args.link = omega (arith, c.if-link-eq0.false) in
    let m = p there in
    omega (arith, m.0.source.sound.whole, m.1)

pub argument_at-shape-requires : goal.argument_at-shape-requires
argument_at-shape-requires t c =
    let p = c.requires in
    let there : 0 < c.args.link = omega (arith, c.if-link-eq0.false) in
    let m = p there in
    (m.0.source, m.1)

pub linked-requires : goal.linked-requires
linked-requires t c =
    let p = c.requires in
    let there : 0 < c.args.link = omega (arith, c.if-link-eq0.false) in
    let m = p there in
    let f = argued c.argument_at-shape.ensures c.in-Some.is in
    λ h. omega (arith, m.0.room, f.onward.inside)

pub argument_arrays-requires : goal.argument_arrays-requires
argument_arrays-requires t c =
    let p = c.requires in
    let there : 0 < c.args.link = omega (arith, c.if-link-eq0.false) in
    let m = p there in
    let e = c.number_at-next.ensures in
    let less = next-falls m.0.source m.1 there e in
    (omega (arith, less, c.decreases), λ h. (from_less _ m.0 (let l = next-later m.0.source m.1 _ e h in omega (arith, l)), next_inside m.0.source m.1 _ e))

pub returns-in-Some : goal.returns-in-Some
returns-in-Some t c =
    let p = c.requires in
    let there : 0 < c.args.link = omega (arith, c.if-link-eq0.false) in
    let m = p there in
    let f = argued c.argument_at-shape.ensures c.in-Some.is in
    argument-passed c.args.link m.0 there (read_next c.number_at-next.ensures f) c.linked.ensures c.argument_arrays.ensures c.join_arrays.ensures

pub returns-in-None : goal.returns-in-None
returns-in-None t c =
    let p = c.requires in
    let there : 0 < c.args.link = omega (arith, c.if-link-eq0.false) in
    let m = p there in
    ended-passed c.args.rows.now c.args.link there (argued c.argument_at-shape.ensures c.in-None.is)
