-- The arguments from a link on: the first, and those behind it, while what the first can write is joined to the set. The measure is the rows that
-- are left.
use native.Mathlib.Omega.{arith}
use Rattle.language_shapes.specs.ShapeLaws.{argued}
use Rattle.measures_table.specs.MeasureLaws.{link-asks, slot-asks, measured-less}
use Rattle.write_sets_rows.proofs.WriteLaws.{link_set, sets-less}
use Rattle.write_sets_rows.proofs.ArgumentLaws.{left_less}
use Rattle.measures_expressions.proofs.PassedLaws.{absent-passed, ended-passed, count-behind, behind-fits, argument-passed, read_next, taken-small}
use Prim.Native.Nat.{◌<◌}
use Rattle.measures_expressions.proofs.passed.+passed_measures.Goals as goal

pub returns-then-link-eq0 : goal.returns-then-link-eq0
returns-then-link-eq0 t c =
    absent-passed c.args.link c.if-link-eq0.true c.no_passed.ensures

pub number_at-next-requires : goal.number_at-next-requires
number_at-next-requires t c =
    let p = c.requires in let m = p.1 (omega (arith, c.if-link-eq0.false)) in omega (arith, m.0.source.sound.whole, m.1)

pub argument_at-shape-requires : goal.argument_at-shape-requires
argument_at-shape-requires t c =
    let p = c.requires in let m = p.1 (omega (arith, c.if-link-eq0.false)) in (m.0.source, m.1)

pub copied_against-copied-requires : goal.copied_against-copied-requires
copied_against-copied-requires t c =
    let p = c.requires in
    let there : 0 < c.args.link = omega (arith, c.if-link-eq0.false) in
    let f = read_next c.number_at-next.ensures (argued c.argument_at-shape.ensures c.in-Some.is) in
    let m = (p.1 there).0 in
    let q = link-asks m f.onward in
    (q.0, p.0.names, q.1, q.2, q.3)

pub taken_at-taken-requires : goal.taken_at-taken-requires
taken_at-taken-requires t c =
    let p = c.requires in
    let there : 0 < c.args.link = omega (arith, c.if-link-eq0.false) in
    let f = read_next c.number_at-next.ensures (argued c.argument_at-shape.ensures c.in-Some.is) in
    let m = (p.1 there).0 in
    link-asks m f.onward

pub set_at-requires : goal.set_at-requires
set_at-requires t c =
    let p = c.requires in
    let there : 0 < c.args.link = omega (arith, c.if-link-eq0.false) in
    let f = read_next c.number_at-next.ensures (argued c.argument_at-shape.ensures c.in-Some.is) in
    let m = (p.1 there).0 in
    λ h. omega (arith, p.0.room, f.onward.inside)

pub passed_measures-behind-requires : goal.passed_measures-behind-requires
passed_measures-behind-requires t c =
    let p = c.requires in
    let there : 0 < c.args.link = omega (arith, c.if-link-eq0.false) in
    let f = read_next c.number_at-next.ensures (argued c.argument_at-shape.ensures c.in-Some.is) in
    let m = (p.1 there).0 in
    let less = left_less _ _ (p.1 there).1 f.behind there in
    (omega (arith, less, c.decreases), (p.0, λ h. (measured-less _ m (omega (arith, (f.behind h).later)), (f.behind h).inside), omega (arith, p.2, count-behind f there)))

pub with_argument-requires : goal.with_argument-requires
with_argument-requires t c =
    let p = c.requires in
    let there : 0 < c.args.link = omega (arith, c.if-link-eq0.false) in
    let f = read_next c.number_at-next.ensures (argued c.argument_at-shape.ensures c.in-Some.is) in
    let m = (p.1 there).0 in
    (slot-asks m (λ h. f.onward), taken-small f c.taken_at-taken.ensures, c.copied_against-copied.ensures.most, behind-fits f there p.2 c.passed_measures-behind.ensures)

pub returns-in-Some : goal.returns-in-Some
returns-in-Some t c =
    let p = c.requires in
    let there : 0 < c.args.link = omega (arith, c.if-link-eq0.false) in
    let f = read_next c.number_at-next.ensures (argued c.argument_at-shape.ensures c.in-Some.is) in
    let m = (p.1 there).0 in
    argument-passed f there (link-asks m f.onward).3 c.taken_at-taken.ensures (taken-small f c.taken_at-taken.ensures) c.copied_against-copied.ensures (link_set (sets-less _ p.0 (omega arith)) f.onward c.set_at.ensures) c.join-written.ensures c.passed_measures-behind.ensures c.with_argument.ensures

pub returns-in-None : goal.returns-in-None
returns-in-None t c =
    let there : 0 < c.args.link = omega (arith, c.if-link-eq0.false) in ended-passed _ there (argued c.argument_at-shape.ensures c.in-None.is) c.no_passed-in-None.ensures
