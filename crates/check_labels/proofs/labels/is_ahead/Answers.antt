-- `is_ahead` climbs from owner to owner. The invariant: the answer for the goto is the answer for `row`.
use mathlib.Core.Path.{◌≡◌, refl, sym, ◌∙◌}
use Prim.Native.Nat.{◌<◌}
use native.Mathlib.Omega.{arith}
use Rattle.words.specs.Table.{row_count}
use Rattle.check_structure.specs.NoteLaws.{above_zero}
use Rattle.check_labels.specs.Labels.{label_ahead}
use Rattle.check_labels.proofs.LabelLaws.{around-below, ahead_step, ahead-end}
use Rattle.check_labels.proofs.labels.is_ahead.Goals as goal

pub loop-row-init : goal.loop-row-init
loop-row-init c = (c.requires.2, refl)

pub is_behind-requires : goal.is_behind-requires
is_behind-requires c = (c.requires.0.tree, omega arith, c.requires.0.first_rows, c.requires.1)

pub returns-then-is_behind : goal.returns-then-is_behind
returns-then-is_behind c =
    let row = c.loop-row.row in
    sym (c.loop-row.invariant.1 ∙ ahead_step _ c.requires.0.tree _ c.requires.0.lone row (above_zero row c.loop-row-test.true) c.loop-row.invariant.0
    ∙ rw (← c.is_behind.ensures, c.if-is_behind.true))

pub around-row-requires : goal.around-row-requires
around-row-requires c =
    let start = c.before.before.before.before.before.before.before in
    (start.requires.0.tree, start.requires.0.lone, start.requires.0.owner_rows, c.loop-row.invariant.0)

pub loop-row-smaller : goal.loop-row-smaller
loop-row-smaller c =
    let start = c.before.before.before.before.before.before.before.before in
    let below = around-below _ start.requires.0.tree start.args.number start.requires.0.lone c.loop-row.row (above_zero _ c.loop-row-test.true) c.loop-row.invariant.0 in
    let e = c.around-row.ensures in
    omega arith

pub loop-row-preserved : goal.loop-row-preserved
loop-row-preserved c =
    let start = c.before.before.before.before.before.before.before.before in
    let row = c.loop-row.row in
    let inside = c.loop-row.invariant.0 in
    let some = above_zero row c.loop-row-test.true in
    let below = around-below _ start.requires.0.tree start.args.number start.requires.0.lone row some inside in
    let e = c.around-row.ensures in (
      omega arith,
      c.loop-row.invariant.1 ∙ ahead_step _ start.requires.0.tree _ start.requires.0.lone row some inside
          ∙ rw (← c.is_behind.ensures, c.if-is_behind.false, ← e),
    )

pub returns : goal.returns
returns c = sym (c.loop-row.invariant.1 ∙ rw c.loop-row-test.false (ahead-end _ c.requires.0.tree _ c.requires.0.lone))
