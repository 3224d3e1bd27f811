-- The label of a list's default, from its place in the table; where it has none, the other label.
use mathlib.Core.Path.{sym}
use native.Mathlib.Omega.{arith}
use Rattle.language.specs.Decode.{list_at}
use Rattle.writers.proofs.Tables.{default-at, word-asks, default-of-list}
use Rattle.writers.proofs.lists.default_label.Goals as goal

pub measure_at-place-requires : goal.measure_at-place-requires
measure_at-place-requires c =
    word-asks _ _ c.requires.0 _ 10 c.requires.1.inside (omega arith)

pub returns-then-place-eq0 : goal.returns-then-place-eq0
returns-then-place-eq0 c =
    let place = default-of-list _ _ c.requires.0 c.args.list c.requires.1.inside (omega (arith, c.requires.1.labels_low)) in
    sym ((default-at (list_at c.args.source.now.rows.now c.args.list) c.args.label c.args.other).absent (omega (arith, place, c.measure_at-place.ensures.is)))

pub returns : goal.returns
returns c =
    let past-measure-at = c.measure_at-place in
    let place = default-of-list _ _ c.requires.0 c.args.list c.requires.1.inside (omega (arith, c.requires.1.labels_low)) in
    let at = default-at (list_at c.args.source.now.rows.now c.args.list) c.args.label c.args.other in
    omega (arith, at.present (omega (arith, place, past-measure-at.ensures.is)), place, past-measure-at.ensures.is)
