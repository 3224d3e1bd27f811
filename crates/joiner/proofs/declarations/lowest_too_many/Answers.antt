-- `lowest_too_many` looks at the rows in order.
use Rattle.std.proofs.Common.{refl, arith, add-one}
use Rattle.words.specs.Declarations.{declarations_before}
use Rattle.words.specs.StoreLaws.{before-few}
use Rattle.words.specs.Search.{lowest_row}
use Rattle.words.specs.SearchLaws.{looked-start, looked-on, looked-hit, looked-end}
use Rattle.joiner.proofs.declarations.lowest_too_many.Goals as goal

pub loop-row-init : goal.loop-row-init
unfolding declarations_before
loop-row-init c = (looked-start _ _, refl)

pub returns-then-is_too_many : goal.returns-then-is_too_many
unfolding lowest_row
returns-then-is_too_many c = looked-hit _ _ _ _ (omega arith) c.loop-row.invariant.0 c.is_too_many.ensures c.if-is_too_many.true

pub counted-before-requires : goal.counted-before-requires
counted-before-requires c =
    let loop = c.loop-row in (omega arith, omega (arith, loop.invariant.1, before-few c.args.rows.now loop.row))

pub loop-row-preserved : goal.loop-row-preserved
unfolding declarations_before
loop-row-preserved c =
    let loop = c.loop-row in (
      looked-on _ _ _ _ (omega arith) loop.invariant.0 c.is_too_many.ensures c.if-is_too_many.false,
      rw (add-one, ← loop.invariant.1) c.counted-before.ensures,
    )

pub returns : goal.returns
unfolding lowest_row
returns c = looked-end _ _ _ (omega arith) c.loop-row.invariant.0
