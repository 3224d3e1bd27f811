-- `find_mark` walks the items. The invariant: the row is in the table, and the search from it on is the whole search. The measure
-- is the rows ahead.
use mathlib.Core.Path.{sym, ◌∙◌}
use Rattle.words.specs.Table.{row_count}
use Rattle.machine_flows.proofs.Items.{ahead-falls, at_row, next-asks, next_is, sought-first, sought-next, finds-here, finds-none}
use Rattle.machine_flows.proofs.lists.find_mark.Goals as goal

pub loop-at-init : goal.loop-at-init
loop-at-init c = sought-first c.requires

pub is_mark-requires : goal.is_mark-requires
is_mark-requires c = at_row c.requires c.loop-at.invariant.below

pub link_at-at-requires : goal.link_at-at-requires
link_at-at-requires c =
    next-asks (at_row c.requires c.loop-at.invariant.below)

pub loop-at-smaller : goal.loop-at-smaller
loop-at-smaller c =
    let past-loop = c.loop-at in
    ahead-falls (row_count c.args.rows.now) past-loop.at c.link_at-at.result c.loop-at-test.true past-loop.invariant.below (next_is (at_row c.requires past-loop.invariant.below) c.link_at-at.ensures).1

pub loop-at-preserved : goal.loop-at-preserved
loop-at-preserved c =
    let past-loop = c.loop-at in
    sought-next past-loop.invariant (at_row c.requires past-loop.invariant.below) c.loop-at-test.true (sym c.is_mark.ensures ∙ c.if-not-is_mark.true) c.link_at-at.ensures

pub returns-after-loop-at : goal.returns-after-loop-at
returns-after-loop-at c = finds-none c.loop-at.invariant c.loop-at-test.false

pub returns-else-not-is_mark : goal.returns-else-not-is_mark
returns-else-not-is_mark c =
    let past-loop = c.loop-at in
    finds-here past-loop.invariant (at_row c.requires past-loop.invariant.below) c.loop-at-test.true (sym c.is_mark.ensures ∙ c.if-not-is_mark.false)
