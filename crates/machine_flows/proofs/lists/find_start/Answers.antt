-- `find_start` looks for the case, and where there is none for the default.
use Rattle.words.specs.Laws.{back}
use Rattle.machine_flows.proofs.Items.{starts-case, starts-default}
use Rattle.machine_flows.proofs.lists.find_start.Goals as goal

pub returns-then-at-ne0 : goal.returns-then-at-ne0
returns-then-at-ne0 c =
    starts-case (rw (back c.args.value c.ranges.value.sfits) at c.find_mark-at.ensures) c.if-at-ne0.true

pub returns : goal.returns
returns c =
    starts-default (rw (back c.args.value c.ranges.value.sfits) at c.find_mark-at.ensures) c.if-at-ne0.false c.find_mark.ensures
