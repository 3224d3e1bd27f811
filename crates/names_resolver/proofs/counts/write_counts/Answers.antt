-- `write_counts` writes the count of one row after the other.
use Rattle.std.proofs.Common.{arith}
use Rattle.words.specs.StoreLaws.{before-few}
use Rattle.names_resolver.specs.ScanLaws.{counting-begun, counting-on, counting-ended}
use Rattle.names_resolver.proofs.counts.write_counts.Goals as goal

pub loop-row-init : goal.loop-row-init
loop-row-init c = counting-begun _ _

pub narrow-requires : goal.narrow-requires
narrow-requires c =
    let few = c.requires.1 in
    omega (arith, few, c.loop-row.invariant.next, before-few c.args.rows.now c.loop-row.row)

pub counted-count-requires : goal.counted-count-requires
counted-count-requires c =
    (omega arith, omega (arith, c.loop-row.invariant.next, before-few c.args.rows.now c.loop-row.row))

pub loop-row-preserved : goal.loop-row-preserved
loop-row-preserved c =
    let room = c.requires.0 in rw c.narrow.ensures (counting-on c.loop-row.invariant (omega arith) c.counted-count.ensures)

pub returns : goal.returns
returns c =
    let room = c.requires.0 in counting-ended c.loop-row.invariant (omega arith) (omega arith)
