-- `write_counts` goes over the rows in order. The invariant: the counts of the rows passed are written, and the next one is known.
use Rattle.names_resolver.specs.ScanLaws.{Counting}
use Rattle.names_resolver.proofs.counts.write_counts.Given as goal

abbrev pub invariant-loop-row : goal.invariant-loop-row
invariant-loop-row l = Counting l.rows l.row l.counts l.count
