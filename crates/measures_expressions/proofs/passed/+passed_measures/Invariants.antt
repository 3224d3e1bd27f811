-- The arguments from a link on: the first, and those behind it, while what the first can write is joined to the set. The measure is the rows that
-- are left.
use Rattle.words.specs.Table.{row_count}
use Rattle.write_sets_rows.proofs.ArgumentLaws.{rows_left}
use Rattle.measures_expressions.proofs.passed.+passed_measures.Given as goal

abbrev pub decreases-passed_measures : goal.decreases-passed_measures
decreases-passed_measures l =
    rows_left (row_count l.rows.now) l.link
