-- The arrays of arguments, from those of the first and of the arguments behind it. The measure is the rows that are left.
use Rattle.words.specs.Table.{row_count}
use Rattle.write_sets_rows.proofs.ArgumentLaws.{rows_left}
use Rattle.write_sets_programs.proofs.arguments.+argument_arrays.Given as goal

abbrev pub decreases-argument_arrays : goal.decreases-argument_arrays
decreases-argument_arrays l =
    rows_left (row_count l.rows.now) l.link
