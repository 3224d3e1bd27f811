-- The sets of an expression and of arguments, from those of their links. The measure is the rows that are left.
use Rattle.words.specs.Table.{row_count}
use Rattle.write_sets_rows.proofs.ArgumentLaws.{rows_left}
use Rattle.write_sets_functions.proofs.expressions.+walk_expressions.Given as goal

abbrev pub decreases-walk_arguments : goal.decreases-walk_arguments
decreases-walk_arguments l =
    rows_left (row_count l.rows.now) l.link

abbrev pub decreases-walk_expression : goal.decreases-walk_expression
decreases-walk_expression l =
    rows_left (row_count l.rows.now) l.link
