-- The sets of a statement, of a list and of arms, from those of their links. The measure is twice the rows that are left, and one more for a list.
use Prim.Native.Nat.{◌+◌, ◌*◌, ◌≤◌, ◌<◌}
use Rattle.words.specs.Table.{row_count}
use Rattle.write_sets_rows.proofs.ArgumentLaws.{rows_left}
use Rattle.write_sets_functions.specs.Walks.{lower_called}
use Rattle.write_sets_functions.proofs.WalkLaws.{Joined, items_from, arms_from}
use Rattle.write_sets_functions.proofs.statements.+walk_statements.Given as goal

abbrev pub decreases-walk_arms : goal.decreases-walk_arms
decreases-walk_arms l =
    2 * rows_left (row_count l.rows.now) l.first + 1

abbrev pub decreases-walk_list : goal.decreases-walk_list
decreases-walk_list l =
    2 * rows_left (row_count l.rows.now) l.first + 1

abbrev pub decreases-walk_statement : goal.decreases-walk_statement
decreases-walk_statement l =
    2 * rows_left (row_count l.rows.now) l.link

abbrev pub invariant-walk_arms-loop-row : goal.invariant-walk_arms-loop-row
invariant-walk_arms-loop-row l =
    Joined l.store l.any (arms_from l.rows (lower_called l.rows l.known) l.row) (arms_from l.rows (lower_called l.rows l.known) l.first) × (l.row < row_count l.rows) × (rows_left (row_count l.rows) l.row ≤ rows_left (row_count l.rows) l.first)

abbrev pub decreases-walk_arms-loop-row : goal.decreases-walk_arms-loop-row
decreases-walk_arms-loop-row l =
    rows_left (row_count l.rows) l.row

abbrev pub invariant-walk_list-loop-row : goal.invariant-walk_list-loop-row
invariant-walk_list-loop-row l =
    Joined l.store l.any (items_from l.rows (lower_called l.rows l.known) l.row) (items_from l.rows (lower_called l.rows l.known) l.first) × (l.row < row_count l.rows) × (rows_left (row_count l.rows) l.row ≤ rows_left (row_count l.rows) l.first)

abbrev pub decreases-walk_list-loop-row : goal.decreases-walk_list-loop-row
decreases-walk_list-loop-row l =
    rows_left (row_count l.rows) l.row
