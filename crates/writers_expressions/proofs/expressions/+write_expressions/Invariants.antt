-- The writers of expressions meet their contracts: what stands in the table is the emission of the code of the tree at the row. Each need
-- is a law of the parts that are written so far.
use Prim.Native.Nat.{◌+◌, ◌*◌, ◌-◌, max}
use Rattle.writers_calls.specs.Ranks.{rank}
use Rattle.words.specs.Table.{row_count}
use Rattle.writers_expressions.proofs.expressions.+write_expressions.Given as goal

abbrev pub decreases-write_arguments : goal.decreases-write_arguments
decreases-write_arguments l =
    let rows = l.source.now.rows.now in
    let argument = l.argument in
    4 * rank rows argument + 1

abbrev pub decreases-write_branch : goal.decreases-write_branch
decreases-write_branch l =
    let rows = l.source.now.rows.now in
    let branch = l.branch in
    4 * rank rows branch.row + 1

abbrev pub decreases-write_call : goal.decreases-write_call
decreases-write_call l =
    let rows = l.source.now.rows.now in
    let row = l.row in
    4 * (row_count rows - row) - 1

abbrev pub decreases-write_choice : goal.decreases-write_choice
decreases-write_choice l =
    let rows = l.source.now.rows.now in
    let on_true = l.yes in
    let on_false = l.no in
    4 * max (rank rows on_true.row) (rank rows on_false.row) + 2

abbrev pub decreases-write_expression : goal.decreases-write_expression
decreases-write_expression l =
    let rows = l.source.now.rows.now in
    let row = l.row in
    4 * rank rows row

abbrev pub decreases-write_last : goal.decreases-write_last
decreases-write_last l =
    let rows = l.source.now.rows.now in
    let row = l.row in
    4 * (row_count rows - row) - 1
