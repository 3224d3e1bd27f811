-- The measures of the members, and the invariants of the loops. The measure is six times the unspent budget, and a little more for a
-- function that calls before a step is made.
use mathlib.Core.Path.{◌≡◌}
use Prim.Native.Nat.{◌+◌, ◌*◌, ◌<◌, ◌≤◌}
use lib.ListN.{length}
use Rattle.computation.specs.Remaining.{spend}
use Rattle.machine_operations.specs.Rows.{context_at}
use Rattle.words.specs.Table.{row_count}
use Rattle.machine_flows.proofs.Items.{ahead}
use Rattle.machine_executor.proofs.Choices.{Trying, guarded_rest}
use Rattle.machine_flows.specs.Lists.{continued}
use Rattle.machine_executor.specs.Rows.{items_from, rounds_at}
use Rattle.machine_executor.proofs.+run.Given as goal

abbrev pub decreases-expressions::assign : goal.decreases-expressions::assign
decreases-expressions::assign l = 6 * l.left.now + 1

abbrev pub decreases-expressions::binary : goal.decreases-expressions::binary
decreases-expressions::binary l = 6 * l.left.now + 1

abbrev pub decreases-expressions::comma : goal.decreases-expressions::comma
decreases-expressions::comma l = 6 * l.left.now + 1

abbrev pub decreases-expressions::compound : goal.decreases-expressions::compound
decreases-expressions::compound l = 6 * l.left.now + 1

abbrev pub decreases-expressions::compute : goal.decreases-expressions::compute
decreases-expressions::compute l = 6 * l.left.now + 5

abbrev pub decreases-expressions::eval : goal.decreases-expressions::eval
decreases-expressions::eval l = 6 * l.left.now + 0

abbrev pub decreases-expressions::increment : goal.decreases-expressions::increment
decreases-expressions::increment l = 6 * l.left.now + 1

abbrev pub decreases-expressions::locate : goal.decreases-expressions::locate
decreases-expressions::locate l = 6 * l.left.now + 1

abbrev pub decreases-expressions::logical : goal.decreases-expressions::logical
decreases-expressions::logical l = 6 * l.left.now + 1

abbrev pub decreases-expressions::place : goal.decreases-expressions::place
decreases-expressions::place l = 6 * l.left.now + 0

abbrev pub decreases-expressions::ternary : goal.decreases-expressions::ternary
decreases-expressions::ternary l = 6 * l.left.now + 1

abbrev pub decreases-statements::perform : goal.decreases-statements::perform
decreases-statements::perform l = 6 * l.left.now + 4

abbrev pub decreases-statements::entry : goal.decreases-statements::entry
decreases-statements::entry l = 6 * l.left.now + 5

abbrev pub decreases-loops::turn : goal.decreases-loops::turn
decreases-loops::turn l = 6 * l.left.now + 2

abbrev pub decreases-statements::branch : goal.decreases-statements::branch
decreases-statements::branch l = 6 * l.left.now + 1

abbrev pub decreases-statements::item : goal.decreases-statements::item
decreases-statements::item l = 6 * l.left.now + 0

abbrev pub decreases-statements::list : goal.decreases-statements::list
decreases-statements::list l = 6 * l.left.now + 1

abbrev pub decreases-loops::rounds : goal.decreases-loops::rounds
decreases-loops::rounds l = 6 * l.left.now + 3

abbrev pub decreases-statements::exec : goal.decreases-statements::exec
decreases-statements::exec l = 6 * l.left.now + 0

abbrev pub decreases-statements::switch : goal.decreases-statements::switch
decreases-statements::switch l = 6 * l.left.now + 2

abbrev pub decreases-loops::guarded : goal.decreases-loops::guarded
decreases-loops::guarded l = 6 * l.left.now + 2

abbrev pub decreases-calls::bind : goal.decreases-calls::bind
decreases-calls::bind l = 6 * l.left.now + 3

abbrev pub decreases-calls::call : goal.decreases-calls::call
decreases-calls::call l = 6 * l.left.now + 4

abbrev pub decreases-loops::choose : goal.decreases-loops::choose
decreases-loops::choose l = 6 * l.left.now + 0

abbrev pub decreases-statements::express : goal.decreases-statements::express
decreases-statements::express l = 6 * l.left.now + 0

abbrev pub decreases-loops::part : goal.decreases-loops::part
decreases-loops::part l = 6 * l.left.now + 1

abbrev pub invariant-statements::list-loop-at : goal.invariant-statements::list-loop-at
invariant-statements::list-loop-at l =
    (l.at < row_count l.rows) × (length l.store ≡ length l.initial.store) × (l.left ≤ l.initial.left)
    × (spend (items_from l.rows l.bounds l.first) l.initial.left l.initial.store ≡ continued (context_at l.rows l.bounds) l.rows l.at l.answer l.left l.store)

abbrev pub decreases-statements::list-loop-at : goal.decreases-statements::list-loop-at
decreases-statements::list-loop-at l = ahead (row_count l.rows) l.at

abbrev pub invariant-loops::rounds-loop : goal.invariant-loops::rounds-loop
invariant-loops::rounds-loop l =
    (length l.store ≡ length l.initial.store) × (l.left ≤ l.initial.left)
    × (spend (rounds_at l.rows l.bounds l.test l.body l.last l.decides) l.initial.left l.initial.store ≡ spend (rounds_at l.rows l.bounds l.test l.body l.last l.decides) l.left l.store)

abbrev pub decreases-loops::rounds-loop : goal.decreases-loops::rounds-loop
decreases-loops::rounds-loop l = l.left

abbrev pub invariant-loops::guarded-loop-block : goal.invariant-loops::guarded-loop-block
invariant-loops::guarded-loop-block l =
    (length l.store ≡ length l.initial.store) × (l.left ≤ l.initial.left) × (guarded_rest l.repeats l.rows l.bounds l.first l.initial.left l.initial.store ≡ guarded_rest l.repeats l.rows l.bounds l.first l.left l.store)

abbrev pub decreases-loops::guarded-loop-block : goal.decreases-loops::guarded-loop-block
decreases-loops::guarded-loop-block l = l.left

abbrev pub invariant-loops::choose-loop-at : goal.invariant-loops::choose-loop-at
invariant-loops::choose-loop-at l = Trying l.rows l.bounds (length l.initial.store) l.first l.initial.left l.initial.store l.at l.left l.store

abbrev pub decreases-loops::choose-loop-at : goal.decreases-loops::choose-loop-at
decreases-loops::choose-loop-at l = ahead (row_count l.rows) l.at
