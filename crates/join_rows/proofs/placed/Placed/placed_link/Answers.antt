-- `placed_link`: next, or a part.
use Rattle.join_rows.proofs.placed.Placed.placed_link.Goals as goal

pub returns-then-field-eq5 : goal.returns-then-field-eq5
returns-then-field-eq5 c =
    rw c.if-field-eq5.true c.next_link.ensures
