-- The rows that head an assignment: one row behind the other.
use Prim.Native.Nat.{◌+◌}
use mathlib.Core.Path.{refl}
use Rattle.writers_rows.specs.Chain.{put_next, reworded}
use Rattle.writers_rows.proofs.Words.{pick-most, rows-put}
use borrow.Author.Rules.{rules}
use Rattle.writers_rows.proofs.assignments.put_target.Goals as goal

pub put_row-requires : goal.put_row-requires
put_row-requires c = let low = pick-most c.args.follows (c.args.base + c.args.size) in search rules

pub returns : goal.returns
returns c =
    let statement-row = rows-put 1 _ _ _ c.put_row.ensures refl in
    let assignment-row = rows-put 1 _ _ _ c.put_row-2.ensures refl in
    let place-row = rows-put 1 _ _ _ c.put_row-3.ensures refl in
    let next = c.behind.ensures in
    reworded _ (put_next (put_next statement-row assignment-row) place-row) (rw next)
