-- An item of one row: its next field is the row behind it, or 0.
use Prim.Native.Nat.{◌+◌}
use Rattle.writers_rows.proofs.Words.{worded, pick-most}
use borrow.Author.Rules.{rules}
use Rattle.writers_rows.proofs.control.put_item.Goals as goal

pub put_row-requires : goal.put_row-requires
put_row-requires c = let low = pick-most c.args.follows (c.args.base + 1) in search rules

pub returns : goal.returns
returns c = worded _ _ _ _ c.put_row.ensures (let next = c.behind.ensures in rw next)
