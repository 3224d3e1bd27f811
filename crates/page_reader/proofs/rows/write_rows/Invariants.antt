-- `write_rows`: from the last line to the first; the invariant is `Passing`.
use mathlib.Core.Path.{◌≡◌}
use Prim.Native.Nat.{◌-◌}
use native.Mathlib.Omega.{arith}
use lib.ListN.{length}
use borrow.Author.Rules.{rules}
use Rattle.page_reader.proofs.Passing.{Passing, slice-long, passing-start, passing-room, passing-end, line-inside, shallow, passing-skip, rows-left, line-fits, row_low, row_inside, line-room, passing-next}
use Rattle.page_reader.proofs.rows.write_rows.Given as goal

abbrev pub invariant-loop-k : goal.invariant-loop-k
invariant-loop-k l =
    Passing l.names l.sizes l.page l.total l.initial.rows l.rows l.waiting l.depth l.follows l.base l.k × (length l.waiting ≡ 81958)

abbrev pub decreases-loop-k : goal.decreases-loop-k
decreases-loop-k l =
    l.k
