-- `scan`: line by line; the invariant is `Scanning`.
use mathlib.Core.Path.{◌≡◌, sym, ap, ◌∙◌}
use Prim.Native.Nat.{◌-◌}
use native.Mathlib.Omega.{arith}
use lib.ListN.{length}
use borrow.Author.Rules.{rules}
use Rattle.page_scan.proofs.Scanning.{Scanning, slice-long, scanning-start, scanning-end, wrong-line, wrong-block, scanning-next}
use Rattle.page_scan.proofs.scan.Given as goal

abbrev pub invariant-loop-k : goal.invariant-loop-k
invariant-loop-k l =
    Scanning l.names l.page l.count l.around l.among l.depth l.rows l.k × (length l.around ≡ 81958)

abbrev pub decreases-loop-k : goal.decreases-loop-k
decreases-loop-k l =
    l.count - l.k
