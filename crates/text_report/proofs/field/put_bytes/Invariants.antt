-- `put_bytes` copies byte by byte; the invariant is `Copied`.
use mathlib.Core.Path.{◌≡◌}
use Prim.Native.Nat.{◌-◌}
use lib.ListN.{length}
use Rattle.text_report.proofs.Copying.{Copied}
use Rattle.text_report.proofs.field.put_bytes.Given as goal

abbrev pub invariant-loop-i : goal.invariant-loop-i
invariant-loop-i l = (l.i-end ≡ length l.bytes) × Copied l.bytes l.i l.initial.text l.text

abbrev pub decreases-loop-i : goal.decreases-loop-i
decreases-loop-i l = l.i-end - l.i
