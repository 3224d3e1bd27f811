-- `store_pairs` walks the pairs; the invariant is `Stored`.
use Prim.Native.Nat.{◌*◌}
use Rattle.day_run.proofs.Pairs.{Stored}
use Rattle.day_run.proofs.line.store_pairs.Given as goal

abbrev pub invariant-loop-i : goal.invariant-loop-i
invariant-loop-i l =
    Stored l.pairs (2 * l.i) l.initial.store l.store
