-- `store_pairs` walks the pairs; the invariant is `Stored`.
use mathlib.Core.Path.{◌≡◌}
use native.Mathlib.Omega.{arith}
use borrow.Author.Rules.{rules}
use Prim.Native.Nat.{ℕ, ◌+◌, ◌*◌}
use Rattle.words.specs.Laws.{back}
use Rattle.words.proofs.Signed.{natural-again}
use Rattle.day_run.proofs.Pairs.{stored-start, stored-end, stored_next}
use Rattle.day_run.proofs.line.store_pairs.Goals as goal

pub loop-i-init : goal.loop-i-init
loop-i-init c =
    stored-start _ _

pub loop-i-preserved : goal.loop-i-preserved
loop-i-preserved c =
    let next : 2 * (c.loop-i.i + 1) ≡ 2 * c.loop-i.i + 2 = omega arith in
    rw next (stored_next c.loop-i.invariant (omega arith) _ _ _ (natural-again _ _ c.natural-arg-1.given c.natural.ensures) (back _ c.store_at-arg-1.given) c.store_at.ensures)

pub shape_of-store : goal.shape_of-store
shape_of-store c =
    c.loop-i.invariant.kept

pub returns : goal.returns
returns c =
    stored-end c.loop-i.invariant (omega arith)
