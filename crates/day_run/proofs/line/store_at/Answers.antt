-- `store_at`: a place outside the store changes nothing.
use mathlib.Core.Path.{sym}
use native.Mathlib.Omega.{arith}
use lib.Seq.{set_out}
use borrow.Author.Rules.{rules}
use Rattle.day_run.proofs.line.store_at.Goals as goal

pub returns-then-at-store : goal.returns-then-at-store
returns-then-at-store c =
    sym (set_out _ _ _ c.if-at-store.true)
