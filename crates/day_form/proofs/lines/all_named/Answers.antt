-- `all_named` walks the pairs; the invariant is `Named`.
use mathlib.Core.Path.{◌≡◌}
use native.Mathlib.Omega.{arith}
use borrow.Author.Rules.{rules}
use Prim.Native.Nat.{ℕ, ◌+◌, ◌*◌}
use lib.IntN.{pos}
use lib.ListN.{length, get_or}
use Rattle.words.specs.Word.{natural}
use Rattle.words.proofs.Signed.{natural-again}
use Rattle.day_form.proofs.Tests.{Named, named_start, named_end, named-not, named-next}
use Rattle.day_form.proofs.lines.all_named.Goals as goal

pub loop-i-init : goal.loop-i-init
loop-i-init c =
    named_start _ _

pub returns-then-natural-variables : goal.returns-then-natural-variables
returns-then-natural-variables c =
    let n : c.natural.result ≡ natural (get_or c.args.numbers.now (2 * c.loop-i.i) (pos 0)) = natural-again _ _ c.natural-arg-1.given c.natural.ensures in
    named-not c.loop-i.invariant (omega arith) (omega (arith, c.if-natural-variables.true))

pub loop-i-preserved : goal.loop-i-preserved
loop-i-preserved c =
    let n : c.natural.result ≡ natural (get_or c.args.numbers.now (2 * c.loop-i.i) (pos 0)) = natural-again _ _ c.natural-arg-1.given c.natural.ensures in
    let next : 2 * (c.loop-i.i + 1) ≡ 2 * c.loop-i.i + 2 = omega arith in
    rw next (named-next c.loop-i.invariant (omega arith) (omega (arith, c.if-natural-variables.false)))

pub returns : goal.returns
returns c =
    named_end c.loop-i.invariant (omega arith)
