-- Words copied one by one: what is written so far is a part of them.
use mathlib.Core.Path.{◌≡◌, refl, ◌∙◌}
use Prim.Native.Nat.{◌≤◌, ◌-◌}
use native.Mathlib.Omega.{arith}
use borrow.Author.Rules.{rules}
use lib.ListN.{length}
use lib.Seq.{paste, paste-zero}
use Rattle.words_copying.proofs.Copies.{put-kept, put_back, put-all}
use Rattle.words_copying.proofs.put.Goals as goal

pub loop-i-init : goal.loop-i-init
loop-i-init c = (search rules, refl, paste-zero _ 0 c.args.words.now)

pub bounds-out-i : goal.bounds-out-i
bounds-out-i c = omega (arith, put-kept _ c.args.words.now _ c.loop-i.i (omega arith) c.requires c.loop-i.invariant.2)

pub loop-i-preserved : goal.loop-i-preserved
loop-i-preserved c = (omega arith, refl, put_back _ c.args.words.now _ c.loop-i.i (omega arith) c.requires c.loop-i.invariant.2 (record { sfits = c.out-1.given }))

pub shape_of-out : goal.shape_of-out
shape_of-out c = put-kept _ c.args.words.now _ c.loop-i.i (omega arith) c.requires c.loop-i.invariant.2

pub returns : goal.returns
returns c =
    let e : c.loop-i.i ≡ length c.args.words.now = omega arith in
    rw e at c.loop-i.invariant.2 ∙ put-all _ _
