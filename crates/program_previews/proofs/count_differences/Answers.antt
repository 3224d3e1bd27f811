-- `count_differences` passes one place after the other; what is counted so far are the differences among those passed.
use mathlib.Core.Path.{◌≡◌, refl, ap₂, ◌∙◌}
use mathlib.Core.List.{List}
use Prim.Native.Nat.{ℕ, ◌+◌, ◌^◌, ◌<◌}
use native.Mathlib.Omega.{arith}
use borrow.Author.Rules.{rules}
use lib.IntN.{ℤ, pos}
use lib.ListN.{get_or}
use lib.Signed.{mag}
use mir.Syntax.{w32}
use mir.Val.{to_z, of_z}
use Rattle.words.specs.Laws.{back}
use Rattle.program_previews.specs.Previews.{difference, differences}
use Rattle.program_previews.proofs.PreviewLaws.{differences-next, differences-most}
use Rattle.program_previews.proofs.count_differences.Goals as goal
use Rattle.program_previews.proofs.count_differences.Goals.{After-differs-tally}

-- one place more, its words as the code reads them
counted : (i : ℕ) (before after : List ℤ) (tally more : ℕ) → tally ≡ differences i before after → mag (get_or before i (pos 0)) < 2 ^ 31 → mag (get_or after i (pos 0)) < 2 ^ 31
    → more ≡ difference (to_z w32 (of_z w32 (get_or before i (pos 0)))) (to_z w32 (of_z w32 (get_or after i (pos 0)))) → tally + more ≡ differences (i + 1) before after
counted i before after tally more t f g m =
    let one : more ≡ difference (get_or before i (pos 0)) (get_or after i (pos 0)) = m ∙ ap₂ difference (back (get_or before i (pos 0)) f) (back (get_or after i (pos 0)) g) in
    omega (arith, t, one, differences-next i before after)

pub loop-i-init : goal.loop-i-init
unfolding differences
loop-i-init c = refl

next : (c : After-differs-tally) → c.loop-i.tally + c.differs-tally.result ≡ differences (c.loop-i.i + 1) c.args.store.now c.args.copy.now
next c = counted _ _ _ _ _ c.loop-i.invariant c.differs-arg-1.given c.differs-arg-in-loop-i-1.given c.differs-tally.ensures

pub overflow_add-tally : goal.overflow_add-tally
overflow_add-tally c = omega (arith, next c, differences-most (c.loop-i.i + 1) c.args.store.now c.args.copy.now)

pub loop-i-preserved : goal.loop-i-preserved
loop-i-preserved c = next c

pub returns : goal.returns
returns c =
    let e : c.loop-i.i ≡ c.args.size = omega arith in
    rw e at c.loop-i.invariant
