-- The walk for depth. Its measure is the rows above the current number; the list's loop and the fields' loop carry what the rows passed give.
use mathlib.Core.Path.{◌≡◌, sym, ap, ◌∙◌}
use Prim.Native.Nat.{◌+◌, ◌*◌, ◌-◌, ◌/◌, ◌≤◌, ℕ, ◌<◌}
use native.Mathlib.Omega.{arith}
use lib.ListN.{length}
use Rattle.words.specs.Table.{row_count}
use Rattle.check_structure.specs.Links.{depth_at}
use Rattle.check_structure.specs.DepthLaws.{depth-owned, depth-beside}
use Rattle.check_structure.specs.Passes.{Through, LowestDeep}
use Rattle.check_structure.proofs.Walk.{over, through-start, through-none, through-more, Along, along-start, along-to, along-end, follows}
use Rattle.check_structure.proofs.depth.+lowest_depth.Goals as goal
use Rattle.check_structure.proofs.depth.+lowest_depth.Goals.{lowest_deep_parts-then-part-ne0, lowest_deep_parts-else-part-ne0}

pub lowest_deep-returns-then-limit-depth : goal.lowest_deep-returns-then-limit-depth
lowest_deep-returns-then-limit-depth t c =
    over _ _ _ _ c.requires.2 c.requires.4 c.if-limit-depth.true

pub lowest_deep-loop-limit-init : goal.lowest_deep-loop-limit-init
lowest_deep-loop-limit-init t c =
    (omega arith, c.requires.2, c.requires.4, along-start _ _ _)

pub lowest_deep-lowest_deep_parts-requires : goal.lowest_deep-lowest_deep_parts-requires
lowest_deep-lowest_deep_parts-requires t c =
    (omega arith, (c.requires.0, c.requires.1, c.loop-limit.invariant.1, omega arith, c.loop-limit.invariant.2))

pub lowest_deep-link-next-requires : goal.lowest_deep-link-next-requires
lowest_deep-link-next-requires t c =
    let whole = c.requires.0.whole in (omega arith, omega arith)

pub lowest_deep-returns-then-next-eq0 : goal.lowest_deep-returns-then-next-eq0
lowest_deep-returns-then-next-eq0 t c =
    along-end _ _ _ _ _ _ _ (omega arith) c.loop-limit.invariant.3 c.lowest_deep_parts.ensures c.lower-found.ensures (sym c.link-next.ensures ∙ c.if-next-eq0.true)

pub lowest_deep-loop-limit-smaller : goal.lowest_deep-loop-limit-smaller
lowest_deep-loop-limit-smaller t c =
    let next = follows _ c.requires.0 _ _ _ c.loop-limit.invariant.1 (omega arith) c.link-next.ensures c.if-next-eq0.false in
    omega arith

pub lowest_deep-loop-limit-preserved : goal.lowest_deep-loop-limit-preserved
lowest_deep-loop-limit-preserved t c =
    let next = follows _ c.requires.0 _ _ _ c.loop-limit.invariant.1 (omega arith) c.link-next.ensures c.if-next-eq0.false in (
      omega arith,
      next.inside,
      ap (depth_at _) next.is ∙ depth-beside _ c.requires.0 _ next.leads ∙ c.loop-limit.invariant.2,
      along-to _ _ _ _ _ _ _ _ (omega arith) c.loop-limit.invariant.3 c.lowest_deep_parts.ensures c.lower-found.ensures next.is,
    )

pub lowest_deep_parts-loop-field-init : goal.lowest_deep_parts-loop-field-init
lowest_deep_parts-loop-field-init t c =
    through-start _ _ _

pub lowest_deep_parts-link-part-requires : goal.lowest_deep_parts-link-part-requires
lowest_deep_parts-link-part-requires t c =
    let whole = c.requires.0.whole in (omega arith, omega arith)

pub lowest_deep_parts-lowest_deep-requires : goal.lowest_deep_parts-lowest_deep-requires
lowest_deep_parts-lowest_deep-requires t c =
    let tree = c.requires.0 in
    let part = follows _ tree _ _ _ c.requires.2 (let f : c.loop-field.field < 6 = omega arith in f) c.link-part.ensures c.if-part-ne0.true in
    let depth : depth_at _ c.link-part.result ≡ c.args.depth + 1 = ap (depth_at _) part.is ∙ depth-owned _ tree _ _ (omega arith) part.leads ∙ ap (λ (x : ℕ). x + 1) c.requires.4 in
    (omega arith, (tree, c.requires.1, part.inside, omega arith, depth))

pub lowest_deep_parts-loop-field-preserved : goal.lowest_deep_parts-loop-field-preserved
lowest_deep_parts-loop-field-preserved t c =
    elim c.if-part-ne0.branch [
      | lowest_deep_parts-then-part-ne0 w ↦ through-more _ _ _ _ _ _ _ _ c.loop-field.invariant c.link-part.ensures w.lowest_deep.ensures (w.found-is ∙ w.lower-found.ensures)
      | lowest_deep_parts-else-part-ne0 w ↦ rw w.found-is (through-none _ _ _ _ _ c.loop-field.invariant (sym c.link-part.ensures ∙ w.if-part-ne0.false))
    ]

pub lowest_deep_parts-returns : goal.lowest_deep_parts-returns
lowest_deep_parts-returns t c =
    let end : c.loop-field.field ≡ 5 = omega arith in rw end at c.loop-field.invariant
