-- `free_place` goes down by the bits of the row's key. The invariant: the marks that the row repeats stand below the node; the measure
-- falls because a child stands behind its node.
use mathlib.Core.Path.{sym, ap, ◌∙◌}
use Prim.Native.Nat.{◌-◌}
use native.Mathlib.Omega.{arith}
use lib.Signed.{mag}
use Rattle.words.specs.Laws.{back}
use Rattle.check_marks.specs.MarkTree.{key_at}
use Rattle.check_marks.specs.MarkTreeLaws.{Searched, searched-start, searched-equal, searched-free, searched-on, node-lower, child-nearer}
use Rattle.check_marks.proofs.mark_tree.free_place.Goals as goal

pub word_at-requires : goal.word_at-requires
word_at-requires c =
    let whole = c.requires.0.whole in omega arith

pub loop-root-init : goal.loop-root-init
unfolding key_at
loop-root-init c =
    searched-start _ _ _ _ _ c.requires.2 (c.key_of-key.ensures ∙ ap mag (back _ c.word_at.type_inv ∙ c.word_at.ensures))

pub same_mark-requires : goal.same_mark-requires
same_mark-requires c =
    let whole = c.requires.0.whole in let lower = node-lower c.requires.0 c.loop-root.invariant in (omega arith, omega arith)

pub returns-then-same_mark : goal.returns-then-same_mark
returns-then-same_mark c =
    searched-equal c.requires.0 c.loop-root.invariant c.requires.3 (sym c.same_mark.ensures ∙ c.if-same_mark.true)

pub overflow_mul-place : goal.overflow_mul-place
overflow_mul-place c =
    let few = c.requires.0.few in let lower = node-lower c.requires.0 c.loop-root.invariant in omega arith

pub overflow_add-place : goal.overflow_add-place
overflow_add-place c =
    let few = c.requires.0.few in let lower = node-lower c.requires.0 c.loop-root.invariant in omega arith

pub offset_bounds-children-place : goal.offset_bounds-children-place
offset_bounds-children-place c =
    let few = c.requires.0.few in let lower = node-lower c.requires.0 c.loop-root.invariant in omega arith

pub bounds-children-place : goal.bounds-children-place
bounds-children-place c =
    let room = c.requires.1.room in let lower = node-lower c.requires.0 c.loop-root.invariant in omega arith

pub returns-then-child-eq0 : goal.returns-then-child-eq0
returns-then-child-eq0 c =
    let tree = c.requires.0 in let searched = c.loop-root.invariant in
    let room = c.requires.1.room in let lower = node-lower tree searched in
    searched-free tree searched (sym c.same_mark.ensures ∙ c.if-same_mark.false) (sym c.wide-child.ensures ∙ c.if-child-eq0.true) (omega arith)

pub loop-root-smaller : goal.loop-root-smaller
loop-root-smaller c =
    let nearer = child-nearer c.requires.0 c.loop-root.invariant (sym c.same_mark.ensures ∙ c.if-same_mark.false) c.requires.1 _ c.wide-child.ensures c.if-child-eq0.false in
    omega arith

pub loop-root-preserved : goal.loop-root-preserved
loop-root-preserved c =
    searched-on c.requires.0 c.loop-root.invariant (sym c.same_mark.ensures ∙ c.if-same_mark.false) c.requires.1 _ c.wide-child.ensures c.if-child-eq0.false
