-- `write_roots` goes over the rows in order. The invariant: the roots of the rows passed are written.
use mathlib.Core.Path.{◌≡◌, refl}
use Prim.Native.Nat.{◌≤◌, ◌<◌, ◌-◌}
use native.Mathlib.Omega.{arith}
use lib.ListN.{length, length-set}
use Rattle.words.specs.Table.{row_count}
use Rattle.check_items.proofs.EarlierLaws.{earlier-inside}
use Rattle.check_marks.specs.MarkTree.{Roots}
use Rattle.check_marks.specs.MarkTreeLaws.{roots-start, roots-next}
use Rattle.check_marks.proofs.mark_tree.write_roots.Goals as goal

pub loop-row-init : goal.loop-row-init
loop-row-init c =
    (omega arith, refl, roots-start _ c.requires.0 _ c.requires.2)

pub root_of-root-requires : goal.root_of-root-requires
root_of-root-requires c =
    let tree = c.requires.0 in
    let notes = c.requires.1 in
    let few = tree.few in let room = notes.room in let wide_enough = c.loop-row.invariant.2.room in
    let inside = earlier-inside _ tree _ c.loop-row.row _ (omega arith) (notes.is c.loop-row.row (omega arith)) in
    (omega arith, omega arith, omega arith)

pub offset_bounds-roots-row : goal.offset_bounds-roots-row
offset_bounds-roots-row c =
    let few = c.requires.0.few in omega arith

pub bounds-roots-row : goal.bounds-roots-row
bounds-roots-row c =
    let room = c.loop-row.invariant.2.room in omega arith

pub loop-row-preserved : goal.loop-row-preserved
loop-row-preserved c =
    let tree = c.requires.0 in
    let inside : c.loop-row.row < row_count c.args.rows.now = omega arith in
    let root = c.root_of-root.ensures in
    let note = c.requires.1.is _ inside in (
      omega arith,
      simp length-set c.loop-row.invariant.1,
      roots-next _ tree _ _ c.loop-row.invariant.2 inside _ (rw note at root),
    )

pub shape_of-roots : goal.shape_of-roots
shape_of-roots c = c.loop-row.invariant.1

pub returns : goal.returns
returns c =
    let all : c.loop-row.row ≡ row_count c.args.rows.now = omega arith in rw (← all) c.loop-row.invariant.2
