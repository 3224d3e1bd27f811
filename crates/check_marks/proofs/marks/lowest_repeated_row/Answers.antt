-- `lowest_repeated_row` takes the rows in, in order. The invariant: the marks passed are in their trees, and none is repeated.
use mathlib.Core.Path.{◌≡◌, refl, sym, ◌∙◌}
use mathlib.Core.Bool.{true, false}
use Prim.Native.Nat.{◌≤◌, ◌-◌}
use native.Mathlib.Omega.{arith}
use lib.ListN.{length}
use borrow.Author.Tests.{not-true, not-false}
use Rattle.words.specs.Table.{row_count}
use Rattle.words.specs.Search.{lowest_row}
use Rattle.words.specs.SearchLaws.{Looked, looked-start, looked-on, looked-hit, looked-end}
use Rattle.check_marks.specs.Marks.{repeated}
use Rattle.check_marks.specs.MarkTree.{HoldsMarks}
use Rattle.check_marks.proofs.marks.lowest_repeated_row.Goals as goal

pub loop-row-init : goal.loop-row-init
loop-row-init c =
    (refl, c.requires.2, looked-start _ _)

pub take_in-requires : goal.take_in-requires
take_in-requires c =
    let start = c.before.before.before.before.before in
    (start.requires.0, start.requires.1, c.loop-row.invariant.1, omega arith)

pub shape_of-children-then-not-take_in : goal.shape_of-children-then-not-take_in
shape_of-children-then-not-take_in c =
    c.take_in.auto.children ∙ c.loop-row.invariant.0

pub returns-then-not-take_in : goal.returns-then-not-take_in
unfolding lowest_row
returns-then-not-take_in c =
    looked-hit _ _ _ true (omega arith) c.loop-row.invariant.2 (sym (rw c.if-not-take_in.true at c.take_in.ensures)) refl

pub loop-row-preserved : goal.loop-row-preserved
loop-row-preserved c =
    let taken = rw c.if-not-take_in.false at c.take_in.ensures in
    (c.take_in.auto.children ∙ c.loop-row.invariant.0, taken.holds_marks, looked-on _ _ _ false (omega arith) c.loop-row.invariant.2 (sym taken.new) refl)

pub shape_of-children : goal.shape_of-children
shape_of-children c =
    c.loop-row.invariant.0

pub returns : goal.returns
unfolding lowest_row
returns c =
    looked-end _ _ _ (omega arith) c.loop-row.invariant.2
