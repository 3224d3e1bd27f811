-- `take_in` leaves the children at a row that is no mark, or the first of its list, and writes the free place that it finds else.
use mathlib.Core.Path.{sym, ◌∙◌}
use native.Mathlib.Omega.{arith}
use Rattle.check_structure.specs.Lists.{before-later}
use Rattle.check_marks.specs.MarkTreeLaws.{root_before, taken-other, taken-root, taken_free}
use borrow.Author.Tests.{not-true, not-false}
use borrow.Author.Rules.{rules}
use Rattle.check_marks.proofs.mark_tree.take_in.Goals as goal

pub returns-then-not-between : goal.returns-then-not-between
returns-then-not-between c =
    let start = c.before.before.before.before.before in
    taken-other _ start.requires.0 _ start.requires.1 _ start.requires.3 _ start.requires.2 (rw (← c.number_at.ensures, ← c.between.ensures) c.if-not-between.true)

pub returns-then-root-row : goal.returns-then-root-row
returns-then-root-row c =
    let start = c.before.before.before.before.before.before.before.before in
    taken-root _ start.requires.0 _ start.requires.1 _ start.requires.3 _ start.requires.2 (sym c.wide-root.ensures ∙ c.if-root-row.true)

pub free_place-place-requires : goal.free_place-place-requires
free_place-place-requires c =
    let start = c.before.before.before.before.before.before.before.before.before in
    let is = c.wide-root.ensures in
    let mark = c.if-not-between.false in (
      start.requires.0,
      start.requires.2.nodes,
      root_before _ (rw (← is) at (start.requires.1.begins _ start.requires.3)) c.if-root-row.false,
      rw (← c.number_at.ensures, ← c.between.ensures) mark,
      start.requires.3,
    )

pub offset_bounds-children-at : goal.offset_bounds-children-at
offset_bounds-children-at c =
    let start = c.before.before.before.before.before.before.before.before.before.before.before.before in
    let free = rw c.in-Some.is at c.free_place-place.ensures in
    let lower = before-later free.behind in
    let few = start.requires.0.few in let inside = start.requires.3 in
    omega arith

pub bounds-children-at : goal.bounds-children-at
bounds-children-at c =
    let start = c.before.before.before.before.before.before.before.before.before.before.before.before in
    let free = rw c.in-Some.is at c.free_place-place.ensures in
    let lower = before-later free.behind in
    let room = start.requires.2.nodes.room in let inside = start.requires.3 in
    omega arith

pub returns-in-Some : goal.returns-in-Some
returns-in-Some c =
    let start = c.before.before.before.before.before.before.before.before.before.before.before.before in
    let free = rw c.in-Some.is at c.free_place-place.ensures in
    rw c.narrow.ensures
    (taken_free _ start.requires.0 _ start.requires.1 _ start.requires.3 _ start.requires.2 _ (rw (← c.number_at.ensures, ← c.between.ensures) c.if-not-between.false)
    (rw c.wide-root.ensures at free))

pub returns-in-None : goal.returns-in-None
returns-in-None c =
    rw c.in-None.is at c.free_place-place.ensures
