-- `do_lines` walks the lines; the invariant is `Done`.
use mathlib.Core.Path.{◌∙◌}
use native.Mathlib.Omega.{arith}
use borrow.Author.Rules.{rules}
use Prim.Native.Nat.{◌-◌}
use lib.ListN.{length}
use Rattle.day_form.proofs.Tests.{lent-numbers}
use Rattle.day_run.proofs.Doing.{runnable-on, Done, done-start, done_end, done_next}
use Rattle.day_run.proofs.lines.do_lines.Goals as goal

pub loop-at-init : goal.loop-at-init
loop-at-init c =
    done-start _ _ _ _

pub next_line-next-requires : goal.next_line-next-requires
next_line-next-requires c =
    record { at_in_bounds = c.loop-at-test.true; most_numbers_in_bounds = omega arith }

pub slice_bounds-do_line-end : goal.slice_bounds-do_line-end
slice_bounds-do_line-end c =
    omega (arith, c.next_line-next.ensures.read.few)

pub do_line-done-requires : goal.do_line-done-requires
do_line-done-requires c =
    let kept = c.loop-at.invariant.kept in
    record { runnable = runnable-on c.requires.runnable kept; store_len_bound = omega (arith, kept, c.requires.store_len_bound) }

pub overflow_add-plain : goal.overflow_add-plain
overflow_add-plain c =
    omega (arith, c.loop-at.invariant.fewer, c.loop-at.invariant.inside, c.do_line-done.ensures.one, c.loop-at-test.true)

pub overflow_sub-other : goal.overflow_sub-other
overflow_sub-other c =
    c.do_line-done.ensures.one

pub overflow_add-other : goal.overflow_add-other
overflow_add-other c =
    omega (arith, c.loop-at.invariant.fewer, c.loop-at.invariant.inside, c.do_line-done.ensures.one, c.loop-at-test.true)

pub loop-at-smaller : goal.loop-at-smaller
loop-at-smaller c =
    omega (arith, c.next_line-next.ensures.further, c.loop-at-test.true)

pub loop-at-preserved : goal.loop-at-preserved
loop-at-preserved c =
    done_next c.loop-at.invariant c.next_line-next.ensures _ (lent-numbers c.next_line-next.ensures.read) _ _ c.do_line-done.ensures c.do_line-done.auto.store

pub shape_of-store : goal.shape_of-store
shape_of-store c =
    c.loop-at.invariant.kept

pub returns : goal.returns
returns c =
    done_end c.loop-at.invariant c.loop-at-test.false
