-- `first_line` walks the lines; the invariant is `Tried`.
use mathlib.Core.Path.{sym, ◌∙◌}
use native.Mathlib.Omega.{arith}
use borrow.Author.Rules.{rules}
use Prim.Native.Nat.{◌-◌}
use lib.ListN.{length}
use Rattle.day_form.proofs.Tests.{Tried, tried-start, tried-end, tried_here, tried-next, lent-numbers}
use Rattle.day_form.proofs.lines.first_line.Goals as goal

pub loop-at-init : goal.loop-at-init
loop-at-init c =
    tried-start _ _ _

pub next_line-next-requires : goal.next_line-next-requires
next_line-next-requires c = record { at_in_bounds = c.loop-at-test.true; most_numbers_in_bounds = omega arith }

pub slice_bounds-turns_away-end : goal.slice_bounds-turns_away-end
slice_bounds-turns_away-end c =
    omega (arith, c.next_line-next.ensures.read.few)

pub returns-then-turns_away : goal.returns-then-turns_away
returns-then-turns_away c =
    tried_here c.loop-at.invariant c.next_line-next.ensures _ (lent-numbers c.next_line-next.ensures.read) (sym c.turns_away.ensures ∙ c.if-turns_away.true)

pub overflow_add-number : goal.overflow_add-number
overflow_add-number c =
    omega (arith, c.loop-at.invariant.fewer, c.loop-at.invariant.inside, c.requires)

pub loop-at-smaller : goal.loop-at-smaller
loop-at-smaller c =
    omega (arith, c.next_line-next.ensures.further, c.loop-at-test.true)

pub loop-at-preserved : goal.loop-at-preserved
loop-at-preserved c =
    tried-next c.loop-at.invariant c.next_line-next.ensures _ (lent-numbers c.next_line-next.ensures.read) (sym c.turns_away.ensures ∙ c.if-turns_away.false)

pub returns : goal.returns
returns c =
    tried-end c.loop-at.invariant c.loop-at-test.false
