-- `first_line` walks the lines; the invariant is `Tried`.
use mathlib.Core.Path.{sym, ◌∙◌}
use native.Mathlib.Omega.{arith}
use borrow.Author.Rules.{rules}
use Prim.Native.Nat.{◌-◌}
use lib.ListN.{length}
use Rattle.day_form.proofs.Tests.{Tried, tried-start, tried-end, tried_here, tried-next, lent-numbers}
use Rattle.day_form.proofs.lines.first_line.Given as goal

abbrev pub invariant-loop-at : goal.invariant-loop-at
invariant-loop-at l =
    Tried l.test l.text l.first l.at l.number

abbrev pub decreases-loop-at : goal.decreases-loop-at
decreases-loop-at l =
    length l.text - l.at
