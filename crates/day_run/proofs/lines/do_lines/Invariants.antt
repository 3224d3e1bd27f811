-- `do_lines` walks the lines; the invariant is `Done`.
use mathlib.Core.Path.{◌∙◌}
use native.Mathlib.Omega.{arith}
use borrow.Author.Rules.{rules}
use Prim.Native.Nat.{◌-◌}
use lib.ListN.{length}
use Rattle.day_form.proofs.Tests.{lent-numbers}
use Rattle.day_run.proofs.Doing.{runnable-on, Done, done-start, done_end, done_next}
use Rattle.day_run.proofs.lines.do_lines.Given as goal

abbrev pub invariant-loop-at : goal.invariant-loop-at
invariant-loop-at l =
    Done l.header l.rows l.text l.initial.store l.at l.plain l.other l.store

abbrev pub decreases-loop-at : goal.decreases-loop-at
decreases-loop-at l =
    length l.text - l.at
