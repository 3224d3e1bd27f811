-- `rule_size` walks the bytes; the invariant is `Passed`.
use mathlib.Core.Path.{sym, ◌∙◌}
use native.Mathlib.Omega.{arith}
use Rattle.day_form.proofs.Bounds.{passed_start, passed-end, passed_here, passed-next}
use Rattle.day_form.proofs.input.rule_size.Goals as goal

pub loop-at-init : goal.loop-at-init
loop-at-init c =
    passed_start _

pub returns-then-is_empty_line : goal.returns-then-is_empty_line
returns-then-is_empty_line c =
    passed_here c.loop-at.invariant c.loop-at-test.true (sym c.is_empty_line.ensures ∙ c.if-is_empty_line.true)

pub loop-at-preserved : goal.loop-at-preserved
loop-at-preserved c =
    passed-next c.loop-at.invariant c.loop-at-test.true (sym c.is_empty_line.ensures ∙ c.if-is_empty_line.false)

pub returns : goal.returns
returns c =
    omega (arith, passed-end c.loop-at.invariant c.loop-at-test.false, c.loop-at.invariant.inside)
