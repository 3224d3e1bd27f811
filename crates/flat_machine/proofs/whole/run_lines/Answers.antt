-- `run_lines` makes a line a turn. The invariant: from the line and the store at hand the run is the whole run. The measure is the unspent
-- budget, and a line not yet made.
use Rattle.machine_operations.specs.Bounds.{layout_from}
use Rattle.flat.specs.Lines.{run_from}
use Rattle.flat.specs.Words.{line_count, lines_of}
use Rattle.flat_machine.proofs.Running.{Runs, runs-start, runs_on, runs-spent, runs-fault, runs-end}
use borrow.Author.Rules.{rules}
use lib.ListN.{length}
use mathlib.Core.Path.{◌≡◌, refl, ◌∙◌}
use native.Mathlib.Omega.{arith}
use Rattle.flat_machine.proofs.whole.run_lines.Goals as goal

pub loop-line-init : goal.loop-line-init
loop-line-init c = (refl, refl, runs-start _ _ _ _)

pub shape_of-store-then-left-eq0 : goal.shape_of-store-then-left-eq0
shape_of-store-then-left-eq0 c = c.loop-line.invariant.0

pub returns-then-left-eq0 : goal.returns-then-left-eq0
returns-then-left-eq0 c = runs-spent _ _ c.loop-line.invariant.2 (omega (arith, c.loop-line-test.true, c.loop-line.invariant.1)) c.if-left-eq0.true

pub overflow_sub-left : goal.overflow_sub-left
overflow_sub-left c = omega (arith, c.if-left-eq0.false)

pub make-step-requires : goal.make-step-requires
make-step-requires c = record { setting = rw c.loop-line.invariant.0 c.requires; inside = omega (arith, c.loop-line-test.true, c.loop-line.invariant.1) }

pub loop-line-smaller : goal.loop-line-smaller
loop-line-smaller c = omega (arith, c.if-left-eq0.false)

pub loop-line-preserved : goal.loop-line-preserved
loop-line-preserved c = (c.store-1.given ∙ c.loop-line.invariant.0, c.loop-line.invariant.1, runs_on _ _ c.loop-line.invariant.2 (omega (arith, c.loop-line-test.true, c.loop-line.invariant.1)) (omega (arith, c.if-left-eq0.false)) c.make-step.result _ c.make-step.ensures c.in-Ok.next c.in-Ok.is)

pub overflow_sub-result : goal.overflow_sub-result
overflow_sub-result c = omega (arith, c.loop-line.invariant.2.most)

pub shape_of-store-in-Err : goal.shape_of-store-in-Err
shape_of-store-in-Err c = c.store-1.given ∙ c.loop-line.invariant.0

pub returns-in-Err : goal.returns-in-Err
returns-in-Err c = runs-fault _ _ c.loop-line.invariant.2 (omega (arith, c.loop-line-test.true, c.loop-line.invariant.1)) (omega (arith, c.if-left-eq0.false)) c.make-step.result _ c.make-step.ensures c.in-Err.sort c.in-Err.is

pub overflow_sub-result-2 : goal.overflow_sub-result-2
overflow_sub-result-2 c = omega (arith, c.loop-line.invariant.2.most)

pub shape_of-store : goal.shape_of-store
shape_of-store c = c.loop-line.invariant.0

pub returns : goal.returns
returns c = runs-end _ _ c.loop-line.invariant.2 (omega (arith, c.loop-line-test.false, c.loop-line.invariant.1))
