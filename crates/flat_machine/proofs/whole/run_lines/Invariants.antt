-- `run_lines` makes a line a turn. The invariant: from the line and the store at hand the run is the whole run. The measure is the unspent
-- budget, and a line not yet made.
use Rattle.machine_operations.specs.Bounds.{layout_from}
use Rattle.flat.specs.Lines.{run_from}
use Rattle.flat.specs.Words.{line_count, lines_of}
use Rattle.flat_machine.proofs.Running.{Runs, runs-start, runs_on, runs-spent, runs-fault, runs-end}
use borrow.Author.Rules.{rules}
use lib.ListN.{length}
use mathlib.Core.Path.{◌≡◌, refl, ◌∙◌}
use native.Mathlib.Omega.{arith}
use Rattle.flat_machine.proofs.whole.run_lines.Given as goal

abbrev pub invariant-loop-line : goal.invariant-loop-line
invariant-loop-line l =
    (length l.store ≡ length l.initial.store) × (l.lines ≡ line_count l.list) × Runs (layout_from l.bounds) l.list l.budget l.left l.line l.store (run_from (layout_from l.bounds) (lines_of l.list) l.budget 0 0 l.initial.store)

abbrev pub decreases-loop-line : goal.decreases-loop-line
decreases-loop-line l = l.left
