-- `answer_cases`: each case ends behind its start; the tables keep their lengths.
use Rattle.std.specs.Prelude.{◌≡◌, ◌≤◌, ◌-◌, length}
use Rattle.command_cases.proofs.answer_cases.Given as goal

abbrev pub invariant-loop-at : goal.invariant-loop-at
invariant-loop-at g l = (l.at ≤ length l.input) × ((length l.header ≡ length l.initial.header) × ((length l.rows ≡ length l.initial.rows) × (length l.out ≡ length l.initial.out)))

abbrev pub decreases-loop-at : goal.decreases-loop-at
decreases-loop-at g l = length l.input - l.at
