-- `mark_parameters` goes over the rows in order. The invariant: what the rows so far make parameters is marked.
use mathlib.Core.Path.{◌≡◌, refl, ◌∙◌}
use Prim.Native.Nat.{◌-◌, ◌/◌, ◌≤◌}
use native.Mathlib.Omega.{arith}
use lib.ListN.{length}
use Rattle.words_roles.specs.Passes.{Marking}
use Rattle.words_roles.proofs.MarkLaws.{marking-begun, marking-on, marking-ended, marked-length}
use Rattle.words_roles.proofs.mark_parameters.Given as goal

abbrev pub invariant-loop-row : goal.invariant-loop-row
invariant-loop-row l =
    (l.row ≤ length l.rows / 6) × (length l.marks ≡ length l.initial.marks) × Marking l.rows l.row l.marks

abbrev pub decreases-loop-row : goal.decreases-loop-row
decreases-loop-row l = length l.rows / 6 - l.row
