-- `chain_rows` takes the rows from the last to the first. The invariant: the rows from `row` on are chained.
use mathlib.Core.Path.{◌≡◌, refl, ◌∙◌}
use Prim.Native.Nat.{◌≤◌, ◌+◌, ◌-◌}
use native.Mathlib.Omega.{arith}
use lib.ListN.{length}
use Rattle.words.specs.Table.{row_count}
use Rattle.check_labels.specs.Passes.{Heads, Chain}
use Rattle.check_labels.proofs.chains.chain_rows.Given as goal

abbrev pub invariant-loop-row : goal.invariant-loop-row
invariant-loop-row l =
    (l.row ≤ row_count l.rows) × Heads l.rows l.row l.heads × Chain l.rows l.row l.chain × (length l.heads ≡ length l.initial.heads) × (length l.chain ≡ length l.initial.chain)

abbrev pub decreases-loop-row : goal.decreases-loop-row
decreases-loop-row l = l.row
