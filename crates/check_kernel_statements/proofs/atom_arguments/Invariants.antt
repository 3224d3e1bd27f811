-- `atom_arguments` goes along the arguments. The invariant: they are atoms where those from the one reached on are.
use mathlib.Core.Path.{◌≡◌, refl, sym, ap, ◌∙◌}
use mathlib.Core.Bool.{Bool}
use Prim.Native.Nat.{ℕ, ◌+◌, ◌-◌, ◌/◌, ◌≤◌}
use native.Mathlib.Omega.{arith}
use lib.ListN.{length}
use borrow.Author.Tests.{not-true, not-false}
use Rattle.words.specs.Table.{row_count, number_at}
use Rattle.check_kernel_statements.specs.Statements.{is_atom, atom_arguments}
use Rattle.check_kernel_statements.specs.Laws.{arguments-none, arguments-other, arguments-along}
use Rattle.check_kernel_statements.proofs.atom_arguments.Given as goal

abbrev pub invariant-loop-passed : goal.invariant-loop-passed
invariant-loop-passed l =
    (l._passed ≤ length l.rows / 6) × (atom_arguments (row_count l.rows) l.rows l.first ≡ atom_arguments (length l.rows / 6 - l._passed) l.rows l.argument)

abbrev pub decreases-loop-passed : goal.decreases-loop-passed
decreases-loop-passed l = length l.rows / 6 - l._passed
