-- `show_kernel_run`: the store has the words printed.
use mathlib.Core.Path.{sym}
use native.Mathlib.Omega.{arith}
use lib.Seq.{length-take-le}
use borrow.Author.Rules.{rules}
use Rattle.side_by_side.proofs.forms.show_kernel_run.Goals as goal
use Rattle.side_by_side.proofs.forms.show_kernel_run.Goals.{In-Ok}

pub slice_bounds-print_kernel_run-end : goal.slice_bounds-print_kernel_run-end
slice_bounds-print_kernel_run-end g c = search rules

pub slice_bounds-print_kernel_run-end-in-Ok : goal.slice_bounds-print_kernel_run-end-in-Ok
slice_bounds-print_kernel_run-end-in-Ok g c = sym (length-take-le _ _ (slice_bounds-print_kernel_run-end g (goal.at.slice_bounds-print_kernel_run-end-in-Ok g c).In-Ok))

pub print_kernel_run-requires : goal.print_kernel_run-requires
print_kernel_run-requires g c = omega (arith, slice_bounds-print_kernel_run-end-in-Ok g c, c.requires.0)
