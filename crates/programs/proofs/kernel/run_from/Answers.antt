-- `run_from`: the store holds the start words.
use mathlib.Core.Path.{sym}
use native.Mathlib.Omega.{arith}
use lib.Seq.{length-take-le}
use borrow.Author.Rules.{rules}
use Rattle.programs.proofs.kernel.run_from.Goals as goal

pub slice_bounds-print_kernel_run-end : goal.slice_bounds-print_kernel_run-end
slice_bounds-print_kernel_run-end g c = omega (arith, c.requires.1, c.put.auto.out, c.kernel_run-verdict.auto.store)

pub slice_bounds-print_kernel_run-end-in-Ok : goal.slice_bounds-print_kernel_run-end-in-Ok
slice_bounds-print_kernel_run-end-in-Ok g c = sym (length-take-le _ _ (slice_bounds-print_kernel_run-end g c))

pub print_kernel_run-requires : goal.print_kernel_run-requires
print_kernel_run-requires g c = omega (arith, slice_bounds-print_kernel_run-end-in-Ok g c, c.requires.0)
