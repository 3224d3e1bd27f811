-- `show_kernel`: the store has room for the start words and the temporaries.
use mathlib.Core.Path.{sym}
use native.Mathlib.Omega.{arith}
use lib.Seq.{length-take-le}
use borrow.Author.Rules.{rules}
use Rattle.side_by_side.proofs.forms.show_kernel.Goals as goal
use Rattle.side_by_side.proofs.forms.show_kernel.Goals.{After-shown_of-shown}

pub slice_bounds-store-end : goal.slice_bounds-store-end
slice_bounds-store-end g c = search rules

pub slice_bounds-show_kernel_run-end : goal.slice_bounds-show_kernel_run-end
slice_bounds-show_kernel_run-end g c = sym (length-take-le _ _ (slice_bounds-store-end g (goal.at.slice_bounds-show_kernel_run-end g c).After-shown_of-shown))

pub show_kernel_run-requires : goal.show_kernel_run-requires
show_kernel_run-requires g c = (omega (arith, c.shown_of-shown.ensures, c.requires), omega (arith, c.shown_of-shown.ensures, slice_bounds-show_kernel_run-end g c))
