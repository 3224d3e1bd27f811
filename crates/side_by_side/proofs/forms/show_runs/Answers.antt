-- `show_runs`: there are at most 64 start words.
use mathlib.Core.Path.{sym}
use native.Mathlib.Omega.{arith}
use lib.Seq.{length-take-le}
use borrow.Author.Rules.{rules}
use Rattle.side_by_side.proofs.forms.show_runs.Goals as goal
use Rattle.side_by_side.proofs.forms.show_runs.Goals.{After-shown_of-shown, In_ok-show_source_run}

pub slice_bounds-store-end : goal.slice_bounds-store-end
slice_bounds-store-end g c = search rules

pub slice_bounds-show_source_run-end : goal.slice_bounds-show_source_run-end
slice_bounds-show_source_run-end g c = sym (length-take-le _ _ (slice_bounds-store-end g (goal.at.slice_bounds-show_source_run-end g c).After-shown_of-shown))

pub show_source_run-requires : goal.show_source_run-requires
show_source_run-requires g c = (omega (arith, c.shown_of-shown.ensures, c.start_words-n.ensures), omega (arith, c.shown_of-shown.ensures, slice_bounds-show_source_run-end g c))

pub slice_bounds-start-end : goal.slice_bounds-start-end
slice_bounds-start-end g c = search rules

pub slice_bounds-show_kernel-end : goal.slice_bounds-show_kernel-end
slice_bounds-show_kernel-end g c = sym (length-take-le _ _ (slice_bounds-start-end g (goal.at.slice_bounds-show_kernel-end g c).In_ok-show_source_run))

pub show_kernel-requires : goal.show_kernel-requires
show_kernel-requires g c = omega (arith, slice_bounds-show_kernel-end g c, c.start_words-n.ensures)
