-- `answer_buffer`: the cases answered lie within the bytes filled.
use mathlib.Core.Path.{sym}
use native.Mathlib.Omega.{arith}
use lib.Seq.{length-take-le}
use borrow.Author.Rules.{rules}
use Rattle.programs.proofs.answer_buffer.Goals as goal
use Rattle.programs.proofs.answer_buffer.Goals.{After-slice_known-2-1}

pub slice_bounds-answer_cases-end : goal.slice_bounds-answer_cases-end
slice_bounds-answer_cases-end g c = search rules

pub slice_bounds-answer_cases-end-2 : goal.slice_bounds-answer_cases-end-2
slice_bounds-answer_cases-end-2 g c = sym (length-take-le _ _ (slice_bounds-answer_cases-end g c))

pub keep_rest-requires : goal.keep_rest-requires
keep_rest-requires g c = (omega (arith, c.answer_cases.ensures, slice_bounds-answer_cases-end-2 g (goal.at.keep_rest-requires g c).After-slice_known-2-1), c.requires)

pub overflow_sub-kept : goal.overflow_sub-kept
overflow_sub-kept g c = omega (arith, c.answer_cases.ensures, slice_bounds-answer_cases-end-2 g (goal.at.overflow_sub-kept g c).After-slice_known-2-1)
