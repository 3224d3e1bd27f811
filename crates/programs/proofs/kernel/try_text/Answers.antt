-- `try_text`: what was written fits the buffer.
use mathlib.Core.Path.{sym}
use native.Mathlib.Omega.{arith}
use lib.Seq.{length-take-le}
use Rattle.text_form.proofs.SizeLaws.{write-fits}
use borrow.Author.Rules.{rules}
use Rattle.programs.proofs.kernel.try_text.Goals as goal

pub slice_bounds-compare_text-end : goal.slice_bounds-compare_text-end
slice_bounds-compare_text-end g c = omega (arith, write-fits _ _ _ _ _ _ _ c.write_kernel-answer.ensures c.in-Ok.is, c.write_kernel-answer.auto.text)

pub slice_bounds-compare_text-end-in-Ok : goal.slice_bounds-compare_text-end-in-Ok
slice_bounds-compare_text-end-in-Ok g c = sym (length-take-le _ _ (slice_bounds-compare_text-end g c))
