-- `answer_translation`: the translation fits both tables.
use mathlib.Core.Path.{sym}
use native.Mathlib.Omega.{arith}
use lib.Seq.{length-take-le}
use Rattle.translator.proofs.TranslationLaws.{translation-made}
use borrow.Author.Rules.{rules}
use Rattle.programs.proofs.kernel.answer_translation.Goals as goal
use Rattle.programs.proofs.kernel.answer_translation.Goals.{In-Ok}

pub slice_bounds-kernel_header-end : goal.slice_bounds-kernel_header-end
slice_bounds-kernel_header-end g c = omega (arith, (translation-made _ _ _ _ _ _ _ _ (rw c.in-Ok.is at c.translate-answer.ensures.kernel_rows_after)).header_room, c.translate-answer.auto.kernel_header)

pub slice_bounds-answer_kernel-end : goal.slice_bounds-answer_kernel-end
slice_bounds-answer_kernel-end g c = sym (length-take-le _ _ (slice_bounds-kernel_header-end g (goal.at.slice_bounds-answer_kernel-end g c).In-Ok))

pub slice_bounds-answer_kernel-end-in-Ok : goal.slice_bounds-answer_kernel-end-in-Ok
slice_bounds-answer_kernel-end-in-Ok g c = omega (arith, (translation-made _ _ _ _ _ _ _ _ (rw c.in-Ok.is at c.translate-answer.ensures.kernel_rows_after)).rows_room, c.translate-answer.auto.kernel_rows)

pub slice_bounds-answer_kernel-end-in-Ok-2 : goal.slice_bounds-answer_kernel-end-in-Ok-2
slice_bounds-answer_kernel-end-in-Ok-2 g c = sym (length-take-le _ _ (slice_bounds-answer_kernel-end-in-Ok g c))
