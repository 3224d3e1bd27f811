-- `show_program`: the translation fits both tables.
use mathlib.Core.Path.{sym}
use native.Mathlib.Omega.{arith}
use lib.Seq.{length-take-le}
use Rattle.translator.proofs.TranslationLaws.{translation-made}
use borrow.Author.Rules.{rules}
use Rattle.side_by_side.proofs.forms.show_program.Goals as goal
use Rattle.side_by_side.proofs.forms.show_program.Goals.{After-kernel_header-in-Ok-1, In-Ok}

pub slice_bounds-kernel_header-end : goal.slice_bounds-kernel_header-end
slice_bounds-kernel_header-end g c = omega (arith, (translation-made _ _ _ _ _ _ _ _ (rw c.in-Ok.is at c.translate-answer.ensures.kernel_rows_after)).header_room, c.translate-answer.auto.kernel_header)

pub slice_bounds-show_forms-end : goal.slice_bounds-show_forms-end
slice_bounds-show_forms-end g c = sym (length-take-le _ _ (slice_bounds-kernel_header-end g (goal.at.slice_bounds-show_forms-end g c).In-Ok))

pub slice_bounds-kernel_rows-end : goal.slice_bounds-kernel_rows-end
slice_bounds-kernel_rows-end g c = omega (arith, (translation-made _ _ _ _ _ _ _ _ (rw c.in-Ok.is at c.translate-answer.ensures.kernel_rows_after)).rows_room, c.translate-answer.auto.kernel_rows)

pub slice_bounds-show_forms-end-in-Ok : goal.slice_bounds-show_forms-end-in-Ok
slice_bounds-show_forms-end-in-Ok g c = sym (length-take-le _ _ (slice_bounds-kernel_rows-end g (goal.at.slice_bounds-show_forms-end-in-Ok g c).After-kernel_header-in-Ok-1))
