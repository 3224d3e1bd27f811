-- `show_tables`: what was written fits the buffer.
use mathlib.Core.Path.{sym}
use native.Mathlib.Omega.{arith}
use lib.Seq.{length-take-le}
use Rattle.text_form.proofs.SizeLaws.{write-fits}
use borrow.Author.Rules.{rules}
use Rattle.side_by_side.proofs.forms.show_tables.Goals as goal

pub slice_bounds-kernel-end : goal.slice_bounds-kernel-end
slice_bounds-kernel-end g c = omega (arith, write-fits _ _ _ _ _ _ _ c.write_kernel-answer.ensures c.in-Ok.is, c.write_kernel-answer.auto.text)

pub slice_bounds-print_columns-end-in-Ok-2 : goal.slice_bounds-print_columns-end-in-Ok-2
slice_bounds-print_columns-end-in-Ok-2 g c = sym (length-take-le _ _ (omega (arith, write-fits _ _ _ _ _ _ _ c.write_kernel-answer.ensures c.in-Ok.is, c.write_kernel-answer.auto.text)))
