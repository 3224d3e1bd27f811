-- `compare_text`: what was read fits both tables.
use mathlib.Core.Path.{sym}
use native.Mathlib.Omega.{arith}
use lib.Seq.{length-take-le}
use Rattle.text_form.proofs.SizeLaws.{read_fits}
use borrow.Author.Rules.{rules}
use Rattle.programs.proofs.kernel.compare_text.Goals as goal

pub slice_bounds-read_header-end : goal.slice_bounds-read_header-end
slice_bounds-read_header-end g c = omega (arith, (read_fits _ _ _ _ _ _ _ _ _ c.read_kernel-answer.ensures c.in-Ok.is).0, c.read_kernel-answer.auto.header)

pub slice_bounds-ne-end : goal.slice_bounds-ne-end
slice_bounds-ne-end g c =
    sym (length-take-le _ _ (omega (arith, (read_fits _ _ _ _ _ _ _ _ _ c.read_kernel-answer.ensures c.in-Ok.is).0, c.read_kernel-answer.auto.header)))

pub slice_bounds-ne-end-else-ne : goal.slice_bounds-ne-end-else-ne
slice_bounds-ne-end-else-ne g c = omega (arith, (read_fits _ _ _ _ _ _ _ _ _ c.read_kernel-answer.ensures c.in-Ok.is).1, c.read_kernel-answer.auto.rows)

pub slice_bounds-ne-end-else-ne-2 : goal.slice_bounds-ne-end-else-ne-2
slice_bounds-ne-end-else-ne-2 g c = sym (length-take-le _ _ (slice_bounds-ne-end-else-ne g c))
