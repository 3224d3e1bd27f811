-- `print_kernel_run`: the line is within its array.
use Rattle.std.proofs.Math.Path.{sym}
use Rattle.std.proofs.Common.{arith}
use Rattle.std.proofs.lemmas.List.{length-take-le}
use Rattle.text_numbers.specs.PutLaws.{put-fits}
use Rattle.cases.proofs.lines.print_kernel_run.Goals as goal

pub slice_bounds-line-end : goal.slice_bounds-line-end
slice_bounds-line-end g c = omega (arith, c.kernel_line-n.ensures.size, put-fits c.kernel_line-n.ensures c.kernel_line-n.auto.text, c.kernel_line-n.auto.text)

pub slice_bounds-write_all-end : goal.slice_bounds-write_all-end
slice_bounds-write_all-end g c = sym (length-take-le _ _ (omega (arith, c.kernel_line-n.ensures.size, put-fits c.kernel_line-n.ensures c.kernel_line-n.auto.text, c.kernel_line-n.auto.text)))
