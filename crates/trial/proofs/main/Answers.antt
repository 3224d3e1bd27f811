-- `main`: what was put at the start of the buffer is inside it.
use mathlib.Core.Path.{sym}
use native.Mathlib.Omega.{arith}
use lib.Seq.{length-take-le}
use Rattle.text_numbers.specs.PutLaws.{put-fits}
use Rattle.trial.proofs.main.Goals as goal

pub slice_bounds-printed-end : goal.slice_bounds-printed-end
slice_bounds-printed-end c = omega (arith, c.trial-size.ensures.size, put-fits c.trial-size.ensures c.trial-size.auto.output, c.trial-size.auto.output)

pub slice_bounds-write_all-end : goal.slice_bounds-write_all-end
slice_bounds-write_all-end c = sym (length-take-le _ _ (omega (arith, c.trial-size.ensures.size, put-fits c.trial-size.ensures c.trial-size.auto.output, c.trial-size.auto.output)))
