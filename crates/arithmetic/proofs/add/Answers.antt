-- `add`: 64 bits hold the sum of two words, and `narrow` says whether it is one.
use mathlib.Core.Path.{ap, ◌∙◌}
use lib.IntN.{◌+ℤ◌}
use Rattle.arithmetic.specs.Arithmetic.{in_word, apply}
use Rattle.arithmetic.proofs.Results.{sum_64, wide_fits, operation-fits, operation_is}
use Rattle.arithmetic.proofs.add.Goals as goal

pub overflow_cast-left : goal.overflow_cast-left
overflow_cast-left c = wide_fits c.ranges.left

pub overflow_cast-right : goal.overflow_cast-right
overflow_cast-right c = wide_fits c.ranges.right

pub overflow_add-left : goal.overflow_add-left
overflow_add-left c = operation-fits ◌+ℤ◌ sum_64 c.ranges.left c.ranges.right

pub returns : goal.returns
unfolding apply
returns c = let s = c.before in c.narrow.ensures ∙ ap in_word (operation_is ◌+ℤ◌ sum_64 s.ranges.left s.ranges.right)
