-- `multiply`: 64 bits hold the product of two words, and `narrow` says whether it is one.
use mathlib.Core.Path.{ap, ◌∙◌}
use lib.IntN.{◌*ℤ◌}
use Rattle.arithmetic.specs.Arithmetic.{in_word, apply}
use Rattle.arithmetic.proofs.Results.{product-64, wide_fits, operation-fits, operation_is}
use Rattle.arithmetic.proofs.multiply.Goals as goal

pub overflow_cast-left : goal.overflow_cast-left
overflow_cast-left c = wide_fits c.ranges.left

pub overflow_cast-right : goal.overflow_cast-right
overflow_cast-right c = wide_fits c.ranges.right

pub overflow_mul-left : goal.overflow_mul-left
overflow_mul-left c = operation-fits ◌*ℤ◌ product-64 c.ranges.left c.ranges.right

pub returns : goal.returns
unfolding apply
returns c = let s = c.before in c.narrow.ensures ∙ ap in_word (operation_is ◌*ℤ◌ product-64 s.ranges.left s.ranges.right)
