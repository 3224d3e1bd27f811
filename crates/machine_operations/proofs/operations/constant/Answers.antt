-- `constant` casts the word of its field.
use mathlib.Core.Path.{ap, ◌∙◌}
use lib.IntN.{ℤ}
use Rattle.computation.specs.Remaining.{gives}
use Rattle.machine_operations.proofs.Decoding.{wide_fits, answered-wide}
use Rattle.machine_operations.proofs.operations.constant.Goals as goal

pub overflow_cast-result : goal.overflow_cast-result
overflow_cast-result c = wide_fits c.word_at.result c.word_at.type_inv

pub returns : goal.returns
returns c =
    λ n s. answered-wide c.word_at.result c.word_at.type_inv n s ∙ ap (λ (z : ℤ). gives z n s) c.word_at.ensures
