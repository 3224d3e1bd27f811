-- Where the value of an assignment comes from.
use native.Mathlib.Omega.{arith}
use Rattle.measures_expressions.proofs.OwnLaws.{value-own, value-other}
use Rattle.measures_expressions.proofs.parts.value_at.Goals as goal

pub returns-then-copied-eq1 : goal.returns-then-copied-eq1
returns-then-copied-eq1 c = value-own c.args.copied c.args.row _ (omega arith)

pub measure_at-requires : goal.measure_at-requires
measure_at-requires c = c.requires 2 (omega arith)

pub returns : goal.returns
returns c = value-other c.args.copied c.args.row (λ e. omega arith) c.measure_at.ensures.is
