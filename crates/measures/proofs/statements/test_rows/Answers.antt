-- The rows of a loop's test.
use native.Mathlib.Omega.{arith}
use Rattle.measures.proofs.StatementLaws.{test-none, test_some}
use Rattle.measures.proofs.statements.test_rows.Goals as goal

pub returns-then-test-eq0 : goal.returns-then-test-eq0
returns-then-test-eq0 c = record { is = test-none _ c.args.test (omega arith); small = omega arith }

pub measure_at-requires : goal.measure_at-requires
measure_at-requires c = c.requires 0 (omega arith)

pub overflow_add-result : goal.overflow_add-result
overflow_add-result c = omega (arith, c.measure_at.ensures.small)

pub returns : goal.returns
returns c = record { is = test_some _ c.args.test _ (omega arith) c.measure_at.ensures.is; small = omega (arith, c.measure_at.ensures.small) }
