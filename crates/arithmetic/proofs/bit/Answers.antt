-- `bit` is its definition.
use Rattle.arithmetic.specs.Arithmetic.{bit}
use Rattle.arithmetic.proofs.bit.Goals as goal

pub returns-then-test : goal.returns-then-test
unfolding bit
returns-then-test c = rw c.if-test.true

pub returns : goal.returns
unfolding bit
returns c = rw c.if-test.false
