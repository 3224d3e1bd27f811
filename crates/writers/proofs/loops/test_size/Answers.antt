-- The rows of a loop's test: those of its expression and five more.
use native.Mathlib.Omega.{arith}
use Rattle.language.specs.Decode.{part_at}
use Rattle.measures_table.specs.Parts.{called_in}
use Rattle.writers.proofs.LoopLaws.{test_some, test-most}
use Rattle.writers.proofs.loops.test_size.Goals as goal

pub operand_size-requires : goal.operand_size-requires
operand_size-requires c =
    (c.requires.0, c.requires.1, omega (arith, test-most (called_in c.args.source.now.rows.now) (part_at c.args.source.now.rows.now c.args.test), c.requires.2))

pub overflow_add-result : goal.overflow_add-result
overflow_add-result c =
    omega (arith, c.operand_size.ensures, test-most (called_in c.args.source.now.rows.now) (part_at c.args.source.now.rows.now c.args.test), c.requires.2)

pub returns : goal.returns
returns c =
    omega (arith, c.operand_size.ensures, test_some c.args.source.now.rows.now c.args.test c.if-test-eq0.false)
