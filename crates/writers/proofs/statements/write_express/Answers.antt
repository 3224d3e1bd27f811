-- An expression statement: its code has no rows exactly where there is nothing to do.
use native.Mathlib.Omega.{arith}
use Rattle.translation.specs.declared.Use.TheVariants.{Dropped as dropped}
use Rattle.writers_rows.specs.Chain.{room-less}
use Rattle.writers_steps.specs.LevelLaws.{part_low}
use Rattle.writers.proofs.StatementLaws.{part-size, express-nothing, express-something}
use Rattle.writers.proofs.statements.write_express.Goals as goal

pub operand_size-n-requires : goal.operand_size-n-requires
operand_size-n-requires c =
    let asks = c.requires.1 in
    (c.requires.0.measured, asks.inside, omega (arith, part-size dropped c.args.source.now.rows.now c.args.expression asks.some, asks.room.low))

pub returns-then-n-eq0 : goal.returns-then-n-eq0
returns-then-n-eq0 c =
    let args = c.args in
    express-nothing args.source.now.store args.source.now.rows.now args.expression args.base args.follows args.out.now c.requires.1.some c.operand_size-n.ensures c.if-n-eq0.true c.put_empty.ensures

pub write_expression-requires : goal.write_expression-requires
write_expression-requires c =
    let asks = c.requires.1 in (
      c.requires.0,
      record { inside = asks.inside; level_low = omega (arith, part_low c.requires.0 c.args.expression asks.inside dropped); use_fits = tt; room = room-less _ asks.room (omega (arith, part-size dropped c.args.source.now.rows.now c.args.expression asks.some)) },
    )

pub returns : goal.returns
returns c =
    let args = c.args in
    express-something args.source.now.store args.source.now.rows.now args.expression args.base args.follows args.out.now c.requires.1.some c.operand_size-n.ensures c.if-n-eq0.false c.write_expression.ensures
