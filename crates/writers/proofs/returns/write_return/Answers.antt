-- A return: it stands behind the code of its value.
use native.Mathlib.Omega.{arith}
use Rattle.writers_rows.specs.Chain.{room-less}
use Rattle.translation.specs.declared.Use.TheVariants.{Wanted as wanted}
use Rattle.writers_steps.specs.LevelLaws.{part_low}
use Rattle.writers.proofs.Sequence.{room-behind}
use Rattle.writers.proofs.ReturnLaws.{returned-nothing, returned-done}
use Rattle.writers.proofs.returns.write_return.Goals as goal

pub put_return-requires : goal.put_return-requires
put_return-requires c =
    (room-less 2 c.requires.1.room (omega arith), tt)

pub returns-then-value-eq0 : goal.returns-then-value-eq0
returns-then-value-eq0 c =
    let args = c.args in
    returned-nothing args.source.now.store args.follows args.base args.out.now args.source.now.rows.now c.if-value-eq0.true c.put_return.ensures

pub write_expression-requires : goal.write_expression-requires
write_expression-requires c =
    let asks = c.requires.1 in
    (c.requires.0, record { inside = asks.inside; level_low = omega (arith, part_low c.requires.0 c.args.value asks.inside wanted); use_fits = tt; room = room-less _ asks.room (omega arith) })

pub put_return-requires-2 : goal.put_return-requires-2
put_return-requires-2 c =
    let past-operand-size = c.operand_size-n in
    let past-write-expression = c.write_expression in
    let asks = c.requires.1 in (
      room-behind past-operand-size.result 2 past-write-expression.new.out asks.room past-write-expression.auto.out (omega (arith, past-operand-size.ensures)),
      c.atom_at-atom.ensures.fits,
    )

pub returns : goal.returns
returns c =
    let args = c.args in
    returned-done args.source.now.store args.follows args.base args.out.now args.value c.if-value-eq0.false c.atom_at-atom.ensures c.operand_size-n.ensures c.write_expression.ensures c.put_return-2.ensures
