-- A declaration: its value, and then the assignment to its word.
use native.Mathlib.Omega.{arith}
use Rattle.translation.specs.declared.Use.TheVariants.{Stored as stored, Dropped as dropped}
use Rattle.writers_steps.specs.LevelLaws.{part_low}
use Rattle.writers.proofs.Sequence.{room-behind}
use Rattle.writers.proofs.DeclarationLaws.{declared-done}
use borrow.Author.Rules.{rules}
use Rattle.writers.proofs.declarations.write_declare.Goals as goal

pub write_expression-requires : goal.write_expression-requires
write_expression-requires c =
    (c.requires.0, record { inside = c.requires.1.inside; level_low = omega (arith, part_low c.requires.0 c.args.value c.requires.1.inside (stored c.args.number)); use_fits = c.requires.1.low; room = search rules })

pub put_variable-requires : goal.put_variable-requires
put_variable-requires c =
    let past-operand-size = c.operand_size-n in
    let past-write-expression = c.write_expression in
    let asks = c.requires.1 in
    record {
      writing = c.requires.0;
      low = asks.low;
      value_inside = asks.inside;
      level_low = omega arith;
      room =
          room-behind past-operand-size.result _ past-write-expression.new.out asks.room past-write-expression.auto.out
          (omega (arith, past-operand-size.ensures));
    }

pub returns : goal.returns
returns c =
    let args = c.args in
    declared-done args.source.now.store args.source.now.rows.now args.number args.value args.base args.follows args.out.now dropped c.requires.1.absent c.operand_size-n.ensures c.store_rows.ensures c.more-then.ensures c.write_expression.ensures c.put_variable.ensures
