-- The end of a round: the label, the step and the test, one behind another.
use Prim.Native.Nat.{◌+◌}
use Rattle.writers_rows.specs.Chain.{back_in}
use Rattle.translation.specs.declared.Use.TheVariants.{Dropped as dropped}
use Rattle.writers_steps.specs.LevelLaws.{part_low}
use Rattle.writers.proofs.Sequence.{back-length, room-behind}
use Rattle.language.specs.Decode.{part_at}
use mathlib.Core.Path.{◌∙◌}
use native.Mathlib.Omega.{arith}
use Rattle.writers.proofs.LoopLaws.{round-end-done}
use borrow.Author.Rules.{rules}
use Rattle.writers.proofs.loops.write_round_end.Goals as goal

pub write_expression-requires : goal.write_expression-requires
write_expression-requires c =
    (c.requires.0, record { inside = c.requires.1.action_inside; level_low = omega (arith, part_low c.requires.0 c.args.action c.requires.1.action_inside dropped); use_fits = tt; room = search rules })

pub write_test-requires : goal.write_test-requires
write_test-requires c =
    let past-put-label = c.put_label in
    let past-write-expression = c.write_expression in
    let past-operand-size = c.operand_size-k in
    let asks = c.requires.1 in
    let l1 = past-put-label.new.out in
    let l2 = past-write-expression.new.out in
    let kept = back-length 1 l1 l2 past-write-expression.auto.out ∙ past-put-label.auto.out in (
      c.requires.0,
      record { inside = asks.after_inside; label_low = asks.label_low; room = room-behind (1 + past-operand-size.result) _ (back_in 1 l1 l2) asks.room kept (omega (arith, past-operand-size.ensures)) },
    )

pub returns : goal.returns
returns c =
    let args = c.args in
    round-end-done args.source.now.store args.source.now.rows.now (part_at args.source.now.rows.now args.action) (part_at args.source.now.rows.now args.after) args.label args.base args.out.now c.operand_size-k.ensures c.test_size-end.ensures c.more-then.ensures c.more.ensures c.put_label.ensures c.write_expression.ensures c.write_test.ensures
