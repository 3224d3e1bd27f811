-- A loop's test: the exit stands behind the code of the expression.
use mathlib.Core.Path.{sym, ap}
use native.Mathlib.Omega.{arith}
use Rattle.language.specs.Trees.{none}
use Rattle.language.specs.Decode.{part_at}
use Rattle.translation.specs.Translate.{test_code}
use Rattle.language_emission.specs.Emission.{emit_items}
use Rattle.words.specs.Over.{over}
use Rattle.writers_rows.specs.Chain.{room-less}
use Rattle.measures_table.specs.Parts.{called_in}
use Rattle.translation.specs.declared.Use.TheVariants.{Wanted as wanted}
use Rattle.writers_steps.specs.LevelLaws.{part_low}
use Rattle.writers.proofs.Sequence.{room-behind}
use Rattle.writers.proofs.LoopLaws.{test_some, test-most, test-done}
use Rattle.writers.proofs.loops.write_test.Goals as goal

pub returns-then-test-eq0 : goal.returns-then-test-eq0
unfolding emit_items over
returns-then-test-eq0 c =
    let args = c.args in
    sym (ap (λ test. over (emit_items args.follows (test_code (called_in args.source.now.rows.now) args.source.now.store (part_at args.source.now.rows.now test) args.label none) args.base) args.out.now) c.if-test-eq0.true)

pub operand_size-n-requires : goal.operand_size-n-requires
operand_size-n-requires c =
    (c.requires.0.measured, c.requires.1.inside, omega (arith, test-most (called_in c.args.source.now.rows.now) (part_at c.args.source.now.rows.now c.args.test), c.requires.1.room.low))

pub write_expression-requires : goal.write_expression-requires
write_expression-requires c =
    let asks = c.requires.1 in
    (c.requires.0, record { inside = asks.inside; level_low = omega (arith, part_low c.requires.0 c.args.test asks.inside wanted); use_fits = tt; room = room-less _ asks.room (test-most (called_in c.args.source.now.rows.now) (part_at c.args.source.now.rows.now c.args.test)) })

pub overflow_add-base : goal.overflow_add-base
overflow_add-base c =
    omega (arith, c.operand_size-n.ensures, test-most (called_in c.args.source.now.rows.now) (part_at c.args.source.now.rows.now c.args.test), c.requires.1.room.low)

pub overflow_mul-n : goal.overflow_mul-n
overflow_mul-n c =
    omega (arith, c.operand_size-n.ensures, test-most (called_in c.args.source.now.rows.now) (part_at c.args.source.now.rows.now c.args.test), c.requires.1.room.low)

pub offset_bounds-out-n : goal.offset_bounds-out-n
offset_bounds-out-n c =
    omega (arith, c.operand_size-n.ensures, test-most (called_in c.args.source.now.rows.now) (part_at c.args.source.now.rows.now c.args.test), c.requires.1.room.low)

pub slice_bounds-put_exit-count : goal.slice_bounds-put_exit-count
slice_bounds-put_exit-count c =
    omega (arith, c.operand_size-n.ensures, test-most (called_in c.args.source.now.rows.now) (part_at c.args.source.now.rows.now c.args.test), c.requires.1.room.inside, c.write_expression.auto.out)

pub slice_bounds-put_exit-start : goal.slice_bounds-put_exit-start
slice_bounds-put_exit-start c =
    omega (arith, c.operand_size-n.ensures, test-most (called_in c.args.source.now.rows.now) (part_at c.args.source.now.rows.now c.args.test), c.requires.1.room.inside, c.write_expression.auto.out)

pub put_exit-requires : goal.put_exit-requires
put_exit-requires c =
    let past-operand-size = c.operand_size-n in
    let past-write-expression = c.write_expression in
    let asks = c.requires.1 in (
      room-behind past-operand-size.result 5 past-write-expression.new.out asks.room past-write-expression.auto.out (omega (arith, past-operand-size.ensures, test_some c.args.source.now.rows.now c.args.test c.if-test-eq0.false)),
      omega (arith, asks.label_low),
      c.atom_at-atom.ensures.fits,
    )

pub returns : goal.returns
returns c =
    let args = c.args in
    test-done args.source.now.store args.follows args.label args.base args.out.now args.test c.if-test-eq0.false c.atom_at-atom.ensures c.operand_size-n.ensures c.write_expression.ensures c.put_exit.ensures
