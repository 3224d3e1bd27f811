-- The writers of statements, lists and arms meet their contracts: what stands in the table is the emission of the code of the tree at the
-- row. Each need is a law of the construct and what the calls left.
use mathlib.Core.Path.{sym, ap, ◌∙◌, ◌≡◌}
use mathlib.Core.Bool.{true}
use mathlib.Core.List.{List}
use Prim.Native.Nat.{ℕ, ◌+◌, ◌-◌, ◌<◌, ◌*◌}
use lib.IntN.{ℤ}
use native.Mathlib.Omega.{arith}
use Rattle.language.specs.Trees.{Arms, Items}
use Rattle.translation.specs.Translate.{arms_labels, arms_code, items_code, labels, statement_code, atom_of}
use Rattle.translation.specs.TranslateSize.{arms_size, items_size, statement_size}
use Rattle.language_emission.specs.Emission.{emit_items}
use Rattle.language_shapes.specs.ShapeLaws.{armed, stated}
use Rattle.words.specs.Over.{over}
use Rattle.writers_rows.specs.Chain.{room-less, back_in, Reach}
use Rattle.writers_rows.specs.LeafLaws.{nothing-wrote}
use Rattle.measures_table.specs.Parts.{called_in}
use Rattle.writers.specs.Code.{exits_of}
use Rattle.writers.specs.Items.{first_only, item_code}
use Rattle.writers.proofs.ArmLaws.{arm_is, arms-some, arms-behind-inside, arms-behind-size, arms-behind-labels, behind-less, arms_step, no-arms, choice-done, arm_done, rounds-rows, rounds-labels, rounds-own, rounds-none, rounds-done}
use Rattle.language.specs.Decode.{arm_list_at, list_at, statement_at, expression_at, part_at}
use Rattle.writers.proofs.Sequence.{room-behind, back-length}
use Rattle.writers.proofs.ListLaws.{start as begin, finish, above-some, item_is, none-at, next-less, behind-inside, behind-size, behind-labels, room-item, items-step, above-less, optional-inside}
use Rattle.writers_rows.proofs.Words.{pick-most}
use Rattle.writers.proofs.StatementLaws.{block-done, body-some, body-labels, body-none, body-done, part-size, if-done, line-done, if-size, if-labels, while-size, do-size, for-size, while-code, do-code, for-code, switch-done}
use Rattle.translation.specs.declared.Use.TheVariants.{Wanted as wanted, Dropped as dropped}
use Rattle.writers_steps.specs.LevelLaws.{part_low}
use Rattle.writers_rows.specs.Room.{more_rows}
use Rattle.writers.proofs.LoopLaws.{loop-done, round-done}
use Rattle.writers.proofs.DeclarationLaws.{initial-size}
use Rattle.writers.proofs.ReturnLaws.{returned-code}
use Rattle.writers.proofs.Tables.{default-low}
use Rattle.translation.proofs.TranslateBounds.{taken_most}
use Rattle.writers.proofs.+write_statements.Goals as goal

-- The arm at a row, by its links; nothing of a row that is no arm.

pub guarded::write_arm-write_guarded-requires : goal.guarded::write_arm-write_guarded-requires
unfolding arms_size arms_labels
guarded::write_arm-write_guarded-requires t c =
    let is-arm = armed c.arm_at-shape.ensures c.in-Some.is in (
      omega (arith, c.decreases, is-arm.onward.1.later, is-arm.onward.1.inside),
      (
        c.requires.0,
        record {
          guard_some = omega (arith, is-arm.onward.0.later);
          guard_inside = is-arm.onward.0.inside;
          body_inside = is-arm.onward.1.inside;
          room = room-less _ (rw is-arm.is at c.requires.1.room) (omega arith);
          labels_low = omega (arith, (rw is-arm.is at c.requires.1.labels_low));
          target_low = c.requires.1.target_low;
          exits_low = c.requires.1.exits_low;
        },
      ),
    )

pub guarded::write_arm-returns-in-Some : goal.guarded::write_arm-returns-in-Some
guarded::write_arm-returns-in-Some t c =
    let table : Arms → List ℤ = λ a. over (emit_items true (arms_code (called_in c.args.source.now.rows.now) c.args.source.now.store (first_only a) (exits_of c.args.at.exits) c.args.target c.args.at.label) c.args.at.base) c.args.out.now in
    c.write_guarded.ensures ∙ sym (ap table (arm_is c.arm_at-shape.ensures c.in-Some.is))

pub guarded::write_arm-returns-in-None : goal.guarded::write_arm-returns-in-None
unfolding arms_code
guarded::write_arm-returns-in-None t c =
    let table : Arms → List ℤ = λ a. over (emit_items true (arms_code (called_in c.args.source.now.rows.now) c.args.source.now.store (first_only a) (exits_of c.args.at.exits) c.args.target c.args.at.label) c.args.at.base) c.args.out.now in
    nothing-wrote true c.args.at.base c.args.out.now ∙ sym (ap table (arm_is c.arm_at-shape.ensures c.in-None.is))

-- The arms at a link, one behind the other: the loop keeps `Progress`.

-- Rows are left, so arms are.
left-some : (rows : List ℤ) (arms arm : ℕ) {n size : ℕ} → arms_size (called_in rows) (arm_list_at rows arms) ≡ n + arms_size (called_in rows) (arm_list_at rows arm) → size ≡ arms_size (called_in rows) (arm_list_at rows arms) → n < size → 0 < arms_size (called_in rows) (arm_list_at rows arm)
left-some rows arms arm s e h = omega arith

pub guarded::write_arms-loop-n-init : goal.guarded::write_arms-loop-n-init
guarded::write_arms-loop-n-init t c =
    begin _ _ _ _ _ _ _ _ _ _ c.requires.1.inside

pub guarded::write_arms-write_arm-requires : goal.guarded::write_arms-write_arm-requires
guarded::write_arms-write_arm-requires t c =
    let some = left-some c.args.source.now.rows.now c.args.arms c.loop-n.arm c.loop-n.invariant.size_is c.arms_size-size.ensures c.loop-n-test.true in (
      omega (arith, c.decreases, c.loop-n.invariant.onward, above-some c.args.source.now.rows.now c.loop-n.arm (arms-some c.args.source.now.rows.now c.loop-n.arm some)),
      (
        c.requires.0,
        record {
          inside = c.loop-n.invariant.inside;
          room = room-behind c.loop-n.n _ c.loop-n.out c.requires.1.room c.loop-n.invariant.kept (omega (arith, c.loop-n.invariant.size_is, (arms-behind-size c.args.source.now.rows.now c.loop-n.arm c.number_at-next.result c.requires.0.measured.source c.loop-n.invariant.inside some c.number_at-next.ensures)));
          labels_low = omega (arith, c.loop-n.invariant.labels_are, c.requires.1.labels_low, (arms-behind-labels c.args.source.now.rows.now c.loop-n.arm c.number_at-next.result c.requires.0.measured.source c.loop-n.invariant.inside some c.number_at-next.ensures));
          target_low = c.requires.1.target_low;
          exits_low = c.requires.1.exits_low;
        },
      ),
    )

pub guarded::write_arms-arms_size-requires : goal.guarded::write_arms-arms_size-requires
guarded::write_arms-arms_size-requires t c =
    let some = left-some c.args.source.now.rows.now c.args.arms c.loop-n.arm c.loop-n.invariant.size_is c.arms_size-size.ensures c.loop-n-test.true in
    (c.requires.0.measured, (arms-behind-inside c.args.source.now.rows.now c.loop-n.arm c.number_at-next.result c.requires.0.measured.source c.loop-n.invariant.inside some c.number_at-next.ensures), omega (arith, (arms-behind-size c.args.source.now.rows.now c.loop-n.arm c.number_at-next.result c.requires.0.measured.source c.loop-n.invariant.inside some c.number_at-next.ensures), c.loop-n.invariant.size_is, c.requires.1.room.low))

pub guarded::write_arms-overflow_sub-n : goal.guarded::write_arms-overflow_sub-n
guarded::write_arms-overflow_sub-n t c =
    let size = arms-behind-size c.args.source.now.rows.now c.loop-n.arm c.number_at-next.result c.requires.0.measured.source c.loop-n.invariant.inside (left-some c.args.source.now.rows.now c.args.arms c.loop-n.arm c.loop-n.invariant.size_is c.arms_size-size.ensures c.loop-n-test.true) c.number_at-next.ensures in
    omega (arith, size, c.loop-n.invariant.size_is, c.arms_size-size.ensures, c.arms_size.ensures)

pub guarded::write_arms-arms_labels-requires-in-loop-n : goal.guarded::write_arms-arms_labels-requires-in-loop-n
guarded::write_arms-arms_labels-requires-in-loop-n t c =
    let some = left-some c.args.source.now.rows.now c.args.arms c.loop-n.arm c.loop-n.invariant.size_is c.arms_size-size.ensures c.loop-n-test.true in
    (c.requires.0.measured, (arms-behind-inside c.args.source.now.rows.now c.loop-n.arm c.number_at-next.result c.requires.0.measured.source c.loop-n.invariant.inside some c.number_at-next.ensures), omega (arith, (arms-behind-labels c.args.source.now.rows.now c.loop-n.arm c.number_at-next.result c.requires.0.measured.source c.loop-n.invariant.inside some c.number_at-next.ensures), c.loop-n.invariant.labels_are, c.requires.1.labels_low))

pub guarded::write_arms-overflow_sub-from : goal.guarded::write_arms-overflow_sub-from
guarded::write_arms-overflow_sub-from t c =
    let marks = arms-behind-labels c.args.source.now.rows.now c.loop-n.arm c.number_at-next.result c.requires.0.measured.source c.loop-n.invariant.inside (left-some c.args.source.now.rows.now c.args.arms c.loop-n.arm c.loop-n.invariant.size_is c.arms_size-size.ensures c.loop-n-test.true) c.number_at-next.ensures in
    omega (arith, marks, c.loop-n.invariant.labels_are, c.arms_labels.ensures, c.arms_labels-in-loop-n.ensures)

pub guarded::write_arms-loop-n-smaller : goal.guarded::write_arms-loop-n-smaller
guarded::write_arms-loop-n-smaller t c =
    behind-less c.args.source.now.rows.now c.loop-n.arm c.number_at-next.result c.requires.0.measured.source c.loop-n.invariant.inside (left-some c.args.source.now.rows.now c.args.arms c.loop-n.arm c.loop-n.invariant.size_is c.arms_size-size.ensures c.loop-n-test.true) c.number_at-next.ensures

pub guarded::write_arms-loop-n-preserved : goal.guarded::write_arms-loop-n-preserved
guarded::write_arms-loop-n-preserved t c =
    let some = left-some c.args.source.now.rows.now c.args.arms c.loop-n.arm c.loop-n.invariant.size_is c.arms_size-size.ensures c.loop-n-test.true in
    arms_step c.args.source.now.store (exits_of c.args.at.exits) c.args.target c.args.source.now.rows.now c.args.arms c.args.at.label c.args.at.base c.args.out.now c.requires.0.measured.source some c.loop-n.invariant c.number_at-next.result (c.args.at.label + c.arms_labels.result - c.arms_labels-in-loop-n.result) (c.arms_size-size.result - c.arms_size.result) _
    c.number_at-next.ensures
    (omega (arith, (arms-behind-labels c.args.source.now.rows.now c.loop-n.arm c.number_at-next.result c.requires.0.measured.source c.loop-n.invariant.inside some c.number_at-next.ensures), c.loop-n.invariant.labels_are, c.arms_labels.ensures, c.arms_labels-in-loop-n.ensures))
    (omega (arith, (arms-behind-size c.args.source.now.rows.now c.loop-n.arm c.number_at-next.result c.requires.0.measured.source c.loop-n.invariant.inside some c.number_at-next.ensures), c.loop-n.invariant.size_is, c.arms_size-size.ensures, c.arms_size.ensures))
    c.write_arm.ensures c.write_arm.auto.out

pub guarded::write_arms-returns : goal.guarded::write_arms-returns
guarded::write_arms-returns t c =
    finish _ _ _ _ _ _ _ _ _ _ c.loop-n.invariant
    (no-arms (called_in c.args.source.now.rows.now) c.args.source.now.store (arm_list_at c.args.source.now.rows.now c.loop-n.arm) (exits_of c.args.at.exits) c.args.target c.loop-n.from (omega (arith, c.loop-n.invariant.size_is, c.arms_size-size.ensures, c.loop-n-test.false)))

-- A block: its row, and then the list.

pub blocks::write_block-put_block-requires : goal.blocks::write_block-put_block-requires
blocks::write_block-put_block-requires t c = (
  omega (arith, c.requires.1.room.inside),
  omega (arith, c.behind.ensures, pick-most c.more.result (c.args.at.base + 1), c.requires.1.room.low),
  omega (arith, c.behind-2.ensures, pick-most c.args.follows (c.args.at.base + 1 + c.list_size-n.result), c.list_size-n.ensures, c.requires.1.room.low),
)

pub blocks::write_block-write_list-requires : goal.blocks::write_block-write_list-requires
blocks::write_block-write_list-requires t c = (
  omega (arith, c.decreases),
  (
    c.requires.0,
    record { inside = c.requires.1.inside; room = room-behind 1 _ c.put_block.new.out c.requires.1.room c.put_block.auto.out (omega arith); labels_low = c.requires.1.labels_low; exits_low = c.requires.1.exits_low },
  ),
)

pub blocks::write_block-shape_of-out : goal.blocks::write_block-shape_of-out
blocks::write_block-shape_of-out t c =
    back-length 1 c.put_block.new.out c.write_list.new.out c.write_list.auto.out ∙ c.put_block.auto.out

pub blocks::write_block-returns : goal.blocks::write_block-returns
blocks::write_block-returns t c =
    block-done (called_in c.args.source.now.rows.now) c.args.source.now.store (list_at c.args.source.now.rows.now c.args.list) (exits_of c.args.at.exits) c.args.at.label c.args.at.base c.args.follows c.args.out.now
    c.list_size-n.ensures c.more.ensures c.behind.ensures c.behind-2.ensures c.put_block.ensures c.write_list.ensures

-- A branch or body: its block's row, and then the statement, if there is one.

pub statements::write_body-returns-then-row-eq0 : goal.statements::write_body-returns-then-row-eq0
statements::write_body-returns-then-row-eq0 t c =
    body-none c.args.source.now.store c.args.source.now.rows.now c.args.row (exits_of c.args.at.exits) c.args.at.label c.args.at.base c.args.out.now c.if-row-eq0.true c.put_block.ensures

pub statements::write_body-write_statement-requires : goal.statements::write_body-write_statement-requires
statements::write_body-write_statement-requires t c = (
  omega (arith, c.decreases, above-some c.args.source.now.rows.now c.args.row (omega (arith, c.if-row-eq0.false))),
  (
    c.requires.0,
    record {
      inside = c.requires.1.inside;
      room = room-behind 1 _ c.put_block-2.new.out c.requires.1.room c.put_block-2.auto.out (omega (arith, (body-some c.args.source.now.rows.now c.args.row (omega (arith, c.if-row-eq0.false)))));
      labels_low = omega (arith, c.requires.1.labels_low, body-labels c.args.source.now.rows.now c.args.row (omega (arith, c.if-row-eq0.false)));
      exits_low = c.requires.1.exits_low;
    },
  ),
)

pub statements::write_body-shape_of-out : goal.statements::write_body-shape_of-out
statements::write_body-shape_of-out t c =
    back-length 1 c.put_block-2.new.out c.write_statement.new.out c.write_statement.auto.out ∙ c.put_block-2.auto.out

pub statements::write_body-returns : goal.statements::write_body-returns
statements::write_body-returns t c =
    body-done c.args.source.now.store c.args.source.now.rows.now c.args.row (exits_of c.args.at.exits) c.args.at.label c.args.at.base c.args.out.now c.if-row-eq0.false c.put_block-2.ensures c.write_statement.ensures

-- A guarded if: its arms, and what stands behind them.

pub guarded::write_choice-write_arms-requires : goal.guarded::write_choice-write_arms-requires
guarded::write_choice-write_arms-requires t c = (
  omega (arith, c.decreases),
  (
    c.requires.0,
    record {
      inside = c.requires.1.inside;
      room = room-less _ c.requires.1.room (omega arith);
      labels_low = omega (arith, c.requires.1.labels_low);
      target_low = omega (arith, c.requires.1.labels_low);
      exits_low = c.requires.1.exits_low;
    },
  ),
)

pub guarded::write_choice-put_choice_end-requires : goal.guarded::write_choice-put_choice_end-requires
guarded::write_choice-put_choice_end-requires t c =
    (room-behind c.arms_size-n.result 2 c.write_arms.new.out c.requires.1.room c.write_arms.auto.out (omega (arith, c.arms_size-n.ensures)), omega (arith, c.requires.1.labels_low))

pub guarded::write_choice-shape_of-out : goal.guarded::write_choice-shape_of-out
guarded::write_choice-shape_of-out t c =
    (back-length c.arms_size-n.result c.write_arms.new.out c.put_choice_end.new.out c.put_choice_end.auto.out) ∙ c.write_arms.auto.out

pub guarded::write_choice-returns : goal.guarded::write_choice-returns
guarded::write_choice-returns t c =
    choice-done (called_in c.args.source.now.rows.now) c.args.source.now.store (arm_list_at c.args.source.now.rows.now c.args.arms) (exits_of c.args.at.exits) c.args.at.label c.args.at.base c.args.follows c.args.out.now c.arms_size-n.ensures c.write_arms.ensures c.put_choice_end.ensures

-- An arm by its links: its guard, its head, its body, its end.

pub guarded::write_guarded-operand_size-k-requires : goal.guarded::write_guarded-operand_size-k-requires
guarded::write_guarded-operand_size-k-requires t c =
    (c.requires.0.measured, c.requires.1.guard_inside, omega (arith, (part-size wanted c.args.source.now.rows.now c.args.guard c.requires.1.guard_some), c.requires.1.room.low))

pub guarded::write_guarded-overflow_add-n : goal.guarded::write_guarded-overflow_add-n
guarded::write_guarded-overflow_add-n t c =
    omega (arith, c.requires.1.room.low, (part-size wanted c.args.source.now.rows.now c.args.guard c.requires.1.guard_some), c.operand_size-k.ensures)

pub guarded::write_guarded-overflow_add-m : goal.guarded::write_guarded-overflow_add-m
guarded::write_guarded-overflow_add-m t c =
    omega (arith, c.requires.1.room.low, (part-size wanted c.args.source.now.rows.now c.args.guard c.requires.1.guard_some), c.operand_size-k.ensures, c.statement_size-size.ensures)

pub guarded::write_guarded-write_expression-requires : goal.guarded::write_guarded-write_expression-requires
guarded::write_guarded-write_expression-requires t c =
    (c.requires.0, record { inside = c.requires.1.guard_inside; level_low = omega (arith, part_low c.requires.0 c.args.guard c.requires.1.guard_inside wanted); use_fits = tt; room = room-less _ c.requires.1.room (omega (arith, (part-size wanted c.args.source.now.rows.now c.args.guard c.requires.1.guard_some))) })

pub guarded::write_guarded-overflow_add-at : goal.guarded::write_guarded-overflow_add-at
guarded::write_guarded-overflow_add-at t c =
    omega (arith, c.requires.1.room.low, (part-size wanted c.args.source.now.rows.now c.args.guard c.requires.1.guard_some), c.operand_size-k.ensures, c.statement_size-size.ensures)

pub guarded::write_guarded-overflow_mul-k : goal.guarded::write_guarded-overflow_mul-k
guarded::write_guarded-overflow_mul-k t c =
    omega (arith, c.requires.1.room.low, (part-size wanted c.args.source.now.rows.now c.args.guard c.requires.1.guard_some), c.operand_size-k.ensures, c.statement_size-size.ensures)

pub guarded::write_guarded-offset_bounds-out-k : goal.guarded::write_guarded-offset_bounds-out-k
guarded::write_guarded-offset_bounds-out-k t c =
    omega (arith, c.requires.1.room.low, (part-size wanted c.args.source.now.rows.now c.args.guard c.requires.1.guard_some), c.operand_size-k.ensures, c.statement_size-size.ensures)

pub guarded::write_guarded-slice_bounds-put_arm_head-count : goal.guarded::write_guarded-slice_bounds-put_arm_head-count
guarded::write_guarded-slice_bounds-put_arm_head-count t c =
    omega (arith, c.requires.1.room.inside, (part-size wanted c.args.source.now.rows.now c.args.guard c.requires.1.guard_some), c.operand_size-k.ensures, c.statement_size-size.ensures, c.write_expression.auto.out)

pub guarded::write_guarded-slice_bounds-put_arm_head-start : goal.guarded::write_guarded-slice_bounds-put_arm_head-start
guarded::write_guarded-slice_bounds-put_arm_head-start t c =
    omega (arith, c.requires.1.room.inside, (part-size wanted c.args.source.now.rows.now c.args.guard c.requires.1.guard_some), c.operand_size-k.ensures, c.statement_size-size.ensures, c.write_expression.auto.out)

pub guarded::write_guarded-put_arm_head-requires : goal.guarded::write_guarded-put_arm_head-requires
guarded::write_guarded-put_arm_head-requires t c =
    (room-behind c.operand_size-k.result 3 c.write_expression.new.out c.requires.1.room c.write_expression.auto.out (omega (arith, (part-size wanted c.args.source.now.rows.now c.args.guard c.requires.1.guard_some), c.operand_size-k.ensures, c.statement_size-size.ensures)), omega (arith, c.requires.1.room.low, c.statement_size-size.ensures), c.atom_at-atom.ensures.fits)

pub guarded::write_guarded-overflow_add-at-2 : goal.guarded::write_guarded-overflow_add-at-2
guarded::write_guarded-overflow_add-at-2 t c =
    omega (arith, c.requires.1.room.low, (part-size wanted c.args.source.now.rows.now c.args.guard c.requires.1.guard_some), c.operand_size-k.ensures, c.statement_size-size.ensures)

pub guarded::write_guarded-overflow_mul-n : goal.guarded::write_guarded-overflow_mul-n
guarded::write_guarded-overflow_mul-n t c =
    omega (arith, c.requires.1.room.low, (part-size wanted c.args.source.now.rows.now c.args.guard c.requires.1.guard_some), c.operand_size-k.ensures, c.statement_size-size.ensures)

pub guarded::write_guarded-offset_bounds-out-n : goal.guarded::write_guarded-offset_bounds-out-n
guarded::write_guarded-offset_bounds-out-n t c =
    omega (arith, c.requires.1.room.low, (part-size wanted c.args.source.now.rows.now c.args.guard c.requires.1.guard_some), c.operand_size-k.ensures, c.statement_size-size.ensures)

pub guarded::write_guarded-slice_bounds-write_statement-count : goal.guarded::write_guarded-slice_bounds-write_statement-count
guarded::write_guarded-slice_bounds-write_statement-count t c =
    omega (arith, c.requires.1.room.inside, (part-size wanted c.args.source.now.rows.now c.args.guard c.requires.1.guard_some), c.operand_size-k.ensures, c.statement_size-size.ensures, c.write_expression.auto.out, (back-length c.operand_size-k.result c.write_expression.new.out c.put_arm_head.new.out c.put_arm_head.auto.out))

pub guarded::write_guarded-slice_bounds-write_statement-start : goal.guarded::write_guarded-slice_bounds-write_statement-start
guarded::write_guarded-slice_bounds-write_statement-start t c =
    omega (arith, c.requires.1.room.inside, (part-size wanted c.args.source.now.rows.now c.args.guard c.requires.1.guard_some), c.operand_size-k.ensures, c.statement_size-size.ensures, c.write_expression.auto.out, (back-length c.operand_size-k.result c.write_expression.new.out c.put_arm_head.new.out c.put_arm_head.auto.out))

pub guarded::write_guarded-write_statement-requires : goal.guarded::write_guarded-write_statement-requires
guarded::write_guarded-write_statement-requires t c = (
  omega (arith, c.decreases),
  (
    c.requires.0,
    record {
      inside = c.requires.1.body_inside;
      room = room-behind (c.operand_size-k.result + 3) _ (back_in c.operand_size-k.result c.write_expression.new.out c.put_arm_head.new.out) c.requires.1.room ((back-length c.operand_size-k.result c.write_expression.new.out c.put_arm_head.new.out c.put_arm_head.auto.out) ∙ c.write_expression.auto.out) (omega (arith, (part-size wanted c.args.source.now.rows.now c.args.guard c.requires.1.guard_some), c.operand_size-k.ensures, c.statement_size-size.ensures));
      labels_low = c.requires.1.labels_low;
      exits_low = c.requires.1.exits_low;
    },
  ),
)

pub guarded::write_guarded-overflow_mul-m : goal.guarded::write_guarded-overflow_mul-m
guarded::write_guarded-overflow_mul-m t c =
    omega (arith, c.requires.1.room.low, (part-size wanted c.args.source.now.rows.now c.args.guard c.requires.1.guard_some), c.operand_size-k.ensures, c.statement_size-size.ensures)

pub guarded::write_guarded-offset_bounds-out-m : goal.guarded::write_guarded-offset_bounds-out-m
guarded::write_guarded-offset_bounds-out-m t c =
    omega (arith, c.requires.1.room.low, (part-size wanted c.args.source.now.rows.now c.args.guard c.requires.1.guard_some), c.operand_size-k.ensures, c.statement_size-size.ensures)

pub guarded::write_guarded-slice_bounds-put_arm_end-count : goal.guarded::write_guarded-slice_bounds-put_arm_end-count
guarded::write_guarded-slice_bounds-put_arm_end-count t c =
    omega (arith, c.requires.1.room.inside, (part-size wanted c.args.source.now.rows.now c.args.guard c.requires.1.guard_some), c.operand_size-k.ensures, c.statement_size-size.ensures, c.write_expression.auto.out, (back-length c.operand_size-k.result c.write_expression.new.out c.put_arm_head.new.out c.put_arm_head.auto.out), (back-length (c.operand_size-k.result + 3) (back_in c.operand_size-k.result c.write_expression.new.out c.put_arm_head.new.out) c.write_statement.new.out c.write_statement.auto.out))

pub guarded::write_guarded-slice_bounds-put_arm_end-start : goal.guarded::write_guarded-slice_bounds-put_arm_end-start
guarded::write_guarded-slice_bounds-put_arm_end-start t c =
    omega (arith, c.requires.1.room.inside, (part-size wanted c.args.source.now.rows.now c.args.guard c.requires.1.guard_some), c.operand_size-k.ensures, c.statement_size-size.ensures, c.write_expression.auto.out, (back-length c.operand_size-k.result c.write_expression.new.out c.put_arm_head.new.out c.put_arm_head.auto.out), (back-length (c.operand_size-k.result + 3) (back_in c.operand_size-k.result c.write_expression.new.out c.put_arm_head.new.out) c.write_statement.new.out c.write_statement.auto.out))

pub guarded::write_guarded-put_arm_end-requires : goal.guarded::write_guarded-put_arm_end-requires
guarded::write_guarded-put_arm_end-requires t c =
    let body-at = c.operand_size-k.result + 3 in
    let head-table = back_in c.operand_size-k.result c.write_expression.new.out c.put_arm_head.new.out in
    let room = room-behind (c.operand_size-k.result + 3 + c.statement_size-size.result) 2 (back_in body-at head-table c.write_statement.new.out) c.requires.1.room ((back-length body-at head-table c.write_statement.new.out c.write_statement.auto.out) ∙ (back-length c.operand_size-k.result c.write_expression.new.out c.put_arm_head.new.out c.put_arm_head.auto.out) ∙ c.write_expression.auto.out) (omega (arith, (part-size wanted c.args.source.now.rows.now c.args.guard c.requires.1.guard_some), c.operand_size-k.ensures, c.statement_size-size.ensures)) in
    (omega (arith, room.inside), omega (arith, c.requires.1.target_low, c.requires.1.labels_low))

pub guarded::write_guarded-shape_of-out : goal.guarded::write_guarded-shape_of-out
guarded::write_guarded-shape_of-out t c =
    let body-at = c.operand_size-k.result + 3 in
    let head-table = back_in c.operand_size-k.result c.write_expression.new.out c.put_arm_head.new.out in
    (back-length (c.operand_size-k.result + 3 + c.statement_size-size.result) (back_in body-at head-table c.write_statement.new.out) c.put_arm_end.new.out c.put_arm_end.auto.out) ∙ (back-length body-at head-table c.write_statement.new.out c.write_statement.auto.out) ∙ (back-length c.operand_size-k.result c.write_expression.new.out c.put_arm_head.new.out c.put_arm_head.auto.out) ∙ c.write_expression.auto.out

pub guarded::write_guarded-returns : goal.guarded::write_guarded-returns
guarded::write_guarded-returns t c =
    arm_done c.args.source.now.store c.args.source.now.rows.now c.args.guard (statement_at c.args.source.now.rows.now c.args.body) (exits_of c.args.at.exits) c.args.target c.args.at.label c.args.at.base c.args.out.now c.requires.1.guard_some c.atom_at-atom.ensures
    c.operand_size-k.ensures c.statement_size-size.ensures c.write_expression.ensures c.put_arm_head.ensures c.write_statement.ensures c.put_arm_end.ensures

-- An if: its test, its head, and the two blocks.

pub statements::write_if-operand_size-k-requires : goal.statements::write_if-operand_size-k-requires
statements::write_if-operand_size-k-requires t c =
    (c.requires.0.measured, c.requires.1.test_inside, omega (arith, (part-size wanted c.args.source.now.rows.now c.args.test c.requires.1.test_some), c.requires.1.room.low))

pub statements::write_if-overflow_add-n : goal.statements::write_if-overflow_add-n
statements::write_if-overflow_add-n t c =
    omega (arith, c.requires.1.room.low, c.requires.1.labels_low, (part-size wanted c.args.source.now.rows.now c.args.test c.requires.1.test_some), c.operand_size-k.ensures)

pub statements::write_if-overflow_add-m : goal.statements::write_if-overflow_add-m
statements::write_if-overflow_add-m t c =
    omega (arith, c.requires.1.room.low, c.requires.1.labels_low, (part-size wanted c.args.source.now.rows.now c.args.test c.requires.1.test_some), c.operand_size-k.ensures)

pub statements::write_if-overflow_add-m-2 : goal.statements::write_if-overflow_add-m-2
statements::write_if-overflow_add-m-2 t c =
    omega (arith, c.requires.1.room.low, c.requires.1.labels_low, (part-size wanted c.args.source.now.rows.now c.args.test c.requires.1.test_some), c.operand_size-k.ensures, c.statement_size.ensures)

pub statements::write_if-overflow_add-end : goal.statements::write_if-overflow_add-end
statements::write_if-overflow_add-end t c =
    omega (arith, c.requires.1.room.low, c.requires.1.labels_low, (part-size wanted c.args.source.now.rows.now c.args.test c.requires.1.test_some), c.operand_size-k.ensures, c.statement_size.ensures)

pub statements::write_if-overflow_add-end-2 : goal.statements::write_if-overflow_add-end-2
statements::write_if-overflow_add-end-2 t c =
    omega (arith, c.requires.1.room.low, c.requires.1.labels_low, (part-size wanted c.args.source.now.rows.now c.args.test c.requires.1.test_some), c.operand_size-k.ensures, c.statement_size.ensures, c.body_size.ensures)

pub statements::write_if-overflow_add-other : goal.statements::write_if-overflow_add-other
statements::write_if-overflow_add-other t c =
    omega (arith, c.requires.1.room.low, c.requires.1.labels_low, (part-size wanted c.args.source.now.rows.now c.args.test c.requires.1.test_some), c.operand_size-k.ensures, c.statement_size.ensures, c.body_size.ensures, c.statement_labels.ensures)

pub statements::write_if-write_expression-requires : goal.statements::write_if-write_expression-requires
statements::write_if-write_expression-requires t c =
    (c.requires.0, record { inside = c.requires.1.test_inside; level_low = omega (arith, part_low c.requires.0 c.args.test c.requires.1.test_inside wanted); use_fits = tt; room = room-less _ c.requires.1.room (omega (arith, (part-size wanted c.args.source.now.rows.now c.args.test c.requires.1.test_some))) })

pub statements::write_if-overflow_add-at : goal.statements::write_if-overflow_add-at
statements::write_if-overflow_add-at t c =
    omega (arith, c.requires.1.room.low, c.requires.1.labels_low, (part-size wanted c.args.source.now.rows.now c.args.test c.requires.1.test_some), c.operand_size-k.ensures, c.statement_size.ensures, c.body_size.ensures, c.statement_labels.ensures)

pub statements::write_if-overflow_add-at-2 : goal.statements::write_if-overflow_add-at-2
statements::write_if-overflow_add-at-2 t c =
    omega (arith, c.requires.1.room.low, c.requires.1.labels_low, (part-size wanted c.args.source.now.rows.now c.args.test c.requires.1.test_some), c.operand_size-k.ensures, c.statement_size.ensures, c.body_size.ensures, c.statement_labels.ensures)

pub statements::write_if-overflow_add-at-3 : goal.statements::write_if-overflow_add-at-3
statements::write_if-overflow_add-at-3 t c =
    omega (arith, c.requires.1.room.low, c.requires.1.labels_low, (part-size wanted c.args.source.now.rows.now c.args.test c.requires.1.test_some), c.operand_size-k.ensures, c.statement_size.ensures, c.body_size.ensures, c.statement_labels.ensures)

pub statements::write_if-overflow_mul-k : goal.statements::write_if-overflow_mul-k
statements::write_if-overflow_mul-k t c =
    omega (arith, c.requires.1.room.inside, (part-size wanted c.args.source.now.rows.now c.args.test c.requires.1.test_some), c.operand_size-k.ensures, c.statement_size.ensures, c.body_size.ensures, c.write_expression.auto.out, c.requires.1.room.low)

pub statements::write_if-offset_bounds-out-k : goal.statements::write_if-offset_bounds-out-k
statements::write_if-offset_bounds-out-k t c =
    omega (arith, c.requires.1.room.inside, (part-size wanted c.args.source.now.rows.now c.args.test c.requires.1.test_some), c.operand_size-k.ensures, c.statement_size.ensures, c.body_size.ensures, c.write_expression.auto.out, c.requires.1.room.low)

pub statements::write_if-slice_bounds-put_if-count : goal.statements::write_if-slice_bounds-put_if-count
statements::write_if-slice_bounds-put_if-count t c =
    omega (arith, c.requires.1.room.inside, (part-size wanted c.args.source.now.rows.now c.args.test c.requires.1.test_some), c.operand_size-k.ensures, c.statement_size.ensures, c.body_size.ensures, c.write_expression.auto.out, c.requires.1.room.low)

pub statements::write_if-slice_bounds-put_if-start : goal.statements::write_if-slice_bounds-put_if-start
statements::write_if-slice_bounds-put_if-start t c =
    omega (arith, c.requires.1.room.inside, (part-size wanted c.args.source.now.rows.now c.args.test c.requires.1.test_some), c.operand_size-k.ensures, c.statement_size.ensures, c.body_size.ensures, c.write_expression.auto.out, c.requires.1.room.low)

pub statements::write_if-put_if-requires : goal.statements::write_if-put_if-requires
statements::write_if-put_if-requires t c =
    let test-size = part-size wanted c.args.source.now.rows.now c.args.test c.requires.1.test_some in (
      room-behind c.operand_size-k.result 2 c.write_expression.new.out c.requires.1.room c.write_expression.auto.out (omega (arith, test-size, c.operand_size-k.ensures)),
      omega (arith, c.requires.1.room.low, test-size, c.operand_size-k.ensures, c.statement_size.ensures),
      omega (arith, c.behind.ensures, pick-most c.args.follows (c.args.at.base + ((c.operand_size-k.result + 2 + 1 + c.statement_size.result) + 1 + c.body_size.result)), c.requires.1.room.low, test-size, c.operand_size-k.ensures, c.statement_size.ensures, c.body_size.ensures),
      c.atom_at-atom.ensures.fits,
    )

pub statements::write_if-overflow_add-at-4 : goal.statements::write_if-overflow_add-at-4
statements::write_if-overflow_add-at-4 t c =
    omega (arith, c.requires.1.room.inside, (part-size wanted c.args.source.now.rows.now c.args.test c.requires.1.test_some), c.operand_size-k.ensures, c.statement_size.ensures, c.body_size.ensures, c.write_expression.auto.out, (back-length c.operand_size-k.result c.write_expression.new.out c.put_if.new.out c.put_if.auto.out), c.requires.1.room.low)

pub statements::write_if-overflow_mul-n : goal.statements::write_if-overflow_mul-n
statements::write_if-overflow_mul-n t c =
    omega (arith, c.requires.1.room.inside, (part-size wanted c.args.source.now.rows.now c.args.test c.requires.1.test_some), c.operand_size-k.ensures, c.statement_size.ensures, c.body_size.ensures, c.write_expression.auto.out, (back-length c.operand_size-k.result c.write_expression.new.out c.put_if.new.out c.put_if.auto.out), c.requires.1.room.low)

pub statements::write_if-offset_bounds-out-n : goal.statements::write_if-offset_bounds-out-n
statements::write_if-offset_bounds-out-n t c =
    omega (arith, c.requires.1.room.inside, (part-size wanted c.args.source.now.rows.now c.args.test c.requires.1.test_some), c.operand_size-k.ensures, c.statement_size.ensures, c.body_size.ensures, c.write_expression.auto.out, (back-length c.operand_size-k.result c.write_expression.new.out c.put_if.new.out c.put_if.auto.out), c.requires.1.room.low)

pub statements::write_if-slice_bounds-write_body-count : goal.statements::write_if-slice_bounds-write_body-count
statements::write_if-slice_bounds-write_body-count t c =
    omega (arith, c.requires.1.room.inside, (part-size wanted c.args.source.now.rows.now c.args.test c.requires.1.test_some), c.operand_size-k.ensures, c.statement_size.ensures, c.body_size.ensures, c.write_expression.auto.out, (back-length c.operand_size-k.result c.write_expression.new.out c.put_if.new.out c.put_if.auto.out), c.requires.1.room.low)

pub statements::write_if-slice_bounds-write_body-start : goal.statements::write_if-slice_bounds-write_body-start
statements::write_if-slice_bounds-write_body-start t c =
    omega (arith, c.requires.1.room.inside, (part-size wanted c.args.source.now.rows.now c.args.test c.requires.1.test_some), c.operand_size-k.ensures, c.statement_size.ensures, c.body_size.ensures, c.write_expression.auto.out, (back-length c.operand_size-k.result c.write_expression.new.out c.put_if.new.out c.put_if.auto.out), c.requires.1.room.low)

pub statements::write_if-write_body-requires : goal.statements::write_if-write_body-requires
statements::write_if-write_body-requires t c = (
  omega (arith, c.decreases),
  (
    c.requires.0,
    record {
      inside = c.requires.1.true_inside;
      room = room-behind (c.operand_size-k.result + 2) _ (back_in c.operand_size-k.result c.write_expression.new.out c.put_if.new.out) c.requires.1.room ((back-length c.operand_size-k.result c.write_expression.new.out c.put_if.new.out c.put_if.auto.out) ∙ c.write_expression.auto.out) (omega (arith, (body-some c.args.source.now.rows.now c.args.yes c.requires.1.true_some), (part-size wanted c.args.source.now.rows.now c.args.test c.requires.1.test_some), c.operand_size-k.ensures));
      labels_low = omega (arith, c.requires.1.labels_low, body-labels c.args.source.now.rows.now c.args.yes c.requires.1.true_some);
      exits_low = c.requires.1.exits_low;
    },
  ),
)

pub statements::write_if-overflow_add-at-5 : goal.statements::write_if-overflow_add-at-5
statements::write_if-overflow_add-at-5 t c =
    omega (arith, c.requires.1.room.inside, (part-size wanted c.args.source.now.rows.now c.args.test c.requires.1.test_some), c.operand_size-k.ensures, c.statement_size.ensures, c.body_size.ensures, c.write_expression.auto.out, (back-length c.operand_size-k.result c.write_expression.new.out c.put_if.new.out c.put_if.auto.out), (back-length (c.operand_size-k.result + 2) (back_in c.operand_size-k.result c.write_expression.new.out c.put_if.new.out) c.write_body.new.out c.write_body.auto.out), c.requires.1.room.low)

pub statements::write_if-overflow_mul-m : goal.statements::write_if-overflow_mul-m
statements::write_if-overflow_mul-m t c =
    omega (arith, c.requires.1.room.inside, (part-size wanted c.args.source.now.rows.now c.args.test c.requires.1.test_some), c.operand_size-k.ensures, c.statement_size.ensures, c.body_size.ensures, c.write_expression.auto.out, (back-length c.operand_size-k.result c.write_expression.new.out c.put_if.new.out c.put_if.auto.out), (back-length (c.operand_size-k.result + 2) (back_in c.operand_size-k.result c.write_expression.new.out c.put_if.new.out) c.write_body.new.out c.write_body.auto.out), c.requires.1.room.low)

pub statements::write_if-offset_bounds-out-m : goal.statements::write_if-offset_bounds-out-m
statements::write_if-offset_bounds-out-m t c =
    omega (arith, c.requires.1.room.inside, (part-size wanted c.args.source.now.rows.now c.args.test c.requires.1.test_some), c.operand_size-k.ensures, c.statement_size.ensures, c.body_size.ensures, c.write_expression.auto.out, (back-length c.operand_size-k.result c.write_expression.new.out c.put_if.new.out c.put_if.auto.out), (back-length (c.operand_size-k.result + 2) (back_in c.operand_size-k.result c.write_expression.new.out c.put_if.new.out) c.write_body.new.out c.write_body.auto.out), c.requires.1.room.low)

pub statements::write_if-slice_bounds-write_body-count-2 : goal.statements::write_if-slice_bounds-write_body-count-2
statements::write_if-slice_bounds-write_body-count-2 t c =
    omega (arith, c.requires.1.room.inside, (part-size wanted c.args.source.now.rows.now c.args.test c.requires.1.test_some), c.operand_size-k.ensures, c.statement_size.ensures, c.body_size.ensures, c.write_expression.auto.out, (back-length c.operand_size-k.result c.write_expression.new.out c.put_if.new.out c.put_if.auto.out), (back-length (c.operand_size-k.result + 2) (back_in c.operand_size-k.result c.write_expression.new.out c.put_if.new.out) c.write_body.new.out c.write_body.auto.out), c.requires.1.room.low)

pub statements::write_if-slice_bounds-write_body-start-2 : goal.statements::write_if-slice_bounds-write_body-start-2
statements::write_if-slice_bounds-write_body-start-2 t c =
    omega (arith, c.requires.1.room.inside, (part-size wanted c.args.source.now.rows.now c.args.test c.requires.1.test_some), c.operand_size-k.ensures, c.statement_size.ensures, c.body_size.ensures, c.write_expression.auto.out, (back-length c.operand_size-k.result c.write_expression.new.out c.put_if.new.out c.put_if.auto.out), (back-length (c.operand_size-k.result + 2) (back_in c.operand_size-k.result c.write_expression.new.out c.put_if.new.out) c.write_body.new.out c.write_body.auto.out), c.requires.1.room.low)

pub statements::write_if-write_body-requires-2 : goal.statements::write_if-write_body-requires-2
statements::write_if-write_body-requires-2 t c =
    let yes-at = c.operand_size-k.result + 2 in
    let head-table = back_in c.operand_size-k.result c.write_expression.new.out c.put_if.new.out in (
      omega (arith, c.decreases),
      (
        c.requires.0,
        record {
          inside = c.requires.1.false_inside;
          room = room-behind (c.operand_size-k.result + 2 + 1 + c.statement_size.result) _ (back_in yes-at head-table c.write_body.new.out) c.requires.1.room ((back-length yes-at head-table c.write_body.new.out c.write_body.auto.out) ∙ (back-length c.operand_size-k.result c.write_expression.new.out c.put_if.new.out c.put_if.auto.out) ∙ c.write_expression.auto.out) (omega (arith, (part-size wanted c.args.source.now.rows.now c.args.test c.requires.1.test_some), c.operand_size-k.ensures, c.statement_size.ensures));
          labels_low = omega (arith, c.requires.1.labels_low, c.statement_labels.ensures);
          exits_low = c.requires.1.exits_low;
        },
      ),
    )

pub statements::write_if-shape_of-out : goal.statements::write_if-shape_of-out
statements::write_if-shape_of-out t c =
    let yes-at = c.operand_size-k.result + 2 in
    let head-table = back_in c.operand_size-k.result c.write_expression.new.out c.put_if.new.out in
    (back-length (c.operand_size-k.result + 2 + 1 + c.statement_size.result) (back_in yes-at head-table c.write_body.new.out) c.write_body-2.new.out c.write_body-2.auto.out) ∙ (back-length yes-at head-table c.write_body.new.out c.write_body.auto.out) ∙ (back-length c.operand_size-k.result c.write_expression.new.out c.put_if.new.out c.put_if.auto.out) ∙ c.write_expression.auto.out

pub statements::write_if-returns : goal.statements::write_if-returns
statements::write_if-returns t c =
    if-done c.args.source.now.store c.args.source.now.rows.now c.args.test c.args.yes c.args.no (exits_of c.args.at.exits) c.args.at.label c.args.at.base c.args.follows c.args.out.now
    c.requires.1.test_some c.requires.1.true_some c.atom_at-atom.ensures c.operand_size-k.ensures c.statement_size.ensures c.body_size.ensures c.statement_labels.ensures
    c.behind.ensures c.write_expression.ensures c.put_if.ensures c.write_body.ensures c.write_body-2.ensures

-- An item: a statement, or a mark's label; nothing for a definition.

pub blocks::write_item-write_statement-requires : goal.blocks::write_item-write_statement-requires
blocks::write_item-write_statement-requires t c =
    let is1 = item_is c.item_at-item.ensures c.in-Statement.is in (
      omega (arith, c.decreases),
      (c.requires.0, record { inside = c.requires.1.inside; room = rw is1 at c.requires.1.room; labels_low = rw is1 at c.requires.1.labels_low; exits_low = c.requires.1.exits_low }),
    )

pub blocks::write_item-put_label-requires : goal.blocks::write_item-put_label-requires
blocks::write_item-put_label-requires t c =
    let is2 = item_is c.item_at-item.ensures c.in-Mark.is in
    (rw is2 at c.requires.1.room, omega (arith, (rw is2 at c.requires.1.labels_low)))

pub blocks::write_item-returns-in-Statement : goal.blocks::write_item-returns-in-Statement
blocks::write_item-returns-in-Statement t c =
    let table : Items → List ℤ = λ is. over (emit_items c.args.follows (item_code (called_in c.args.source.now.rows.now) c.args.source.now.store is (exits_of c.args.at.exits) c.args.at.label) c.args.at.base) c.args.out.now in
    c.write_statement.ensures ∙ sym (ap table (item_is c.item_at-item.ensures c.in-Statement.is))

pub blocks::write_item-returns-in-Mark : goal.blocks::write_item-returns-in-Mark
blocks::write_item-returns-in-Mark t c =
    let table : Items → List ℤ = λ is. over (emit_items c.args.follows (item_code (called_in c.args.source.now.rows.now) c.args.source.now.store is (exits_of c.args.at.exits) c.args.at.label) c.args.at.base) c.args.out.now in
    c.put_label.ensures ∙ sym (ap table (item_is c.item_at-item.ensures c.in-Mark.is))

pub blocks::write_item-returns-in-Definition : goal.blocks::write_item-returns-in-Definition
unfolding emit_items over
blocks::write_item-returns-in-Definition t c =
    let table : Items → List ℤ = λ is. over (emit_items c.args.follows (item_code (called_in c.args.source.now.rows.now) c.args.source.now.store is (exits_of c.args.at.exits) c.args.at.label) c.args.at.base) c.args.out.now in
    sym (ap table (item_is c.item_at-item.ensures c.in-Definition.is))

-- A list, item by item.

pub blocks::write_list-loop-item-init : goal.blocks::write_list-loop-item-init
blocks::write_list-loop-item-init t c =
    begin _ _ _ _ _ _ _ _ _ _ c.requires.1.inside

pub blocks::write_list-list_size-requires : goal.blocks::write_list-list_size-requires
blocks::write_list-list_size-requires t c = (
  c.requires.0.measured,
  behind-inside c.args.source.now.rows.now c.loop-item.item c.number_at-next.result c.requires.0.measured.source c.loop-item.invariant.inside c.loop-item-test.true c.number_at-next.ensures,
  omega (arith, (behind-size c.args.source.now.rows.now c.loop-item.item c.number_at-next.result c.requires.0.measured.source c.loop-item.invariant.inside c.loop-item-test.true c.number_at-next.ensures), c.loop-item.invariant.size_is, c.requires.1.room.low),
)

pub blocks::write_list-overflow_add-at : goal.blocks::write_list-overflow_add-at
blocks::write_list-overflow_add-at t c =
    omega (arith, c.requires.1.room.low, c.requires.1.labels_low, c.loop-item.invariant.size_is, c.loop-item.invariant.labels_are, (behind-size c.args.source.now.rows.now c.loop-item.item c.number_at-next.result c.requires.0.measured.source c.loop-item.invariant.inside c.loop-item-test.true c.number_at-next.ensures), (behind-labels c.args.source.now.rows.now c.loop-item.item c.number_at-next.result c.requires.0.measured.source c.loop-item.invariant.inside c.loop-item-test.true c.number_at-next.ensures))

pub blocks::write_list-overflow_mul-n : goal.blocks::write_list-overflow_mul-n
blocks::write_list-overflow_mul-n t c =
    omega (arith, c.requires.1.room.low, c.requires.1.labels_low, c.loop-item.invariant.size_is, c.loop-item.invariant.labels_are, (behind-size c.args.source.now.rows.now c.loop-item.item c.number_at-next.result c.requires.0.measured.source c.loop-item.invariant.inside c.loop-item-test.true c.number_at-next.ensures), (behind-labels c.args.source.now.rows.now c.loop-item.item c.number_at-next.result c.requires.0.measured.source c.loop-item.invariant.inside c.loop-item-test.true c.number_at-next.ensures))

pub blocks::write_list-offset_bounds-out-n : goal.blocks::write_list-offset_bounds-out-n
blocks::write_list-offset_bounds-out-n t c =
    omega (arith, c.requires.1.room.low, c.requires.1.labels_low, c.loop-item.invariant.size_is, c.loop-item.invariant.labels_are, (behind-size c.args.source.now.rows.now c.loop-item.item c.number_at-next.result c.requires.0.measured.source c.loop-item.invariant.inside c.loop-item-test.true c.number_at-next.ensures), (behind-labels c.args.source.now.rows.now c.loop-item.item c.number_at-next.result c.requires.0.measured.source c.loop-item.invariant.inside c.loop-item-test.true c.number_at-next.ensures))

pub blocks::write_list-slice_bounds-write_item-count : goal.blocks::write_list-slice_bounds-write_item-count
blocks::write_list-slice_bounds-write_item-count t c =
    omega (arith, c.requires.1.room.inside, c.loop-item.invariant.size_is, c.loop-item.invariant.kept, (behind-size c.args.source.now.rows.now c.loop-item.item c.number_at-next.result c.requires.0.measured.source c.loop-item.invariant.inside c.loop-item-test.true c.number_at-next.ensures))

pub blocks::write_list-slice_bounds-write_item-start : goal.blocks::write_list-slice_bounds-write_item-start
blocks::write_list-slice_bounds-write_item-start t c =
    omega (arith, c.requires.1.room.inside, c.loop-item.invariant.size_is, c.loop-item.invariant.kept, (behind-size c.args.source.now.rows.now c.loop-item.item c.number_at-next.result c.requires.0.measured.source c.loop-item.invariant.inside c.loop-item-test.true c.number_at-next.ensures))

pub blocks::write_list-write_item-requires : goal.blocks::write_list-write_item-requires
blocks::write_list-write_item-requires t c = (
  omega (arith, c.decreases, c.loop-item.invariant.onward, above-some c.args.source.now.rows.now c.loop-item.item (omega (arith, c.loop-item-test.true))),
  (
    c.requires.0,
    record {
      inside = c.loop-item.invariant.inside;
      room = room-item c.args.source.now.rows.now c.args.list c.loop-item.item c.loop-item.n (items_size (called_in c.args.source.now.rows.now)) c.loop-item.out c.requires.1.room c.loop-item.invariant.kept c.loop-item.invariant.size_is (omega (arith, (behind-size c.args.source.now.rows.now c.loop-item.item c.number_at-next.result c.requires.0.measured.source c.loop-item.invariant.inside c.loop-item-test.true c.number_at-next.ensures)));
      labels_low = omega (arith, c.loop-item.invariant.labels_are, c.requires.1.labels_low, (behind-labels c.args.source.now.rows.now c.loop-item.item c.number_at-next.result c.requires.0.measured.source c.loop-item.invariant.inside c.loop-item-test.true c.number_at-next.ensures));
      exits_low = c.requires.1.exits_low;
    },
  ),
)

pub blocks::write_list-item_size-n-requires : goal.blocks::write_list-item_size-n-requires
blocks::write_list-item_size-n-requires t c =
    (c.requires.0.measured, c.loop-item.invariant.inside, omega (arith, (behind-size c.args.source.now.rows.now c.loop-item.item c.number_at-next.result c.requires.0.measured.source c.loop-item.invariant.inside c.loop-item-test.true c.number_at-next.ensures), c.loop-item.invariant.size_is, c.requires.1.room.low))

pub blocks::write_list-overflow_add-n : goal.blocks::write_list-overflow_add-n
blocks::write_list-overflow_add-n t c =
    omega (arith, c.requires.1.room.low, c.requires.1.labels_low, c.loop-item.invariant.size_is, c.loop-item.invariant.labels_are, (behind-size c.args.source.now.rows.now c.loop-item.item c.number_at-next.result c.requires.0.measured.source c.loop-item.invariant.inside c.loop-item-test.true c.number_at-next.ensures), (behind-labels c.args.source.now.rows.now c.loop-item.item c.number_at-next.result c.requires.0.measured.source c.loop-item.invariant.inside c.loop-item-test.true c.number_at-next.ensures), c.item_size-n.ensures)

pub blocks::write_list-item_labels-from-requires : goal.blocks::write_list-item_labels-from-requires
blocks::write_list-item_labels-from-requires t c =
    (c.requires.0.measured, c.loop-item.invariant.inside, omega (arith, (behind-labels c.args.source.now.rows.now c.loop-item.item c.number_at-next.result c.requires.0.measured.source c.loop-item.invariant.inside c.loop-item-test.true c.number_at-next.ensures), c.loop-item.invariant.labels_are, c.requires.1.labels_low))

pub blocks::write_list-overflow_add-from : goal.blocks::write_list-overflow_add-from
blocks::write_list-overflow_add-from t c =
    omega (arith, c.requires.1.room.low, c.requires.1.labels_low, c.loop-item.invariant.size_is, c.loop-item.invariant.labels_are, (behind-size c.args.source.now.rows.now c.loop-item.item c.number_at-next.result c.requires.0.measured.source c.loop-item.invariant.inside c.loop-item-test.true c.number_at-next.ensures), (behind-labels c.args.source.now.rows.now c.loop-item.item c.number_at-next.result c.requires.0.measured.source c.loop-item.invariant.inside c.loop-item-test.true c.number_at-next.ensures), c.item_size-n.ensures, c.item_labels-from.ensures)

pub blocks::write_list-loop-item-smaller : goal.blocks::write_list-loop-item-smaller
blocks::write_list-loop-item-smaller t c =
    next-less _ _ _ c.requires.0.measured.source c.loop-item.invariant.inside c.loop-item-test.true c.number_at-next.ensures

pub blocks::write_list-loop-item-preserved : goal.blocks::write_list-loop-item-preserved
blocks::write_list-loop-item-preserved t c =
    items-step c.args.source.now.store c.args.source.now.rows.now c.args.list c.args.at.label c.args.at.base c.args.out.now c.requires.0.measured.source c.loop-item-test.true c.args.follows (exits_of c.args.at.exits) c.loop-item.invariant _ _ _ _ _ c.number_at-next.ensures c.item_labels-from.ensures c.item_size-n.ensures (c.more-then.ensures ∙ ap (more_rows c.args.follows) c.list_size.ensures) c.write_item.ensures c.write_item.auto.out

pub blocks::write_list-returns : goal.blocks::write_list-returns
unfolding items_code
blocks::write_list-returns t c =
    finish _ _ _ _ _ _ _ _ _ _ c.loop-item.invariant (ap (λ (is : Items). items_code (called_in c.args.source.now.rows.now) c.args.source.now.store is (exits_of c.args.at.exits) c.loop-item.from) (none-at c.args.source.now.rows.now c.loop-item.item c.loop-item-test.false))

-- A loop: its first part, its head, its round, and the label behind it.

pub loops::write_loop-write_expression-requires : goal.loops::write_loop-write_expression-requires
loops::write_loop-write_expression-requires t c =
    (c.requires.0, record { inside = c.requires.1.first_inside; level_low = omega (arith, part_low c.requires.0 c.args.parts.first c.requires.1.first_inside dropped); use_fits = tt; room = room-less _ c.requires.2 (omega arith) })

pub loops::write_loop-put_loop-requires : goal.loops::write_loop-put_loop-requires
loops::write_loop-put_loop-requires t c =
    (room-behind c.operand_size-k.result 3 c.write_expression.new.out c.requires.2 c.write_expression.auto.out (omega (arith, c.operand_size-k.ensures)), omega (arith, c.round_size-round.ensures, c.requires.2.low))

pub loops::write_loop-overflow_add-base-2 : goal.loops::write_loop-overflow_add-base-2
loops::write_loop-overflow_add-base-2 t c =
    omega (arith, c.requires.2.inside, c.operand_size-k.ensures, c.round_size-round.ensures, c.write_expression.auto.out, (back-length c.operand_size-k.result c.write_expression.new.out c.put_loop.new.out c.put_loop.auto.out), c.requires.2.low)

pub loops::write_loop-overflow_mul-n : goal.loops::write_loop-overflow_mul-n
loops::write_loop-overflow_mul-n t c =
    omega (arith, c.requires.2.inside, c.operand_size-k.ensures, c.round_size-round.ensures, c.write_expression.auto.out, (back-length c.operand_size-k.result c.write_expression.new.out c.put_loop.new.out c.put_loop.auto.out), c.requires.2.low)

pub loops::write_loop-offset_bounds-out-n : goal.loops::write_loop-offset_bounds-out-n
loops::write_loop-offset_bounds-out-n t c =
    omega (arith, c.requires.2.inside, c.operand_size-k.ensures, c.round_size-round.ensures, c.write_expression.auto.out, (back-length c.operand_size-k.result c.write_expression.new.out c.put_loop.new.out c.put_loop.auto.out), c.requires.2.low)

pub loops::write_loop-slice_bounds-write_round-count : goal.loops::write_loop-slice_bounds-write_round-count
loops::write_loop-slice_bounds-write_round-count t c =
    omega (arith, c.requires.2.inside, c.operand_size-k.ensures, c.round_size-round.ensures, c.write_expression.auto.out, (back-length c.operand_size-k.result c.write_expression.new.out c.put_loop.new.out c.put_loop.auto.out), c.requires.2.low)

pub loops::write_loop-slice_bounds-write_round-start : goal.loops::write_loop-slice_bounds-write_round-start
loops::write_loop-slice_bounds-write_round-start t c =
    omega (arith, c.requires.2.inside, c.operand_size-k.ensures, c.round_size-round.ensures, c.write_expression.auto.out, (back-length c.operand_size-k.result c.write_expression.new.out c.put_loop.new.out c.put_loop.auto.out), c.requires.2.low)

pub loops::write_loop-write_round-requires : goal.loops::write_loop-write_round-requires
loops::write_loop-write_round-requires t c =
    (omega (arith, c.decreases), (c.requires.0, c.requires.1, room-behind (c.operand_size-k.result + 3) _ (back_in c.operand_size-k.result c.write_expression.new.out c.put_loop.new.out) c.requires.2 ((back-length c.operand_size-k.result c.write_expression.new.out c.put_loop.new.out c.put_loop.auto.out) ∙ c.write_expression.auto.out) (omega (arith, c.operand_size-k.ensures))))

pub loops::write_loop-overflow_add-base-3 : goal.loops::write_loop-overflow_add-base-3
loops::write_loop-overflow_add-base-3 t c =
    omega (arith, c.requires.2.inside, c.operand_size-k.ensures, c.round_size-round.ensures, c.write_expression.auto.out, (back-length c.operand_size-k.result c.write_expression.new.out c.put_loop.new.out c.put_loop.auto.out), (back-length (c.operand_size-k.result + 3) (back_in c.operand_size-k.result c.write_expression.new.out c.put_loop.new.out) c.write_round.new.out c.write_round.auto.out), c.requires.2.low)

pub loops::write_loop-overflow_mul-m : goal.loops::write_loop-overflow_mul-m
loops::write_loop-overflow_mul-m t c =
    omega (arith, c.requires.2.inside, c.operand_size-k.ensures, c.round_size-round.ensures, c.write_expression.auto.out, (back-length c.operand_size-k.result c.write_expression.new.out c.put_loop.new.out c.put_loop.auto.out), (back-length (c.operand_size-k.result + 3) (back_in c.operand_size-k.result c.write_expression.new.out c.put_loop.new.out) c.write_round.new.out c.write_round.auto.out), c.requires.2.low)

pub loops::write_loop-offset_bounds-out-m : goal.loops::write_loop-offset_bounds-out-m
loops::write_loop-offset_bounds-out-m t c =
    omega (arith, c.requires.2.inside, c.operand_size-k.ensures, c.round_size-round.ensures, c.write_expression.auto.out, (back-length c.operand_size-k.result c.write_expression.new.out c.put_loop.new.out c.put_loop.auto.out), (back-length (c.operand_size-k.result + 3) (back_in c.operand_size-k.result c.write_expression.new.out c.put_loop.new.out) c.write_round.new.out c.write_round.auto.out), c.requires.2.low)

pub loops::write_loop-slice_bounds-put_label-count : goal.loops::write_loop-slice_bounds-put_label-count
loops::write_loop-slice_bounds-put_label-count t c =
    omega (arith, c.requires.2.inside, c.operand_size-k.ensures, c.round_size-round.ensures, c.write_expression.auto.out, (back-length c.operand_size-k.result c.write_expression.new.out c.put_loop.new.out c.put_loop.auto.out), (back-length (c.operand_size-k.result + 3) (back_in c.operand_size-k.result c.write_expression.new.out c.put_loop.new.out) c.write_round.new.out c.write_round.auto.out), c.requires.2.low)

pub loops::write_loop-slice_bounds-put_label-start : goal.loops::write_loop-slice_bounds-put_label-start
loops::write_loop-slice_bounds-put_label-start t c =
    omega (arith, c.requires.2.inside, c.operand_size-k.ensures, c.round_size-round.ensures, c.write_expression.auto.out, (back-length c.operand_size-k.result c.write_expression.new.out c.put_loop.new.out c.put_loop.auto.out), (back-length (c.operand_size-k.result + 3) (back_in c.operand_size-k.result c.write_expression.new.out c.put_loop.new.out) c.write_round.new.out c.write_round.auto.out), c.requires.2.low)

pub loops::write_loop-put_label-requires : goal.loops::write_loop-put_label-requires
loops::write_loop-put_label-requires t c =
    let round-at = c.operand_size-k.result + 3 in
    let head-table = back_in c.operand_size-k.result c.write_expression.new.out c.put_loop.new.out in
    (room-behind (c.operand_size-k.result + 3 + c.round_size-round.result) 1 (back_in round-at head-table c.write_round.new.out) c.requires.2 ((back-length round-at head-table c.write_round.new.out c.write_round.auto.out) ∙ (back-length c.operand_size-k.result c.write_expression.new.out c.put_loop.new.out c.put_loop.auto.out) ∙ c.write_expression.auto.out) (omega (arith, c.operand_size-k.ensures, c.round_size-round.ensures)), omega (arith, c.requires.1.labels_low))

pub loops::write_loop-shape_of-out : goal.loops::write_loop-shape_of-out
loops::write_loop-shape_of-out t c =
    let round-at = c.operand_size-k.result + 3 in
    let head-table = back_in c.operand_size-k.result c.write_expression.new.out c.put_loop.new.out in
    (back-length (c.operand_size-k.result + 3 + c.round_size-round.result) (back_in round-at head-table c.write_round.new.out) c.put_label.new.out c.put_label.auto.out) ∙ (back-length round-at head-table c.write_round.new.out c.write_round.auto.out) ∙ (back-length c.operand_size-k.result c.write_expression.new.out c.put_loop.new.out c.put_loop.auto.out) ∙ c.write_expression.auto.out

pub loops::write_loop-returns : goal.loops::write_loop-returns
loops::write_loop-returns t c =
    loop-done c.args.source.now.store c.args.source.now.rows.now c.args.follows c.args.parts c.args.label c.args.base c.args.out.now
    c.operand_size-k.ensures c.round_size-round.ensures c.write_expression.ensures c.put_loop.ensures c.write_round.ensures c.put_label.ensures

-- A round: the test before the body, the body, the end.

pub loops::write_round-write_test-requires : goal.loops::write_round-write_test-requires
loops::write_round-write_test-requires t c =
    (c.requires.0, record { inside = c.requires.1.before_inside; label_low = omega (arith, c.requires.1.labels_low); room = room-less _ c.requires.2 (omega arith) })

pub loops::write_round-write_statement-requires : goal.loops::write_round-write_statement-requires
loops::write_round-write_statement-requires t c = (
  omega (arith, c.decreases),
  (
    c.requires.0,
    record {
      inside = c.requires.1.body_inside;
      room = room-behind c.test_size-k.result _ c.write_test.new.out c.requires.2 c.write_test.auto.out (omega (arith, c.test_size-k.ensures));
      labels_low = c.requires.1.labels_low;
      exits_low = (omega (arith, c.requires.1.labels_low), omega (arith, c.requires.1.labels_low));
    },
  ),
)

pub loops::write_round-overflow_add-base-2 : goal.loops::write_round-overflow_add-base-2
loops::write_round-overflow_add-base-2 t c =
    omega (arith, c.requires.2.inside, c.test_size-k.ensures, c.statement_size.ensures, c.write_test.auto.out, (back-length c.test_size-k.result c.write_test.new.out c.write_statement.new.out c.write_statement.auto.out), c.requires.2.low)

pub loops::write_round-overflow_mul-n : goal.loops::write_round-overflow_mul-n
loops::write_round-overflow_mul-n t c =
    omega (arith, c.requires.2.inside, c.test_size-k.ensures, c.statement_size.ensures, c.write_test.auto.out, (back-length c.test_size-k.result c.write_test.new.out c.write_statement.new.out c.write_statement.auto.out), c.requires.2.low)

pub loops::write_round-offset_bounds-out-n : goal.loops::write_round-offset_bounds-out-n
loops::write_round-offset_bounds-out-n t c =
    omega (arith, c.requires.2.inside, c.test_size-k.ensures, c.statement_size.ensures, c.write_test.auto.out, (back-length c.test_size-k.result c.write_test.new.out c.write_statement.new.out c.write_statement.auto.out), c.requires.2.low)

pub loops::write_round-slice_bounds-write_round_end-count : goal.loops::write_round-slice_bounds-write_round_end-count
loops::write_round-slice_bounds-write_round_end-count t c =
    omega (arith, c.requires.2.inside, c.test_size-k.ensures, c.statement_size.ensures, c.write_test.auto.out, (back-length c.test_size-k.result c.write_test.new.out c.write_statement.new.out c.write_statement.auto.out), c.requires.2.low)

pub loops::write_round-write_round_end-requires : goal.loops::write_round-write_round_end-requires
loops::write_round-write_round_end-requires t c = (
  c.requires.0,
  record {
    action_inside = c.requires.1.action_inside;
    after_inside = c.requires.1.after_inside;
    label_low = omega (arith, c.requires.1.labels_low);
    room = room-behind (c.test_size-k.result + c.statement_size.result) _ (back_in c.test_size-k.result c.write_test.new.out c.write_statement.new.out) c.requires.2 ((back-length c.test_size-k.result c.write_test.new.out c.write_statement.new.out c.write_statement.auto.out) ∙ c.write_test.auto.out) (omega (arith, c.test_size-k.ensures, c.statement_size.ensures));
  },
)

pub loops::write_round-shape_of-out : goal.loops::write_round-shape_of-out
loops::write_round-shape_of-out t c =
    (back-length (c.test_size-k.result + c.statement_size.result) (back_in c.test_size-k.result c.write_test.new.out c.write_statement.new.out) c.write_round_end.new.out c.write_round_end.auto.out) ∙ (back-length c.test_size-k.result c.write_test.new.out c.write_statement.new.out c.write_statement.auto.out) ∙ c.write_test.auto.out

pub loops::write_round-returns : goal.loops::write_round-returns
loops::write_round-returns t c =
    round-done c.args.source.now.store c.args.source.now.rows.now c.args.parts c.args.label c.args.base c.args.out.now
    c.test_size-k.ensures c.statement_size.ensures c.write_test.ensures c.write_statement.ensures c.write_round_end.ensures

-- A guarded do: the head of a loop, its arms, and what stands behind them; without arms an empty statement.

pub guarded::write_rounds-put_empty-requires : goal.guarded::write_rounds-put_empty-requires
guarded::write_rounds-put_empty-requires t c =
    room-less _ c.requires.1.room (omega (arith, rounds-own (arm_list_at c.args.source.now.rows.now c.args.arms)))

pub guarded::write_rounds-returns-then-n-eq0 : goal.guarded::write_rounds-returns-then-n-eq0
guarded::write_rounds-returns-then-n-eq0 t c =
    rounds-none (called_in c.args.source.now.rows.now) c.args.source.now.store (arm_list_at c.args.source.now.rows.now c.args.arms) (exits_of c.args.at.exits) c.args.at.label c.args.at.base c.args.follows c.args.out.now c.arms_size-n.ensures c.if-n-eq0.true c.put_empty.ensures

pub guarded::write_rounds-overflow_add-m : goal.guarded::write_rounds-overflow_add-m
guarded::write_rounds-overflow_add-m t c =
    let own = rounds-rows (called_in c.args.source.now.rows.now) (arm_list_at c.args.source.now.rows.now c.args.arms) (λ z. c.if-n-eq0.false (c.arms_size-n.ensures ∙ z)) in
    omega (arith, c.requires.1.room.low, c.arms_size-n.ensures, own)

pub guarded::write_rounds-overflow_add-n : goal.guarded::write_rounds-overflow_add-n
guarded::write_rounds-overflow_add-n t c =
    let own = rounds-rows (called_in c.args.source.now.rows.now) (arm_list_at c.args.source.now.rows.now c.args.arms) (λ z. c.if-n-eq0.false (c.arms_size-n.ensures ∙ z)) in
    omega (arith, c.requires.1.room.low, c.arms_size-n.ensures, own)

pub guarded::write_rounds-put_loop-requires : goal.guarded::write_rounds-put_loop-requires
guarded::write_rounds-put_loop-requires t c =
    let own = rounds-rows (called_in c.args.source.now.rows.now) (arm_list_at c.args.source.now.rows.now c.args.arms) (λ z. c.if-n-eq0.false (c.arms_size-n.ensures ∙ z)) in
    (room-less 3 c.requires.1.room (omega (arith, own)), omega (arith, c.requires.1.room.low, c.arms_size-n.ensures, own))

pub guarded::write_rounds-overflow_add-at : goal.guarded::write_rounds-overflow_add-at
guarded::write_rounds-overflow_add-at t c =
    let arms = arm_list_at c.args.source.now.rows.now c.args.arms in
    let own = rounds-rows (called_in c.args.source.now.rows.now) arms (λ z. c.if-n-eq0.false (c.arms_size-n.ensures ∙ z)) in
    let marks = rounds-labels (called_in c.args.source.now.rows.now) arms (λ z. c.if-n-eq0.false (c.arms_size-n.ensures ∙ z)) in
    omega (arith, c.requires.1.labels_low, c.requires.1.room.low, own, marks)

pub guarded::write_rounds-overflow_add-at-2 : goal.guarded::write_rounds-overflow_add-at-2
guarded::write_rounds-overflow_add-at-2 t c =
    let arms = arm_list_at c.args.source.now.rows.now c.args.arms in
    let own = rounds-rows (called_in c.args.source.now.rows.now) arms (λ z. c.if-n-eq0.false (c.arms_size-n.ensures ∙ z)) in
    let marks = rounds-labels (called_in c.args.source.now.rows.now) arms (λ z. c.if-n-eq0.false (c.arms_size-n.ensures ∙ z)) in
    omega (arith, c.requires.1.labels_low, c.requires.1.room.low, own, marks)

pub guarded::write_rounds-overflow_add-at-3 : goal.guarded::write_rounds-overflow_add-at-3
guarded::write_rounds-overflow_add-at-3 t c =
    let arms = arm_list_at c.args.source.now.rows.now c.args.arms in
    let own = rounds-rows (called_in c.args.source.now.rows.now) arms (λ z. c.if-n-eq0.false (c.arms_size-n.ensures ∙ z)) in
    let marks = rounds-labels (called_in c.args.source.now.rows.now) arms (λ z. c.if-n-eq0.false (c.arms_size-n.ensures ∙ z)) in
    omega (arith, c.requires.1.labels_low, c.requires.1.room.low, own, marks)

pub guarded::write_rounds-slice_bounds-write_arms-count : goal.guarded::write_rounds-slice_bounds-write_arms-count
guarded::write_rounds-slice_bounds-write_arms-count t c =
    let own = rounds-rows (called_in c.args.source.now.rows.now) (arm_list_at c.args.source.now.rows.now c.args.arms) (λ z. c.if-n-eq0.false (c.arms_size-n.ensures ∙ z)) in
    omega (arith, c.requires.1.room.inside, own, c.put_loop.auto.out)

pub guarded::write_rounds-slice_bounds-write_arms-start : goal.guarded::write_rounds-slice_bounds-write_arms-start
guarded::write_rounds-slice_bounds-write_arms-start t c =
    let own = rounds-rows (called_in c.args.source.now.rows.now) (arm_list_at c.args.source.now.rows.now c.args.arms) (λ z. c.if-n-eq0.false (c.arms_size-n.ensures ∙ z)) in
    omega (arith, c.requires.1.room.inside, own, c.put_loop.auto.out)

pub guarded::write_rounds-write_arms-requires : goal.guarded::write_rounds-write_arms-requires
guarded::write_rounds-write_arms-requires t c =
    let arms = arm_list_at c.args.source.now.rows.now c.args.arms in
    let own = rounds-rows (called_in c.args.source.now.rows.now) arms (λ z. c.if-n-eq0.false (c.arms_size-n.ensures ∙ z)) in
    let marks = rounds-labels (called_in c.args.source.now.rows.now) arms (λ z. c.if-n-eq0.false (c.arms_size-n.ensures ∙ z)) in (
      omega (arith, c.decreases),
      (
        c.requires.0,
        record {
          inside = c.requires.1.inside;
          room = room-behind 3 _ c.put_loop.new.out c.requires.1.room c.put_loop.auto.out (omega (arith, own));
          labels_low = omega (arith, c.requires.1.labels_low, marks);
          target_low = omega (arith, c.requires.1.labels_low, marks);
          exits_low = c.requires.1.exits_low;
        },
      ),
    )

pub guarded::write_rounds-overflow_add-at-4 : goal.guarded::write_rounds-overflow_add-at-4
guarded::write_rounds-overflow_add-at-4 t c =
    let own = rounds-rows (called_in c.args.source.now.rows.now) (arm_list_at c.args.source.now.rows.now c.args.arms) (λ z. c.if-n-eq0.false (c.arms_size-n.ensures ∙ z)) in
    omega (arith, c.requires.1.room.low, own, c.arms_size-n.ensures)

pub guarded::write_rounds-overflow_mul-m : goal.guarded::write_rounds-overflow_mul-m
guarded::write_rounds-overflow_mul-m t c =
    let own = rounds-rows (called_in c.args.source.now.rows.now) (arm_list_at c.args.source.now.rows.now c.args.arms) (λ z. c.if-n-eq0.false (c.arms_size-n.ensures ∙ z)) in
    omega (arith, c.requires.1.room.low, own, c.arms_size-n.ensures)

pub guarded::write_rounds-offset_bounds-out-m : goal.guarded::write_rounds-offset_bounds-out-m
guarded::write_rounds-offset_bounds-out-m t c =
    let own = rounds-rows (called_in c.args.source.now.rows.now) (arm_list_at c.args.source.now.rows.now c.args.arms) (λ z. c.if-n-eq0.false (c.arms_size-n.ensures ∙ z)) in
    omega (arith, c.requires.1.room.low, own, c.arms_size-n.ensures)

pub guarded::write_rounds-slice_bounds-put_rounds_end-count : goal.guarded::write_rounds-slice_bounds-put_rounds_end-count
guarded::write_rounds-slice_bounds-put_rounds_end-count t c =
    let own = rounds-rows (called_in c.args.source.now.rows.now) (arm_list_at c.args.source.now.rows.now c.args.arms) (λ z. c.if-n-eq0.false (c.arms_size-n.ensures ∙ z)) in
    omega (arith, c.requires.1.room.inside, own, c.arms_size-n.ensures, c.put_loop.auto.out, (back-length 3 c.put_loop.new.out c.write_arms.new.out c.write_arms.auto.out))

pub guarded::write_rounds-slice_bounds-put_rounds_end-start : goal.guarded::write_rounds-slice_bounds-put_rounds_end-start
guarded::write_rounds-slice_bounds-put_rounds_end-start t c =
    let own = rounds-rows (called_in c.args.source.now.rows.now) (arm_list_at c.args.source.now.rows.now c.args.arms) (λ z. c.if-n-eq0.false (c.arms_size-n.ensures ∙ z)) in
    omega (arith, c.requires.1.room.inside, own, c.arms_size-n.ensures, c.put_loop.auto.out, (back-length 3 c.put_loop.new.out c.write_arms.new.out c.write_arms.auto.out))

pub guarded::write_rounds-put_rounds_end-requires : goal.guarded::write_rounds-put_rounds_end-requires
guarded::write_rounds-put_rounds_end-requires t c =
    let arms = arm_list_at c.args.source.now.rows.now c.args.arms in
    let own = rounds-rows (called_in c.args.source.now.rows.now) arms (λ z. c.if-n-eq0.false (c.arms_size-n.ensures ∙ z)) in
    let marks = rounds-labels (called_in c.args.source.now.rows.now) arms (λ z. c.if-n-eq0.false (c.arms_size-n.ensures ∙ z)) in
    (room-behind (3 + c.arms_size-n.result) 3 (back_in 3 c.put_loop.new.out c.write_arms.new.out) c.requires.1.room ((back-length 3 c.put_loop.new.out c.write_arms.new.out c.write_arms.auto.out) ∙ c.put_loop.auto.out) (omega (arith, own, c.arms_size-n.ensures)), omega (arith, c.requires.1.labels_low, marks))

pub guarded::write_rounds-shape_of-out : goal.guarded::write_rounds-shape_of-out
guarded::write_rounds-shape_of-out t c =
    (back-length (3 + c.arms_size-n.result) (back_in 3 c.put_loop.new.out c.write_arms.new.out) c.put_rounds_end.new.out c.put_rounds_end.auto.out) ∙ (back-length 3 c.put_loop.new.out c.write_arms.new.out c.write_arms.auto.out) ∙ c.put_loop.auto.out

pub guarded::write_rounds-returns : goal.guarded::write_rounds-returns
guarded::write_rounds-returns t c =
    rounds-done (called_in c.args.source.now.rows.now) c.args.source.now.store (arm_list_at c.args.source.now.rows.now c.args.arms) (exits_of c.args.at.exits) c.args.at.label c.args.at.base c.args.follows c.args.out.now c.arms_size-n.ensures c.if-n-eq0.false c.put_loop.ensures c.write_arms.ensures c.put_rounds_end.ensures

-- A statement: by its line, the writer of its kind.

pub statements::write_statement-put_empty-requires : goal.statements::write_statement-put_empty-requires
unfolding statement_size
statements::write_statement-put_empty-requires t c =
    rw (stated c.statement_at-line.ensures c.in-Empty.is).is at c.requires.1.room

pub statements::write_statement-write_express-requires : goal.statements::write_statement-write_express-requires
unfolding statement_size
statements::write_statement-write_express-requires t c =
    let line = (stated c.statement_at-line.ensures c.in-Express.is) in
    (c.requires.0, record { some = omega (arith, line.onward.later); inside = line.onward.inside; room = rw line.is at c.requires.1.room })

pub statements::write_statement-write_block-requires : goal.statements::write_statement-write_block-requires
unfolding statement_size labels
statements::write_statement-write_block-requires t c =
    let line = (stated c.statement_at-line.ensures c.in-Block.is) in (
      omega (arith, c.decreases, above-less c.args.source.now.rows.now c.args.row c.in-Block.list c.requires.1.inside line.onward),
      (
        c.requires.0,
        record {
          inside = optional-inside c.args.source.now.rows.now c.args.row c.in-Block.list c.requires.1.inside line.onward;
          room = rw line.is at c.requires.1.room;
          labels_low = rw line.is at c.requires.1.labels_low;
          exits_low = c.requires.1.exits_low;
        },
      ),
    )

pub statements::write_statement-write_if-requires : goal.statements::write_statement-write_if-requires
statements::write_statement-write_if-requires t c =
    let line = (stated c.statement_at-line.ensures c.in-If.is) in (
      omega (arith, c.decreases, above-less c.args.source.now.rows.now c.args.row c.in-If.yes c.requires.1.inside (λ h. line.onward.1), above-less c.args.source.now.rows.now c.args.row c.in-If.no c.requires.1.inside line.onward.2),
      (
        c.requires.0,
        record {
          test_some = omega (arith, line.onward.0.later);
          test_inside = line.onward.0.inside;
          true_some = omega (arith, line.onward.1.later);
          true_inside = line.onward.1.inside;
          false_inside = optional-inside c.args.source.now.rows.now c.args.row c.in-If.no c.requires.1.inside line.onward.2;
          room = room-less _ (rw line.is at c.requires.1.room) (omega (arith, (if-size c.args.source.now.rows.now c.in-If.no (expression_at c.args.source.now.rows.now c.in-If.e) (statement_at c.args.source.now.rows.now c.in-If.yes))));
          labels_low = omega (arith, (rw line.is at c.requires.1.labels_low), if-labels c.args.source.now.rows.now c.in-If.no (expression_at c.args.source.now.rows.now c.in-If.e) (statement_at c.args.source.now.rows.now c.in-If.yes));
          exits_low = c.requires.1.exits_low;
        },
      ),
    )

pub statements::write_statement-write_loop-requires : goal.statements::write_statement-write_loop-requires
unfolding labels
statements::write_statement-write_loop-requires t c =
    let line = (stated c.statement_at-line.ensures c.in-While.is) in (
      omega (arith, c.decreases, above-less c.args.source.now.rows.now c.args.row c.in-While.body c.requires.1.inside (λ h. line.onward.1), line.onward.1.later, line.onward.1.inside),
      (
        c.requires.0,
        record {
          first_inside = omega (arith, c.requires.1.inside);
          before_inside = line.onward.0.inside;
          body_inside = line.onward.1.inside;
          action_inside = omega (arith, c.requires.1.inside);
          after_inside = omega (arith, c.requires.1.inside);
          labels_low = omega (arith, (rw line.is at c.requires.1.labels_low));
        },
        room-less _ (rw line.is at c.requires.1.room) (omega (arith, (while-size c.args.source.now.rows.now c.in-While.e c.in-While.body (omega (arith, line.onward.0.later))))),
      ),
    )

pub statements::write_statement-write_loop-requires-in-Do : goal.statements::write_statement-write_loop-requires-in-Do
unfolding labels
statements::write_statement-write_loop-requires-in-Do t c =
    let line = (stated c.statement_at-line.ensures c.in-Do.is) in (
      omega (arith, c.decreases, above-less c.args.source.now.rows.now c.args.row c.in-Do.body c.requires.1.inside (λ h. line.onward.0), line.onward.0.later, line.onward.0.inside),
      (
        c.requires.0,
        record {
          first_inside = omega (arith, c.requires.1.inside);
          before_inside = omega (arith, c.requires.1.inside);
          body_inside = line.onward.0.inside;
          action_inside = omega (arith, c.requires.1.inside);
          after_inside = line.onward.1.inside;
          labels_low = omega (arith, (rw line.is at c.requires.1.labels_low));
        },
        room-less _ (rw line.is at c.requires.1.room) (omega (arith, (do-size c.args.source.now.rows.now c.in-Do.body c.in-Do.e (omega (arith, line.onward.1.later))))),
      ),
    )

pub statements::write_statement-write_loop-requires-in-For : goal.statements::write_statement-write_loop-requires-in-For
unfolding labels
statements::write_statement-write_loop-requires-in-For t c =
    let line = (stated c.statement_at-line.ensures c.in-For.is) in (
      omega (arith, c.decreases, above-less c.args.source.now.rows.now c.args.row c.in-For.body c.requires.1.inside (λ h. line.onward.3), line.onward.3.later, line.onward.3.inside),
      (
        c.requires.0,
        record {
          first_inside = optional-inside c.args.source.now.rows.now c.args.row c.in-For.first c.requires.1.inside line.onward.0;
          before_inside = optional-inside c.args.source.now.rows.now c.args.row c.in-For.test c.requires.1.inside line.onward.1;
          body_inside = line.onward.3.inside;
          action_inside = optional-inside c.args.source.now.rows.now c.args.row c.in-For.action c.requires.1.inside line.onward.2;
          after_inside = omega (arith, c.requires.1.inside);
          labels_low = omega (arith, (rw line.is at c.requires.1.labels_low));
        },
        room-less _ (rw line.is at c.requires.1.room) (omega (arith, (for-size c.args.source.now.rows.now c.in-For.first c.in-For.test c.in-For.action c.in-For.body))),
      ),
    )

pub statements::write_statement-write_switch-requires : goal.statements::write_statement-write_switch-requires
unfolding statement_size labels
statements::write_statement-write_switch-requires t c =
    let line = (stated c.statement_at-line.ensures c.in-Switch.is) in (
      omega (arith, c.decreases, above-less c.args.source.now.rows.now c.args.row c.in-Switch.list c.requires.1.inside line.onward.1),
      (
        c.requires.0,
        record {
          selector_some = omega (arith, line.onward.0.later);
          selector_inside = line.onward.0.inside;
          inside = optional-inside c.args.source.now.rows.now c.args.row c.in-Switch.list c.requires.1.inside line.onward.1;
          room = rw line.is at c.requires.1.room;
          labels_low = rw line.is at c.requires.1.labels_low;
          exits_low = c.requires.1.exits_low;
        },
      ),
    )

pub statements::write_statement-put_goto-requires : goal.statements::write_statement-put_goto-requires
unfolding statement_size
statements::write_statement-put_goto-requires t c =
    (rw (stated c.statement_at-line.ensures c.in-Break.is).is at c.requires.1.room, c.requires.1.exits_low.0)

pub statements::write_statement-put_goto-requires-in-Continue : goal.statements::write_statement-put_goto-requires-in-Continue
unfolding statement_size
statements::write_statement-put_goto-requires-in-Continue t c =
    (rw (stated c.statement_at-line.ensures c.in-Continue.is).is at c.requires.1.room, c.requires.1.exits_low.1)

pub statements::write_statement-put_empty-requires-in-Goto : goal.statements::write_statement-put_empty-requires-in-Goto
unfolding statement_size
statements::write_statement-put_empty-requires-in-Goto t c =
    rw (stated c.statement_at-line.ensures c.in-Goto.is).is at c.requires.1.room

pub statements::write_statement-write_choice-requires : goal.statements::write_statement-write_choice-requires
unfolding statement_size labels
statements::write_statement-write_choice-requires t c =
    let is-choice = stated c.statement_at-line.ensures c.in-GuardedIf.is in (
      omega (arith, c.decreases, above-less c.args.source.now.rows.now c.args.row c.in-GuardedIf.arms c.requires.1.inside is-choice.onward),
      (
        c.requires.0,
        record {
          inside = optional-inside c.args.source.now.rows.now c.args.row c.in-GuardedIf.arms c.requires.1.inside is-choice.onward;
          room = rw is-choice.is at c.requires.1.room;
          labels_low = rw is-choice.is at c.requires.1.labels_low;
          exits_low = c.requires.1.exits_low;
        },
      ),
    )

pub statements::write_statement-write_rounds-requires : goal.statements::write_statement-write_rounds-requires
unfolding statement_size labels
statements::write_statement-write_rounds-requires t c =
    let is-rounds = stated c.statement_at-line.ensures c.in-GuardedDo.is in (
      omega (arith, c.decreases, above-less c.args.source.now.rows.now c.args.row c.in-GuardedDo.arms c.requires.1.inside is-rounds.onward),
      (
        c.requires.0,
        record {
          inside = optional-inside c.args.source.now.rows.now c.args.row c.in-GuardedDo.arms c.requires.1.inside is-rounds.onward;
          room = rw is-rounds.is at c.requires.1.room;
          labels_low = rw is-rounds.is at c.requires.1.labels_low;
          exits_low = c.requires.1.exits_low;
        },
      ),
    )

pub statements::write_statement-put_empty-requires-in-Abort : goal.statements::write_statement-put_empty-requires-in-Abort
unfolding statement_size
statements::write_statement-put_empty-requires-in-Abort t c =
    rw (stated c.statement_at-line.ensures c.in-Abort.is).is at c.requires.1.room

pub statements::write_statement-write_declare-requires : goal.statements::write_statement-write_declare-requires
unfolding statement_size
statements::write_statement-write_declare-requires t c =
    let line = (stated c.statement_at-line.ensures c.in-Declare.is) in
    (c.requires.0, record { low = line.onward.0.low; absent = line.onward.1.absent; inside = line.onward.1.inside; room = room-less _ (rw line.is at c.requires.1.room) (omega (arith, initial-size c.args.source.now.rows.now c.in-Declare.number c.in-Declare.e line.onward.1.absent)) })

pub statements::write_statement-write_return-requires : goal.statements::write_statement-write_return-requires
unfolding statement_size
statements::write_statement-write_return-requires t c =
    let line = stated c.statement_at-line.ensures c.in-Return.is in
    (c.requires.0, record { inside = optional-inside c.args.source.now.rows.now c.args.row c.in-Return.value c.requires.1.inside line.onward; room = rw line.is at c.requires.1.room })

pub statements::write_statement-returns-in-Empty : goal.statements::write_statement-returns-in-Empty
unfolding statement_code
statements::write_statement-returns-in-Empty t c =
    line-done c.args.source.now.store (exits_of c.args.at.exits) c.args.at.label c.args.at.base c.args.follows c.args.out.now (stated c.statement_at-line.ensures c.in-Empty.is) c.put_empty.ensures

pub statements::write_statement-returns-in-Express : goal.statements::write_statement-returns-in-Express
unfolding statement_code
statements::write_statement-returns-in-Express t c =
    line-done c.args.source.now.store (exits_of c.args.at.exits) c.args.at.label c.args.at.base c.args.follows c.args.out.now (stated c.statement_at-line.ensures c.in-Express.is) c.write_express.ensures

pub statements::write_statement-returns-in-Block : goal.statements::write_statement-returns-in-Block
unfolding statement_code
statements::write_statement-returns-in-Block t c =
    line-done c.args.source.now.store (exits_of c.args.at.exits) c.args.at.label c.args.at.base c.args.follows c.args.out.now (stated c.statement_at-line.ensures c.in-Block.is) c.write_block.ensures

pub statements::write_statement-returns-in-If : goal.statements::write_statement-returns-in-If
statements::write_statement-returns-in-If t c =
    line-done c.args.source.now.store (exits_of c.args.at.exits) c.args.at.label c.args.at.base c.args.follows c.args.out.now (stated c.statement_at-line.ensures c.in-If.is) c.write_if.ensures

pub statements::write_statement-returns-in-While : goal.statements::write_statement-returns-in-While
statements::write_statement-returns-in-While t c =
    let is-while = stated c.statement_at-line.ensures c.in-While.is in
    let items : Items → List ℤ = λ xs. over (emit_items c.args.follows xs c.args.at.base) c.args.out.now in
    line-done c.args.source.now.store (exits_of c.args.at.exits) c.args.at.label c.args.at.base c.args.follows c.args.out.now is-while (c.write_loop.ensures ∙ ap items (while-code c.args.source.now.rows.now c.args.source.now.store c.in-While.e c.in-While.body (exits_of c.args.at.exits) c.args.at.label (omega (arith, is-while.onward.0.later))))

pub statements::write_statement-returns-in-Do : goal.statements::write_statement-returns-in-Do
statements::write_statement-returns-in-Do t c =
    let is-do = stated c.statement_at-line.ensures c.in-Do.is in
    let items : Items → List ℤ = λ xs. over (emit_items c.args.follows xs c.args.at.base) c.args.out.now in
    line-done c.args.source.now.store (exits_of c.args.at.exits) c.args.at.label c.args.at.base c.args.follows c.args.out.now is-do (c.write_loop-in-Do.ensures ∙ ap items (do-code c.args.source.now.rows.now c.args.source.now.store c.in-Do.body c.in-Do.e (exits_of c.args.at.exits) c.args.at.label (omega (arith, is-do.onward.1.later))))

pub statements::write_statement-returns-in-For : goal.statements::write_statement-returns-in-For
statements::write_statement-returns-in-For t c =
    let items : Items → List ℤ = λ xs. over (emit_items c.args.follows xs c.args.at.base) c.args.out.now in
    line-done c.args.source.now.store (exits_of c.args.at.exits) c.args.at.label c.args.at.base c.args.follows c.args.out.now (stated c.statement_at-line.ensures c.in-For.is) (c.write_loop-in-For.ensures ∙ ap items (for-code c.args.source.now.rows.now c.args.source.now.store c.in-For.first c.in-For.test c.in-For.action c.in-For.body (exits_of c.args.at.exits) c.args.at.label))

pub statements::write_statement-returns-in-Switch : goal.statements::write_statement-returns-in-Switch
statements::write_statement-returns-in-Switch t c =
    line-done c.args.source.now.store (exits_of c.args.at.exits) c.args.at.label c.args.at.base c.args.follows c.args.out.now (stated c.statement_at-line.ensures c.in-Switch.is) c.write_switch.ensures

pub statements::write_statement-returns-in-Break : goal.statements::write_statement-returns-in-Break
unfolding statement_code
statements::write_statement-returns-in-Break t c =
    line-done c.args.source.now.store (exits_of c.args.at.exits) c.args.at.label c.args.at.base c.args.follows c.args.out.now (stated c.statement_at-line.ensures c.in-Break.is) c.put_goto.ensures

pub statements::write_statement-returns-in-Continue : goal.statements::write_statement-returns-in-Continue
unfolding statement_code
statements::write_statement-returns-in-Continue t c =
    line-done c.args.source.now.store (exits_of c.args.at.exits) c.args.at.label c.args.at.base c.args.follows c.args.out.now (stated c.statement_at-line.ensures c.in-Continue.is) c.put_goto-in-Continue.ensures

pub statements::write_statement-returns-in-Goto : goal.statements::write_statement-returns-in-Goto
unfolding statement_code
statements::write_statement-returns-in-Goto t c =
    line-done c.args.source.now.store (exits_of c.args.at.exits) c.args.at.label c.args.at.base c.args.follows c.args.out.now (stated c.statement_at-line.ensures c.in-Goto.is) c.put_empty-in-Goto.ensures

pub statements::write_statement-returns-in-GuardedIf : goal.statements::write_statement-returns-in-GuardedIf
statements::write_statement-returns-in-GuardedIf t c =
    line-done c.args.source.now.store (exits_of c.args.at.exits) c.args.at.label c.args.at.base c.args.follows c.args.out.now (stated c.statement_at-line.ensures c.in-GuardedIf.is) c.write_choice.ensures

pub statements::write_statement-returns-in-GuardedDo : goal.statements::write_statement-returns-in-GuardedDo
statements::write_statement-returns-in-GuardedDo t c =
    line-done c.args.source.now.store (exits_of c.args.at.exits) c.args.at.label c.args.at.base c.args.follows c.args.out.now (stated c.statement_at-line.ensures c.in-GuardedDo.is) c.write_rounds.ensures

pub statements::write_statement-returns-in-Abort : goal.statements::write_statement-returns-in-Abort
unfolding statement_code
statements::write_statement-returns-in-Abort t c =
    line-done c.args.source.now.store (exits_of c.args.at.exits) c.args.at.label c.args.at.base c.args.follows c.args.out.now (stated c.statement_at-line.ensures c.in-Abort.is) c.put_empty-in-Abort.ensures

pub statements::write_statement-returns-in-Declare : goal.statements::write_statement-returns-in-Declare
unfolding statement_code
statements::write_statement-returns-in-Declare t c =
    line-done c.args.source.now.store (exits_of c.args.at.exits) c.args.at.label c.args.at.base c.args.follows c.args.out.now (stated c.statement_at-line.ensures c.in-Declare.is) c.write_declare.ensures

pub statements::write_statement-returns-in-Return : goal.statements::write_statement-returns-in-Return
statements::write_statement-returns-in-Return t c =
    let items : Items → List ℤ = λ xs. over (emit_items c.args.follows xs c.args.at.base) c.args.out.now in
    line-done c.args.source.now.store (exits_of c.args.at.exits) c.args.at.label c.args.at.base c.args.follows c.args.out.now (stated c.statement_at-line.ensures c.in-Return.is)
    (c.write_return.ensures ∙ ap items (returned-code (called_in c.args.source.now.rows.now) c.args.source.now.store (part_at c.args.source.now.rows.now c.in-Return.value) (exits_of c.args.at.exits) c.args.at.label))

-- A switch: its selector, the tests, the jump, the items, and the label behind it.

pub switches::write_switch-operand_size-k-requires : goal.switches::write_switch-operand_size-k-requires
switches::write_switch-operand_size-k-requires t c =
    (c.requires.0.measured, c.requires.1.selector_inside, omega (arith, (part-size wanted c.args.source.now.rows.now c.args.selector c.requires.1.selector_some), c.requires.1.room.low))

pub switches::write_switch-overflow_mul-n : goal.switches::write_switch-overflow_mul-n
switches::write_switch-overflow_mul-n t c =
    omega (arith, c.requires.1.room.low, c.requires.1.labels_low, (part-size wanted c.args.source.now.rows.now c.args.selector c.requires.1.selector_some), c.operand_size-k.ensures, c.list_cases.ensures)

pub switches::write_switch-overflow_add-n : goal.switches::write_switch-overflow_add-n
switches::write_switch-overflow_add-n t c =
    omega (arith, c.requires.1.room.low, c.requires.1.labels_low, (part-size wanted c.args.source.now.rows.now c.args.selector c.requires.1.selector_some), c.operand_size-k.ensures, c.list_cases.ensures)

pub switches::write_switch-overflow_add-i : goal.switches::write_switch-overflow_add-i
switches::write_switch-overflow_add-i t c =
    omega (arith, c.requires.1.room.low, c.requires.1.labels_low, (part-size wanted c.args.source.now.rows.now c.args.selector c.requires.1.selector_some), c.operand_size-k.ensures, c.list_cases.ensures)

pub switches::write_switch-overflow_add-m : goal.switches::write_switch-overflow_add-m
switches::write_switch-overflow_add-m t c =
    omega (arith, c.requires.1.room.low, c.requires.1.labels_low, (part-size wanted c.args.source.now.rows.now c.args.selector c.requires.1.selector_some), c.operand_size-k.ensures, c.list_cases.ensures, c.list_size.ensures)

pub switches::write_switch-taken_at-level-requires : goal.switches::write_switch-taken_at-level-requires
switches::write_switch-taken_at-level-requires t c =
    (c.requires.0.measured.source, c.requires.1.selector_inside, c.requires.0.measured.room, c.requires.0.measured.row_measured _ (omega arith) c.requires.1.selector_inside)

pub switches::write_switch-write_expression-requires : goal.switches::write_switch-write_expression-requires
switches::write_switch-write_expression-requires t c =
    (c.requires.0, record { inside = c.requires.1.selector_inside; level_low = omega (arith, part_low c.requires.0 c.args.selector c.requires.1.selector_inside wanted); use_fits = tt; room = room-less _ c.requires.1.room (omega (arith, (part-size wanted c.args.source.now.rows.now c.args.selector c.requires.1.selector_some))) })

pub switches::write_switch-overflow_add-at : goal.switches::write_switch-overflow_add-at
switches::write_switch-overflow_add-at t c =
    omega (arith, c.requires.1.room.inside, (part-size wanted c.args.source.now.rows.now c.args.selector c.requires.1.selector_some), c.operand_size-k.ensures, c.list_cases.ensures, c.list_size.ensures, c.write_expression.auto.out, c.requires.1.room.low)

pub switches::write_switch-overflow_add-at-2 : goal.switches::write_switch-overflow_add-at-2
switches::write_switch-overflow_add-at-2 t c =
    omega (arith, c.requires.1.room.inside, (part-size wanted c.args.source.now.rows.now c.args.selector c.requires.1.selector_some), c.operand_size-k.ensures, c.list_cases.ensures, c.list_size.ensures, c.write_expression.auto.out, c.requires.1.room.low)

pub switches::write_switch-overflow_mul-k : goal.switches::write_switch-overflow_mul-k
switches::write_switch-overflow_mul-k t c =
    omega (arith, c.requires.1.room.inside, (part-size wanted c.args.source.now.rows.now c.args.selector c.requires.1.selector_some), c.operand_size-k.ensures, c.list_cases.ensures, c.list_size.ensures, c.write_expression.auto.out, c.requires.1.room.low)

pub switches::write_switch-offset_bounds-out-k : goal.switches::write_switch-offset_bounds-out-k
switches::write_switch-offset_bounds-out-k t c =
    omega (arith, c.requires.1.room.inside, (part-size wanted c.args.source.now.rows.now c.args.selector c.requires.1.selector_some), c.operand_size-k.ensures, c.list_cases.ensures, c.list_size.ensures, c.write_expression.auto.out, c.requires.1.room.low)

pub switches::write_switch-slice_bounds-write_cases-count : goal.switches::write_switch-slice_bounds-write_cases-count
switches::write_switch-slice_bounds-write_cases-count t c =
    omega (arith, c.requires.1.room.inside, (part-size wanted c.args.source.now.rows.now c.args.selector c.requires.1.selector_some), c.operand_size-k.ensures, c.list_cases.ensures, c.list_size.ensures, c.write_expression.auto.out, c.requires.1.room.low)

pub switches::write_switch-slice_bounds-write_cases-start : goal.switches::write_switch-slice_bounds-write_cases-start
switches::write_switch-slice_bounds-write_cases-start t c =
    omega (arith, c.requires.1.room.inside, (part-size wanted c.args.source.now.rows.now c.args.selector c.requires.1.selector_some), c.operand_size-k.ensures, c.list_cases.ensures, c.list_size.ensures, c.write_expression.auto.out, c.requires.1.room.low)

pub switches::write_switch-write_cases-requires : goal.switches::write_switch-write_cases-requires
switches::write_switch-write_cases-requires t c = (
  c.requires.0.measured,
  record {
    inside = c.requires.1.inside;
    atom_fits = c.atom_at-atom.ensures.fits;
    number_low = omega (arith, c.requires.0.small_store, c.taken_at-level.ensures, taken_most (atom_of (called_in c.args.source.now.rows.now) (expression_at c.args.source.now.rows.now c.args.selector)));
    labels_low = omega (arith, c.requires.1.labels_low);
    room = room-behind c.operand_size-k.result _ c.write_expression.new.out c.requires.1.room c.write_expression.auto.out (omega (arith, (part-size wanted c.args.source.now.rows.now c.args.selector c.requires.1.selector_some), c.operand_size-k.ensures));
  },
)

pub switches::write_switch-overflow_add-at-3 : goal.switches::write_switch-overflow_add-at-3
switches::write_switch-overflow_add-at-3 t c =
    omega (arith, c.requires.1.room.low, c.requires.1.labels_low, (part-size wanted c.args.source.now.rows.now c.args.selector c.requires.1.selector_some), c.operand_size-k.ensures, c.list_cases.ensures, c.list_size.ensures)

pub switches::write_switch-overflow_add-at-4 : goal.switches::write_switch-overflow_add-at-4
switches::write_switch-overflow_add-at-4 t c =
    omega (arith, c.requires.1.room.inside, (part-size wanted c.args.source.now.rows.now c.args.selector c.requires.1.selector_some), c.operand_size-k.ensures, c.list_cases.ensures, c.list_size.ensures, c.write_expression.auto.out, (back-length c.operand_size-k.result c.write_expression.new.out c.write_cases.new.out c.write_cases.auto.out), c.requires.1.room.low)

pub switches::write_switch-overflow_mul-n-2 : goal.switches::write_switch-overflow_mul-n-2
switches::write_switch-overflow_mul-n-2 t c =
    omega (arith, c.requires.1.room.inside, (part-size wanted c.args.source.now.rows.now c.args.selector c.requires.1.selector_some), c.operand_size-k.ensures, c.list_cases.ensures, c.list_size.ensures, c.write_expression.auto.out, (back-length c.operand_size-k.result c.write_expression.new.out c.write_cases.new.out c.write_cases.auto.out), c.requires.1.room.low)

pub switches::write_switch-offset_bounds-out-n : goal.switches::write_switch-offset_bounds-out-n
switches::write_switch-offset_bounds-out-n t c =
    omega (arith, c.requires.1.room.inside, (part-size wanted c.args.source.now.rows.now c.args.selector c.requires.1.selector_some), c.operand_size-k.ensures, c.list_cases.ensures, c.list_size.ensures, c.write_expression.auto.out, (back-length c.operand_size-k.result c.write_expression.new.out c.write_cases.new.out c.write_cases.auto.out), c.requires.1.room.low)

pub switches::write_switch-slice_bounds-put_goto-count : goal.switches::write_switch-slice_bounds-put_goto-count
switches::write_switch-slice_bounds-put_goto-count t c =
    omega (arith, c.requires.1.room.inside, (part-size wanted c.args.source.now.rows.now c.args.selector c.requires.1.selector_some), c.operand_size-k.ensures, c.list_cases.ensures, c.list_size.ensures, c.write_expression.auto.out, (back-length c.operand_size-k.result c.write_expression.new.out c.write_cases.new.out c.write_cases.auto.out), c.requires.1.room.low)

pub switches::write_switch-slice_bounds-put_goto-start : goal.switches::write_switch-slice_bounds-put_goto-start
switches::write_switch-slice_bounds-put_goto-start t c =
    omega (arith, c.requires.1.room.inside, (part-size wanted c.args.source.now.rows.now c.args.selector c.requires.1.selector_some), c.operand_size-k.ensures, c.list_cases.ensures, c.list_size.ensures, c.write_expression.auto.out, (back-length c.operand_size-k.result c.write_expression.new.out c.write_cases.new.out c.write_cases.auto.out), c.requires.1.room.low)

pub switches::write_switch-put_goto-requires : goal.switches::write_switch-put_goto-requires
switches::write_switch-put_goto-requires t c =
    (room-behind (c.operand_size-k.result + 11 * c.list_cases.result) 1 (back_in c.operand_size-k.result c.write_expression.new.out c.write_cases.new.out) c.requires.1.room ((back-length c.operand_size-k.result c.write_expression.new.out c.write_cases.new.out c.write_cases.auto.out) ∙ c.write_expression.auto.out) (omega (arith, (part-size wanted c.args.source.now.rows.now c.args.selector c.requires.1.selector_some), c.operand_size-k.ensures, c.list_cases.ensures)), omega (arith, (default-low (list_at c.args.source.now.rows.now c.args.list) (c.args.at.label + 1) c.args.at.label (omega (arith, c.requires.1.labels_low)) (omega (arith, c.requires.1.labels_low))), c.default_label.ensures))

pub switches::write_switch-overflow_add-at-6 : goal.switches::write_switch-overflow_add-at-6
switches::write_switch-overflow_add-at-6 t c =
    omega (arith, c.requires.1.room.inside, (part-size wanted c.args.source.now.rows.now c.args.selector c.requires.1.selector_some), c.operand_size-k.ensures, c.list_cases.ensures, c.list_size.ensures, c.write_expression.auto.out, (back-length c.operand_size-k.result c.write_expression.new.out c.write_cases.new.out c.write_cases.auto.out), (back-length (c.operand_size-k.result + 11 * c.list_cases.result) (back_in c.operand_size-k.result c.write_expression.new.out c.write_cases.new.out) c.put_goto.new.out c.put_goto.auto.out), c.requires.1.room.low)

pub switches::write_switch-overflow_mul-i : goal.switches::write_switch-overflow_mul-i
switches::write_switch-overflow_mul-i t c =
    omega (arith, c.requires.1.room.inside, (part-size wanted c.args.source.now.rows.now c.args.selector c.requires.1.selector_some), c.operand_size-k.ensures, c.list_cases.ensures, c.list_size.ensures, c.write_expression.auto.out, (back-length c.operand_size-k.result c.write_expression.new.out c.write_cases.new.out c.write_cases.auto.out), (back-length (c.operand_size-k.result + 11 * c.list_cases.result) (back_in c.operand_size-k.result c.write_expression.new.out c.write_cases.new.out) c.put_goto.new.out c.put_goto.auto.out), c.requires.1.room.low)

pub switches::write_switch-offset_bounds-out-i : goal.switches::write_switch-offset_bounds-out-i
switches::write_switch-offset_bounds-out-i t c =
    omega (arith, c.requires.1.room.inside, (part-size wanted c.args.source.now.rows.now c.args.selector c.requires.1.selector_some), c.operand_size-k.ensures, c.list_cases.ensures, c.list_size.ensures, c.write_expression.auto.out, (back-length c.operand_size-k.result c.write_expression.new.out c.write_cases.new.out c.write_cases.auto.out), (back-length (c.operand_size-k.result + 11 * c.list_cases.result) (back_in c.operand_size-k.result c.write_expression.new.out c.write_cases.new.out) c.put_goto.new.out c.put_goto.auto.out), c.requires.1.room.low)

pub switches::write_switch-slice_bounds-write_list-count : goal.switches::write_switch-slice_bounds-write_list-count
switches::write_switch-slice_bounds-write_list-count t c =
    omega (arith, c.requires.1.room.inside, (part-size wanted c.args.source.now.rows.now c.args.selector c.requires.1.selector_some), c.operand_size-k.ensures, c.list_cases.ensures, c.list_size.ensures, c.write_expression.auto.out, (back-length c.operand_size-k.result c.write_expression.new.out c.write_cases.new.out c.write_cases.auto.out), (back-length (c.operand_size-k.result + 11 * c.list_cases.result) (back_in c.operand_size-k.result c.write_expression.new.out c.write_cases.new.out) c.put_goto.new.out c.put_goto.auto.out), c.requires.1.room.low)

pub switches::write_switch-slice_bounds-write_list-start : goal.switches::write_switch-slice_bounds-write_list-start
switches::write_switch-slice_bounds-write_list-start t c =
    omega (arith, c.requires.1.room.inside, (part-size wanted c.args.source.now.rows.now c.args.selector c.requires.1.selector_some), c.operand_size-k.ensures, c.list_cases.ensures, c.list_size.ensures, c.write_expression.auto.out, (back-length c.operand_size-k.result c.write_expression.new.out c.write_cases.new.out c.write_cases.auto.out), (back-length (c.operand_size-k.result + 11 * c.list_cases.result) (back_in c.operand_size-k.result c.write_expression.new.out c.write_cases.new.out) c.put_goto.new.out c.put_goto.auto.out), c.requires.1.room.low)

pub switches::write_switch-write_list-requires : goal.switches::write_switch-write_list-requires
switches::write_switch-write_list-requires t c =
    let jump-at = c.operand_size-k.result + 11 * c.list_cases.result in
    let tests-table = back_in c.operand_size-k.result c.write_expression.new.out c.write_cases.new.out in (
      omega (arith, c.decreases),
      (
        c.requires.0,
        record {
          inside = c.requires.1.inside;
          room = room-behind (c.operand_size-k.result + 11 * c.list_cases.result + 1) _ (back_in jump-at tests-table c.put_goto.new.out) c.requires.1.room ((back-length jump-at tests-table c.put_goto.new.out c.put_goto.auto.out) ∙ (back-length c.operand_size-k.result c.write_expression.new.out c.write_cases.new.out c.write_cases.auto.out) ∙ c.write_expression.auto.out) (omega (arith, (part-size wanted c.args.source.now.rows.now c.args.selector c.requires.1.selector_some), c.operand_size-k.ensures, c.list_cases.ensures));
          labels_low = omega (arith, c.requires.1.labels_low);
          exits_low = (omega (arith, c.requires.1.labels_low), c.requires.1.exits_low.1);
        },
      ),
    )

pub switches::write_switch-overflow_add-at-7 : goal.switches::write_switch-overflow_add-at-7
switches::write_switch-overflow_add-at-7 t c =
    let jump-at = c.operand_size-k.result + 11 * c.list_cases.result in
    let tests-table = back_in c.operand_size-k.result c.write_expression.new.out c.write_cases.new.out in
    omega (arith, c.requires.1.room.inside, (part-size wanted c.args.source.now.rows.now c.args.selector c.requires.1.selector_some), c.operand_size-k.ensures, c.list_cases.ensures, c.list_size.ensures, c.write_expression.auto.out, (back-length c.operand_size-k.result c.write_expression.new.out c.write_cases.new.out c.write_cases.auto.out), (back-length jump-at tests-table c.put_goto.new.out c.put_goto.auto.out), (back-length (c.operand_size-k.result + 11 * c.list_cases.result + 1) (back_in jump-at tests-table c.put_goto.new.out) c.write_list.new.out c.write_list.auto.out), c.requires.1.room.low)

pub switches::write_switch-overflow_mul-m : goal.switches::write_switch-overflow_mul-m
switches::write_switch-overflow_mul-m t c =
    let jump-at = c.operand_size-k.result + 11 * c.list_cases.result in
    let tests-table = back_in c.operand_size-k.result c.write_expression.new.out c.write_cases.new.out in
    omega (arith, c.requires.1.room.inside, (part-size wanted c.args.source.now.rows.now c.args.selector c.requires.1.selector_some), c.operand_size-k.ensures, c.list_cases.ensures, c.list_size.ensures, c.write_expression.auto.out, (back-length c.operand_size-k.result c.write_expression.new.out c.write_cases.new.out c.write_cases.auto.out), (back-length jump-at tests-table c.put_goto.new.out c.put_goto.auto.out), (back-length (c.operand_size-k.result + 11 * c.list_cases.result + 1) (back_in jump-at tests-table c.put_goto.new.out) c.write_list.new.out c.write_list.auto.out), c.requires.1.room.low)

pub switches::write_switch-offset_bounds-out-m : goal.switches::write_switch-offset_bounds-out-m
switches::write_switch-offset_bounds-out-m t c =
    let jump-at = c.operand_size-k.result + 11 * c.list_cases.result in
    let tests-table = back_in c.operand_size-k.result c.write_expression.new.out c.write_cases.new.out in
    omega (arith, c.requires.1.room.inside, (part-size wanted c.args.source.now.rows.now c.args.selector c.requires.1.selector_some), c.operand_size-k.ensures, c.list_cases.ensures, c.list_size.ensures, c.write_expression.auto.out, (back-length c.operand_size-k.result c.write_expression.new.out c.write_cases.new.out c.write_cases.auto.out), (back-length jump-at tests-table c.put_goto.new.out c.put_goto.auto.out), (back-length (c.operand_size-k.result + 11 * c.list_cases.result + 1) (back_in jump-at tests-table c.put_goto.new.out) c.write_list.new.out c.write_list.auto.out), c.requires.1.room.low)

pub switches::write_switch-slice_bounds-put_label-count : goal.switches::write_switch-slice_bounds-put_label-count
switches::write_switch-slice_bounds-put_label-count t c =
    let jump-at = c.operand_size-k.result + 11 * c.list_cases.result in
    let tests-table = back_in c.operand_size-k.result c.write_expression.new.out c.write_cases.new.out in
    omega (arith, c.requires.1.room.inside, (part-size wanted c.args.source.now.rows.now c.args.selector c.requires.1.selector_some), c.operand_size-k.ensures, c.list_cases.ensures, c.list_size.ensures, c.write_expression.auto.out, (back-length c.operand_size-k.result c.write_expression.new.out c.write_cases.new.out c.write_cases.auto.out), (back-length jump-at tests-table c.put_goto.new.out c.put_goto.auto.out), (back-length (c.operand_size-k.result + 11 * c.list_cases.result + 1) (back_in jump-at tests-table c.put_goto.new.out) c.write_list.new.out c.write_list.auto.out), c.requires.1.room.low)

pub switches::write_switch-slice_bounds-put_label-start : goal.switches::write_switch-slice_bounds-put_label-start
switches::write_switch-slice_bounds-put_label-start t c =
    let jump-at = c.operand_size-k.result + 11 * c.list_cases.result in
    let tests-table = back_in c.operand_size-k.result c.write_expression.new.out c.write_cases.new.out in
    omega (arith, c.requires.1.room.inside, (part-size wanted c.args.source.now.rows.now c.args.selector c.requires.1.selector_some), c.operand_size-k.ensures, c.list_cases.ensures, c.list_size.ensures, c.write_expression.auto.out, (back-length c.operand_size-k.result c.write_expression.new.out c.write_cases.new.out c.write_cases.auto.out), (back-length jump-at tests-table c.put_goto.new.out c.put_goto.auto.out), (back-length (c.operand_size-k.result + 11 * c.list_cases.result + 1) (back_in jump-at tests-table c.put_goto.new.out) c.write_list.new.out c.write_list.auto.out), c.requires.1.room.low)

pub switches::write_switch-put_label-requires : goal.switches::write_switch-put_label-requires
switches::write_switch-put_label-requires t c =
    let items-at = c.operand_size-k.result + 11 * c.list_cases.result + 1 in
    let jump-at = c.operand_size-k.result + 11 * c.list_cases.result in
    let tests-table = back_in c.operand_size-k.result c.write_expression.new.out c.write_cases.new.out in
    let jump-table = back_in jump-at tests-table c.put_goto.new.out in
    (room-behind (c.operand_size-k.result + 11 * c.list_cases.result + 1 + c.list_size.result) 1 (back_in items-at jump-table c.write_list.new.out) c.requires.1.room ((back-length items-at jump-table c.write_list.new.out c.write_list.auto.out) ∙ (back-length jump-at tests-table c.put_goto.new.out c.put_goto.auto.out) ∙ (back-length c.operand_size-k.result c.write_expression.new.out c.write_cases.new.out c.write_cases.auto.out) ∙ c.write_expression.auto.out) (omega (arith, (part-size wanted c.args.source.now.rows.now c.args.selector c.requires.1.selector_some), c.operand_size-k.ensures, c.list_cases.ensures, c.list_size.ensures)), omega (arith, c.requires.1.labels_low))

pub switches::write_switch-shape_of-out : goal.switches::write_switch-shape_of-out
switches::write_switch-shape_of-out t c =
    let items-at = c.operand_size-k.result + 11 * c.list_cases.result + 1 in
    let jump-at = c.operand_size-k.result + 11 * c.list_cases.result in
    let tests-table = back_in c.operand_size-k.result c.write_expression.new.out c.write_cases.new.out in
    let jump-table = back_in jump-at tests-table c.put_goto.new.out in
    (back-length (c.operand_size-k.result + 11 * c.list_cases.result + 1 + c.list_size.result) (back_in items-at jump-table c.write_list.new.out) c.put_label.new.out c.put_label.auto.out) ∙ (back-length items-at jump-table c.write_list.new.out c.write_list.auto.out) ∙ (back-length jump-at tests-table c.put_goto.new.out c.put_goto.auto.out) ∙ (back-length c.operand_size-k.result c.write_expression.new.out c.write_cases.new.out c.write_cases.auto.out) ∙ c.write_expression.auto.out

pub switches::write_switch-returns : goal.switches::write_switch-returns
switches::write_switch-returns t c =
    switch-done c.args.source.now.store c.args.source.now.rows.now c.args.selector (list_at c.args.source.now.rows.now c.args.list) (exits_of c.args.at.exits) c.args.at.label c.args.at.base c.args.follows c.args.out.now
    c.requires.1.selector_some c.atom_at-atom.ensures c.operand_size-k.ensures c.list_cases.ensures c.list_size.ensures c.taken_at-level.ensures c.default_label.ensures
    c.write_expression.ensures c.write_cases.ensures c.put_goto.ensures c.write_list.ensures c.put_label.ensures
