-- `words_hold_right` tests target, left and right.
use mathlib.Core.Path.{◌≡◌, ap, sym, ◌∙◌}
use mathlib.Core.Bool.{not, false, ◌&&◌}
use Rattle.flat.specs.Words.{field_at, left_constant, right_constant}
use Rattle.flat.specs.Refusal.{holds_right}
use Rattle.flat_check.proofs.Tests.{handed, number_is, third-counts, third-spared}
use borrow.Author.Rules.{rules}
use Rattle.flat_check.proofs.causes.words_hold_right.Goals as goal
use Rattle.flat_check.proofs.causes.words_hold_right.Goals.{then-holds_right, else-holds_right}

pub returns-then-holds_right-2 : goal.returns-then-holds_right-2
returns-then-holds_right-2 c =
    let shape = c.shape_or_unused-shape.result in
    let a = holds_right c.args.bounds shape.target false (field_at c.args.list.now c.args.line 1) in
    let b = holds_right c.args.bounds shape.left (left_constant c.operation_at-operation.result) (field_at c.args.list.now c.args.line 2) in
    let d = holds_right c.args.bounds shape.right (right_constant c.operation_at-operation.result) (field_at c.args.list.now c.args.line 3) in
    let first : c.holds_right.result ≡ a = handed (holds_right _ _ _) c.word_at.result _ c.word_at.type_inv c.word_at.ensures c.holds_right.ensures in
    let two : c.if-holds_right.value ≡ (a && b) =
    elim c.if-holds_right.branch [
      | then-holds_right w ↦ rw (← first, w.if-holds_right.true, ← w.left_constant.ensures) (w.value-is ∙ handed (holds_right _ _ _) w.word_at-then-holds_right.result _ w.word_at-then-holds_right.type_inv w.word_at-then-holds_right.ensures w.holds_right-then-holds_right.ensures)
      | else-holds_right w ↦ rw (← first, w.if-holds_right.false) (w.value-is ∙ w.if-holds_right.false)
    ] in
    let three : c.holds_right-then-holds_right-2.result ≡ d = rw (← c.right_constant.ensures) (handed (holds_right _ _ _) c.word_at-then-holds_right-2.result _ c.word_at-then-holds_right-2.type_inv c.word_at-then-holds_right-2.ensures c.holds_right-then-holds_right-2.ensures) in
    third-counts a b d _ two c.if-holds_right-2.true _ three ∙ sym (number_is _ _ _ _ c.shape_or_unused-shape.result c.operation_at-operation.ensures c.operation_kind.ensures c.shape_or_unused-shape.ensures _)

pub returns-else-holds_right-2 : goal.returns-else-holds_right-2
returns-else-holds_right-2 c =
    let shape = c.shape_or_unused-shape.result in
    let a = holds_right c.args.bounds shape.target false (field_at c.args.list.now c.args.line 1) in
    let b = holds_right c.args.bounds shape.left (left_constant c.operation_at-operation.result) (field_at c.args.list.now c.args.line 2) in
    let d = holds_right c.args.bounds shape.right (right_constant c.operation_at-operation.result) (field_at c.args.list.now c.args.line 3) in
    let first : c.holds_right.result ≡ a = handed (holds_right _ _ _) c.word_at.result _ c.word_at.type_inv c.word_at.ensures c.holds_right.ensures in
    let two : c.if-holds_right.value ≡ (a && b) =
    elim c.if-holds_right.branch [
      | then-holds_right w ↦ rw (← first, w.if-holds_right.true, ← w.left_constant.ensures) (w.value-is ∙ handed (holds_right _ _ _) w.word_at-then-holds_right.result _ w.word_at-then-holds_right.type_inv w.word_at-then-holds_right.ensures w.holds_right-then-holds_right.ensures)
      | else-holds_right w ↦ rw (← first, w.if-holds_right.false) (w.value-is ∙ w.if-holds_right.false)
    ] in
    third-spared a b d _ two c.if-holds_right-2.false ∙ sym (number_is _ _ _ _ c.shape_or_unused-shape.result c.operation_at-operation.ensures c.operation_kind.ensures c.shape_or_unused-shape.ensures _)
