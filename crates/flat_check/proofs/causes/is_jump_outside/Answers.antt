-- `is_jump_outside` tests a jump's target, and that another line has the distance 0.
use mathlib.Core.Path.{ap}
use mathlib.Core.Bool.{not}
use Rattle.words.specs.Word.{natural}
use Rattle.flat.specs.Refusal.{lands_inside}
use Rattle.flat_check.proofs.Tests.{handed, jump-is}
use borrow.Author.Rules.{rules}
use Rattle.flat_check.proofs.causes.is_jump_outside.Goals as goal

pub returns-then-shape : goal.returns-then-shape
returns-then-shape c =
    rw (jump-is _ _ _ _ c.shape_or_unused-shape.result c.operation_at.ensures c.operation_kind.ensures c.shape_or_unused-shape.ensures, c.if-shape.true) (ap not (handed (lands_inside _ _) c.word_at-distance.result _ c.word_at-distance.type_inv c.word_at-distance.ensures c.lands_inside.ensures))

pub returns : goal.returns
returns c =
    rw (jump-is _ _ _ _ c.shape_or_unused-shape.result c.operation_at.ensures c.operation_kind.ensures c.shape_or_unused-shape.ensures, c.if-shape.false, ← handed natural c.word_at-distance.result _ c.word_at-distance.type_inv c.word_at-distance.ensures c.natural.ensures)
