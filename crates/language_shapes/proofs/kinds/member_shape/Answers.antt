-- The shape of a row that is no item of a list: an arm or an argument.
use Rattle.language_shapes.proofs.Reading.{member-arm}
use borrow.Author.Rules.{rules}
use Rattle.language_shapes.proofs.kinds.member_shape.Goals as goal

pub returns-in-Arm : goal.returns-in-Arm
returns-in-Arm c = member-arm _ _ _ _ c.in-Arm.is c.number_at-a.ensures c.number_at-b.ensures

pub returns-in-Argument : goal.returns-in-Argument
returns-in-Argument c = member-arm _ _ _ _ c.in-Argument.is c.number_at-a.ensures c.number_at-b.ensures
