-- The shape of a statement of a kind: each arm of the match is a line of the definition.
use Rattle.language_shapes.proofs.Reading.{statement-arm}
use borrow.Author.Rules.{rules}
use Rattle.language_shapes.proofs.kinds.statement_shape.Goals as goal

pub returns-in-Empty : goal.returns-in-Empty
returns-in-Empty c = statement-arm _ _ _ _ _ _ c.in-Empty.is c.number_at-a.ensures c.number_at-b.ensures c.number_at-c.ensures c.number_at-d.ensures

pub returns-in-Express : goal.returns-in-Express
returns-in-Express c = statement-arm _ _ _ _ _ _ c.in-Express.is c.number_at-a.ensures c.number_at-b.ensures c.number_at-c.ensures c.number_at-d.ensures

pub returns-in-Block : goal.returns-in-Block
returns-in-Block c = statement-arm _ _ _ _ _ _ c.in-Block.is c.number_at-a.ensures c.number_at-b.ensures c.number_at-c.ensures c.number_at-d.ensures

pub returns-in-If : goal.returns-in-If
returns-in-If c = statement-arm _ _ _ _ _ _ c.in-If.is c.number_at-a.ensures c.number_at-b.ensures c.number_at-c.ensures c.number_at-d.ensures

pub returns-in-While : goal.returns-in-While
returns-in-While c = statement-arm _ _ _ _ _ _ c.in-While.is c.number_at-a.ensures c.number_at-b.ensures c.number_at-c.ensures c.number_at-d.ensures

pub returns-in-Do : goal.returns-in-Do
returns-in-Do c = statement-arm _ _ _ _ _ _ c.in-Do.is c.number_at-a.ensures c.number_at-b.ensures c.number_at-c.ensures c.number_at-d.ensures

pub returns-in-For : goal.returns-in-For
returns-in-For c = statement-arm _ _ _ _ _ _ c.in-For.is c.number_at-a.ensures c.number_at-b.ensures c.number_at-c.ensures c.number_at-d.ensures

pub returns-in-Switch : goal.returns-in-Switch
returns-in-Switch c = statement-arm _ _ _ _ _ _ c.in-Switch.is c.number_at-a.ensures c.number_at-b.ensures c.number_at-c.ensures c.number_at-d.ensures

pub returns-in-Break : goal.returns-in-Break
returns-in-Break c = statement-arm _ _ _ _ _ _ c.in-Break.is c.number_at-a.ensures c.number_at-b.ensures c.number_at-c.ensures c.number_at-d.ensures

pub returns-in-Continue : goal.returns-in-Continue
returns-in-Continue c = statement-arm _ _ _ _ _ _ c.in-Continue.is c.number_at-a.ensures c.number_at-b.ensures c.number_at-c.ensures c.number_at-d.ensures

pub returns-in-Goto : goal.returns-in-Goto
returns-in-Goto c = statement-arm _ _ _ _ _ _ c.in-Goto.is c.number_at-a.ensures c.number_at-b.ensures c.number_at-c.ensures c.number_at-d.ensures

pub returns-in-GuardedIf : goal.returns-in-GuardedIf
returns-in-GuardedIf c = statement-arm _ _ _ _ _ _ c.in-GuardedIf.is c.number_at-a.ensures c.number_at-b.ensures c.number_at-c.ensures c.number_at-d.ensures

pub returns-in-GuardedDo : goal.returns-in-GuardedDo
returns-in-GuardedDo c = statement-arm _ _ _ _ _ _ c.in-GuardedDo.is c.number_at-a.ensures c.number_at-b.ensures c.number_at-c.ensures c.number_at-d.ensures

pub returns-in-Abort : goal.returns-in-Abort
returns-in-Abort c = statement-arm _ _ _ _ _ _ c.in-Abort.is c.number_at-a.ensures c.number_at-b.ensures c.number_at-c.ensures c.number_at-d.ensures

pub returns-in-Declare : goal.returns-in-Declare
returns-in-Declare c = statement-arm _ _ _ _ _ _ c.in-Declare.is c.number_at-a.ensures c.number_at-b.ensures c.number_at-c.ensures c.number_at-d.ensures

pub returns-in-Return : goal.returns-in-Return
returns-in-Return c = statement-arm _ _ _ _ _ _ c.in-Return.is c.number_at-a.ensures c.number_at-b.ensures c.number_at-c.ensures c.number_at-d.ensures
