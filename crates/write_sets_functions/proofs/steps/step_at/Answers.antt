-- What a statement's own row writes, and the links at which more is written, by its shape.
use mathlib.Core.Path.{refl}
use Rattle.language_shapes.specs.ShapeLaws.{stated}
use Rattle.write_sets_functions.proofs.StepLaws.{empty-step, express-step, block-step, if-step, while-step, do-step, for-step, switch-step, break-step, continue-step, goto-step, guarded-if-step, guarded-do-step, abort-step, return-step}
use Rattle.write_sets_functions.proofs.steps.step_at.Goals as goal

pub declare_step-requires : goal.declare_step-requires
declare_step-requires c = (c.requires.1, stated c.statement_at-shape.ensures c.in-Declare.is)

pub returns-in-Empty : goal.returns-in-Empty
returns-in-Empty c = λ called. empty-step called (stated c.statement_at-shape.ensures c.in-Empty.is) refl

pub returns-in-Express : goal.returns-in-Express
returns-in-Express c = λ called. express-step called (stated c.statement_at-shape.ensures c.in-Express.is) refl

pub returns-in-Block : goal.returns-in-Block
returns-in-Block c = λ called. block-step called (stated c.statement_at-shape.ensures c.in-Block.is) refl

pub returns-in-If : goal.returns-in-If
returns-in-If c = λ called. if-step called (stated c.statement_at-shape.ensures c.in-If.is) refl

pub returns-in-While : goal.returns-in-While
returns-in-While c = λ called. while-step called (stated c.statement_at-shape.ensures c.in-While.is) refl

pub returns-in-Do : goal.returns-in-Do
returns-in-Do c = λ called. do-step called (stated c.statement_at-shape.ensures c.in-Do.is) refl

pub returns-in-For : goal.returns-in-For
returns-in-For c = λ called. for-step called (stated c.statement_at-shape.ensures c.in-For.is) refl

pub returns-in-Switch : goal.returns-in-Switch
returns-in-Switch c = λ called. switch-step called (stated c.statement_at-shape.ensures c.in-Switch.is) refl

pub returns-in-Break : goal.returns-in-Break
returns-in-Break c = λ called. break-step called (stated c.statement_at-shape.ensures c.in-Break.is) refl

pub returns-in-Continue : goal.returns-in-Continue
returns-in-Continue c = λ called. continue-step called (stated c.statement_at-shape.ensures c.in-Continue.is) refl

pub returns-in-Goto : goal.returns-in-Goto
returns-in-Goto c = λ called. goto-step called (stated c.statement_at-shape.ensures c.in-Goto.is) refl

pub returns-in-GuardedIf : goal.returns-in-GuardedIf
returns-in-GuardedIf c = λ called. guarded-if-step called (stated c.statement_at-shape.ensures c.in-GuardedIf.is) refl

pub returns-in-GuardedDo : goal.returns-in-GuardedDo
returns-in-GuardedDo c = λ called. guarded-do-step called (stated c.statement_at-shape.ensures c.in-GuardedDo.is) refl

pub returns-in-Abort : goal.returns-in-Abort
returns-in-Abort c = λ called. abort-step called (stated c.statement_at-shape.ensures c.in-Abort.is) refl

pub returns-in-Return : goal.returns-in-Return
returns-in-Return c = λ called. return-step called (stated c.statement_at-shape.ensures c.in-Return.is) refl
