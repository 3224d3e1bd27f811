-- The measures of a statement, shape by shape.
use mathlib.Core.Path.{refl}
use native.Mathlib.Omega.{arith}
use Rattle.language.specs.Decode.{expression_at}
use Rattle.language_shapes.specs.ShapeLaws.{stated, optional}
use Rattle.translation.specs.Uses.{direct}
use Rattle.translation.specs.Translate.{atom_of, labels, statement_levels}
use Rattle.translation.specs.TranslateSize.{statement_size}
use Rattle.translation.proofs.TranslateBounds.{taken_most}
use Rattle.measures_table.specs.Parts.{called_in}
use Rattle.measures_table.specs.MeasureLaws.{slot-asks, link-asks}
use Rattle.measures.proofs.StatementLaws.{absent-link, store-small, plain-measured, express-measured, block-measured, if-measured, while-shape, do-shape, for-measured, switch-measured, guarded-measured, rounds-shape, declare-measured, return-measured}
use Rattle.measures.proofs.statements.measured_statement.Goals as goal

pub express_measures-requires : goal.express_measures-requires
express_measures-requires c = slot-asks c.requires.0 (optional (stated c.statement_at-shape.ensures c.in-Express.is).onward)

pub block_measures-requires : goal.block_measures-requires
block_measures-requires c = slot-asks c.requires.0 (stated c.statement_at-shape.ensures c.in-Block.is).onward

pub if_measures-requires : goal.if_measures-requires
if_measures-requires c = (slot-asks c.requires.0 (optional (stated c.statement_at-shape.ensures c.in-If.is).onward.0), slot-asks c.requires.0 (optional (stated c.statement_at-shape.ensures c.in-If.is).onward.1), slot-asks c.requires.0 (stated c.statement_at-shape.ensures c.in-If.is).onward.2)

pub loop_measures-requires : goal.loop_measures-requires
loop_measures-requires c = (slot-asks c.requires.0 (absent-link), slot-asks c.requires.0 (optional (stated c.statement_at-shape.ensures c.in-While.is).onward.0), slot-asks c.requires.0 (absent-link), slot-asks c.requires.0 (optional (stated c.statement_at-shape.ensures c.in-While.is).onward.1))

pub loop_measures-requires-in-Do : goal.loop_measures-requires-in-Do
loop_measures-requires-in-Do c = (slot-asks c.requires.0 (absent-link), slot-asks c.requires.0 (optional (stated c.statement_at-shape.ensures c.in-Do.is).onward.1), slot-asks c.requires.0 (absent-link), slot-asks c.requires.0 (optional (stated c.statement_at-shape.ensures c.in-Do.is).onward.0))

pub loop_measures-requires-in-For : goal.loop_measures-requires-in-For
loop_measures-requires-in-For c = (slot-asks c.requires.0 (stated c.statement_at-shape.ensures c.in-For.is).onward.0, slot-asks c.requires.0 (stated c.statement_at-shape.ensures c.in-For.is).onward.1, slot-asks c.requires.0 (stated c.statement_at-shape.ensures c.in-For.is).onward.2, slot-asks c.requires.0 (optional (stated c.statement_at-shape.ensures c.in-For.is).onward.3))

pub taken_at-requires : goal.taken_at-requires
taken_at-requires c = link-asks c.requires.0 (stated c.statement_at-shape.ensures c.in-Switch.is).onward.0

pub switch_measures-requires : goal.switch_measures-requires
switch_measures-requires c = (slot-asks c.requires.0 (optional (stated c.statement_at-shape.ensures c.in-Switch.is).onward.0), slot-asks c.requires.0 (stated c.statement_at-shape.ensures c.in-Switch.is).onward.1, omega (arith, c.taken_at.ensures, taken_most (atom_of (called_in c.args.rows.now) (expression_at c.args.rows.now c.in-Switch.e))))

pub guarded_measures-requires : goal.guarded_measures-requires
guarded_measures-requires c = (slot-asks c.requires.0 (stated c.statement_at-shape.ensures c.in-GuardedIf.is).onward, omega arith, omega arith)

pub rounds_measures-requires : goal.rounds_measures-requires
rounds_measures-requires c = slot-asks c.requires.0 (stated c.statement_at-shape.ensures c.in-GuardedDo.is).onward

pub store_rows-requires : goal.store_rows-requires
store_rows-requires c = (c.requires.0.source, (stated c.statement_at-shape.ensures c.in-Declare.is).onward.1.inside)

pub declare_measures-requires : goal.declare_measures-requires
declare_measures-requires c = (slot-asks c.requires.0 (stated c.statement_at-shape.ensures c.in-Declare.is).onward.1.onward, store-small (direct (expression_at c.args.rows.now c.in-Declare.e)) c.store_rows.ensures)

pub return_measures-requires : goal.return_measures-requires
return_measures-requires c = slot-asks c.requires.0 (stated c.statement_at-shape.ensures c.in-Return.is).onward

pub returns-in-Empty : goal.returns-in-Empty
unfolding statement_size statement_levels labels
returns-in-Empty c = plain-measured c.requires.0 (stated c.statement_at-shape.ensures c.in-Empty.is) refl refl refl c.plain_measures.ensures

pub returns-in-Express : goal.returns-in-Express
returns-in-Express c = express-measured c.requires.0 (stated c.statement_at-shape.ensures c.in-Express.is) c.express_measures.ensures

pub returns-in-Block : goal.returns-in-Block
returns-in-Block c = block-measured c.requires.0 (stated c.statement_at-shape.ensures c.in-Block.is) c.block_measures.ensures

pub returns-in-If : goal.returns-in-If
returns-in-If c = if-measured c.requires.0 (stated c.statement_at-shape.ensures c.in-If.is) c.if_measures.ensures

pub returns-in-While : goal.returns-in-While
returns-in-While c = while-shape c.requires.0 (stated c.statement_at-shape.ensures c.in-While.is) c.loop_measures.ensures

pub returns-in-Do : goal.returns-in-Do
returns-in-Do c = do-shape c.requires.0 (stated c.statement_at-shape.ensures c.in-Do.is) c.loop_measures-in-Do.ensures

pub returns-in-For : goal.returns-in-For
returns-in-For c = for-measured c.requires.0 (stated c.statement_at-shape.ensures c.in-For.is) c.loop_measures-in-For.ensures

pub returns-in-Switch : goal.returns-in-Switch
returns-in-Switch c = switch-measured c.requires.0 (stated c.statement_at-shape.ensures c.in-Switch.is) c.taken_at.ensures c.switch_measures.ensures

pub returns-in-Break : goal.returns-in-Break
unfolding statement_size statement_levels labels
returns-in-Break c = plain-measured c.requires.0 (stated c.statement_at-shape.ensures c.in-Break.is) refl refl refl c.plain_measures-in-Break.ensures

pub returns-in-Continue : goal.returns-in-Continue
unfolding statement_size statement_levels labels
returns-in-Continue c = plain-measured c.requires.0 (stated c.statement_at-shape.ensures c.in-Continue.is) refl refl refl c.plain_measures-in-Continue.ensures

pub returns-in-Goto : goal.returns-in-Goto
unfolding statement_size statement_levels labels
returns-in-Goto c = plain-measured c.requires.0 (stated c.statement_at-shape.ensures c.in-Goto.is) refl refl refl c.plain_measures-in-Goto.ensures

pub returns-in-GuardedIf : goal.returns-in-GuardedIf
returns-in-GuardedIf c = guarded-measured c.requires.0 (stated c.statement_at-shape.ensures c.in-GuardedIf.is) c.guarded_measures.ensures

pub returns-in-GuardedDo : goal.returns-in-GuardedDo
returns-in-GuardedDo c = rounds-shape c.requires.0 (stated c.statement_at-shape.ensures c.in-GuardedDo.is) c.rounds_measures.ensures

pub returns-in-Abort : goal.returns-in-Abort
unfolding statement_size statement_levels labels
returns-in-Abort c = plain-measured c.requires.0 (stated c.statement_at-shape.ensures c.in-Abort.is) refl refl refl c.plain_measures-in-Abort.ensures

pub returns-in-Declare : goal.returns-in-Declare
returns-in-Declare c = declare-measured c.requires.0 (stated c.statement_at-shape.ensures c.in-Declare.is) c.store_rows.ensures c.declare_measures.ensures

pub returns-in-Return : goal.returns-in-Return
returns-in-Return c = return-measured c.requires.0 (stated c.statement_at-shape.ensures c.in-Return.is) c.return_measures.ensures
