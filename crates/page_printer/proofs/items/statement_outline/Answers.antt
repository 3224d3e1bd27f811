-- `statement_outline`: an arm for each statement.
use mathlib.Core.Path.{sym, ap, subst, ◌∙◌}
use Rattle.words.specs.Table.{row_count}
use Rattle.language_shapes.specs.declared.StatementShape.{StatementShape}
use Rattle.page_printer.specs.Outlines.{statement_outline, ExpressInside}
use borrow.Author.Rules.{rules}
use Rattle.page_printer.proofs.items.statement_outline.Goals as goal

pub express_outline-requires : goal.express_outline-requires
express_outline-requires c =
    (c.requires.0, subst (λ (s : StatementShape). ExpressInside (row_count c.args.rows.now) s) c.in-Express.is c.requires.1)

pub returns-in-Empty : goal.returns-in-Empty
returns-in-Empty c =
    ap (statement_outline c.args.rows.now c.args.row) (sym c.in-Empty.is)

pub returns-in-Express : goal.returns-in-Express
returns-in-Express c =
    c.express_outline.ensures ∙ ap (statement_outline c.args.rows.now c.args.row) (sym c.in-Express.is)

pub returns-in-Block : goal.returns-in-Block
returns-in-Block c =
    ap (statement_outline c.args.rows.now c.args.row) (sym c.in-Block.is)

pub returns-in-If : goal.returns-in-If
returns-in-If c =
    c.if_outline.ensures ∙ ap (statement_outline c.args.rows.now c.args.row) (sym c.in-If.is)

pub returns-in-While : goal.returns-in-While
returns-in-While c =
    ap (statement_outline c.args.rows.now c.args.row) (sym c.in-While.is)

pub returns-in-Do : goal.returns-in-Do
returns-in-Do c =
    ap (statement_outline c.args.rows.now c.args.row) (sym c.in-Do.is)

pub returns-in-For : goal.returns-in-For
returns-in-For c =
    ap (statement_outline c.args.rows.now c.args.row) (sym c.in-For.is)

pub returns-in-Switch : goal.returns-in-Switch
returns-in-Switch c =
    ap (statement_outline c.args.rows.now c.args.row) (sym c.in-Switch.is)

pub returns-in-Break : goal.returns-in-Break
returns-in-Break c =
    ap (statement_outline c.args.rows.now c.args.row) (sym c.in-Break.is)

pub returns-in-Continue : goal.returns-in-Continue
returns-in-Continue c =
    ap (statement_outline c.args.rows.now c.args.row) (sym c.in-Continue.is)

pub returns-in-Goto : goal.returns-in-Goto
returns-in-Goto c =
    ap (statement_outline c.args.rows.now c.args.row) (sym c.in-Goto.is)

pub returns-in-GuardedIf : goal.returns-in-GuardedIf
returns-in-GuardedIf c =
    ap (statement_outline c.args.rows.now c.args.row) (sym c.in-GuardedIf.is)

pub returns-in-GuardedDo : goal.returns-in-GuardedDo
returns-in-GuardedDo c =
    ap (statement_outline c.args.rows.now c.args.row) (sym c.in-GuardedDo.is)

pub returns-in-Abort : goal.returns-in-Abort
returns-in-Abort c =
    ap (statement_outline c.args.rows.now c.args.row) (sym c.in-Abort.is)

pub returns-in-Declare : goal.returns-in-Declare
returns-in-Declare c =
    ap (statement_outline c.args.rows.now c.args.row) (sym c.in-Declare.is)

pub returns-in-Return : goal.returns-in-Return
returns-in-Return c =
    ap (statement_outline c.args.rows.now c.args.row) (sym c.in-Return.is)
