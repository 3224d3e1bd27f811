-- `express_outline`: by what stands at the row.
use mathlib.Core.Path.{sym, ap, ◌∙◌}
use Rattle.page_line.specs.ReadsLaws.{read_as}
use Rattle.page_printer.specs.Outlines.{expression_outline, express_outline}
use borrow.Author.Rules.{rules}
use Rattle.page_printer.proofs.assignments.express_outline.Goals as goal

pub operation_outline-requires : goal.operation_outline-requires
operation_outline-requires c =
    (c.requires.0, (read_as c.expression_at-shape.ensures.0 c.in-Operation.is).inside)

pub returns-in-Number : goal.returns-in-Number
unfolding express_outline
returns-in-Number c =
    ap (expression_outline c.args.rows.now c.args.expression) (sym c.in-Number.is ∙ c.expression_at-shape.ensures.1)

pub returns-in-Read : goal.returns-in-Read
unfolding express_outline
returns-in-Read c =
    ap (expression_outline c.args.rows.now c.args.expression) (sym c.in-Read.is ∙ c.expression_at-shape.ensures.1)

pub returns-in-Operation : goal.returns-in-Operation
unfolding express_outline
returns-in-Operation c =
    c.operation_outline.ensures ∙ ap (expression_outline c.args.rows.now c.args.expression) (sym c.in-Operation.is ∙ c.expression_at-shape.ensures.1)

pub returns-in-Choice : goal.returns-in-Choice
unfolding express_outline
returns-in-Choice c =
    ap (expression_outline c.args.rows.now c.args.expression) (sym c.in-Choice.is ∙ c.expression_at-shape.ensures.1)

pub returns-in-Call : goal.returns-in-Call
unfolding express_outline
returns-in-Call c =
    ap (expression_outline c.args.rows.now c.args.expression) (sym c.in-Call.is ∙ c.expression_at-shape.ensures.1)
