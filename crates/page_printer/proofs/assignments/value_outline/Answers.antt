-- `value_outline`: by what stands at the row of the value.
use mathlib.Core.Path.{sym, ap, ◌∙◌}
use Rattle.page_line.specs.ReadsLaws.{read_as}
use Rattle.page_printer.specs.Outlines.{value_outline}
use borrow.Author.Rules.{rules}
use Rattle.page_printer.proofs.assignments.value_outline.Goals as goal

pub called_outline-requires : goal.called_outline-requires
called_outline-requires c =
    (c.requires.0, (read_as c.expression_at-shape.ensures.0 c.in-Call.is).inside)

pub returns-in-Number : goal.returns-in-Number
returns-in-Number c =
    ap (value_outline c.args.rows.now c.args.expression c.args.place) (sym c.in-Number.is ∙ c.expression_at-shape.ensures.1)

pub returns-in-Read : goal.returns-in-Read
returns-in-Read c =
    ap (value_outline c.args.rows.now c.args.expression c.args.place) (sym c.in-Read.is ∙ c.expression_at-shape.ensures.1)

pub returns-in-Operation : goal.returns-in-Operation
returns-in-Operation c =
    ap (value_outline c.args.rows.now c.args.expression c.args.place) (sym c.in-Operation.is ∙ c.expression_at-shape.ensures.1)

pub returns-in-Choice : goal.returns-in-Choice
returns-in-Choice c =
    ap (value_outline c.args.rows.now c.args.expression c.args.place) (sym c.in-Choice.is ∙ c.expression_at-shape.ensures.1)

pub returns-in-Call : goal.returns-in-Call
returns-in-Call c =
    c.called_outline.ensures ∙ ap (value_outline c.args.rows.now c.args.expression c.args.place) (sym c.in-Call.is ∙ c.expression_at-shape.ensures.1)
