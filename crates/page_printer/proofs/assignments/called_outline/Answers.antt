-- `called_outline`: by whether the link leads to an argument.
use mathlib.Core.Path.{sym, ap, ◌∙◌}
use Rattle.page_line.specs.ReadsLaws.{row-words}
use Rattle.page_line.specs.declared.LineAt.TheVariants.{OpensCall}
use Rattle.page_printer.specs.declared.Outline.TheVariants.{Called}
use Rattle.page_printer.specs.Outlines.{called_outline}
use borrow.Author.Rules.{rules}
use Rattle.page_printer.proofs.assignments.called_outline.Goals as goal

pub number_at-requires : goal.number_at-requires
number_at-requires c =
    row-words c.requires.0 c.requires.1

pub returns-in-Some : goal.returns-in-Some
returns-in-Some c =
    ap (Called (OpensCall c.args.place c.args.number) c.in-Some.row) c.number_at.ensures ∙ ap (called_outline c.args.rows.now c.args.expression c.args.place c.args.number c.args.link) (sym c.in-Some.is ∙ c.argument_at-first.ensures.1)

pub returns-in-None : goal.returns-in-None
returns-in-None c =
    ap (called_outline c.args.rows.now c.args.expression c.args.place c.args.number c.args.link) (sym c.in-None.is ∙ c.argument_at-first.ensures.1)
