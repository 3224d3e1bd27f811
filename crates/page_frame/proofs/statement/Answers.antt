-- `statement`: it stands between the blanks before it and those behind it.
use mathlib.Core.Path.{◌∙◌}
use native.Mathlib.Omega.{arith}
use Rattle.page_frame.proofs.BlankLaws.{filled_within}
use Rattle.page_frame.proofs.Steps.{statement-short, statement-long}
use borrow.Author.Rules.{rules}
use Rattle.page_frame.proofs.statement.Goals as goal

pub returns-then-end-start : goal.returns-then-end-start
returns-then-end-start c =
    statement-short c.args.names c.args.text.now c.leading_blanks-start.result c.filled_size-end.result c.leading_blanks-start.ensures c.filled_size-end.ensures c.if-end-start.true

pub slice_bounds-line-end : goal.slice_bounds-line-end
slice_bounds-line-end c =
    omega (arith, c.filled_size-end.ensures, filled_within c.args.text.now)

pub returns : goal.returns
returns c =
    c.line.ensures ∙ statement-long c.args.names c.args.text.now c.leading_blanks-start.result c.filled_size-end.result c.leading_blanks-start.ensures c.filled_size-end.ensures c.if-end-start.false
