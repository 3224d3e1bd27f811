-- `is_numbered`: the number behind the blanks of the five columns.
use mathlib.Core.Path.{sym, ap, ◌∙◌}
use native.Mathlib.Omega.{arith}
use Rattle.page_frame.specs.Frames.{is_number}
use Rattle.page_frame.proofs.BlankLaws.{leading-within}
use Rattle.page_frame.proofs.Steps.{numbered-by}
use borrow.Author.Rules.{rules}
use Rattle.page_frame.proofs.is_numbered.Goals as goal

pub slice_bounds-number_below-count : goal.slice_bounds-number_below-count
slice_bounds-number_below-count c =
    omega (arith, c.leading_blanks-start.ensures, leading-within c.args.columns.now)

pub slice_bounds-number_below-start : goal.slice_bounds-number_below-start
slice_bounds-number_below-start c =
    omega (arith, c.leading_blanks-start.ensures, leading-within c.args.columns.now)

pub returns-in-Some : goal.returns-in-Some
returns-in-Some c =
    sym (ap (is_number c.args.number) c.in-Some.is) ∙ numbered-by c.args.number c.args.columns.now c.leading_blanks-start.result c.number_below-read.result c.leading_blanks-start.ensures c.number_below-read.ensures

pub returns-in-None : goal.returns-in-None
returns-in-None c =
    sym (ap (is_number c.args.number) c.in-None.is) ∙ numbered-by c.args.number c.args.columns.now c.leading_blanks-start.result c.number_below-read.result c.leading_blanks-start.ensures c.number_below-read.ensures
