-- `at_level`: a line is kept where it stands as far in as its level asks.
use mathlib.Core.Path.{sym, ap, ◌∙◌}
use Rattle.page.specs.Page.{indent}
use Rattle.page_frame.proofs.Steps.{level-none, level-is, level-not}
use borrow.Author.Rules.{rules}
use Rattle.page_frame.proofs.at_level.Goals as goal

pub returns-in_default : goal.returns-in_default
returns-in_default c =
    level-none _ _ _ c.in_default.is

pub returns-then-start-indent_of : goal.returns-then-start-indent_of
returns-then-start-indent_of c =
    level-is _ _ _ c.in-Some.found c.in-Some.is (c.if-start-indent_of.true ∙ c.indent_of.ensures ∙ ap indent c.level_of.ensures)

pub returns : goal.returns
returns c =
    level-not _ _ _ c.in-Some.found c.in-Some.is (λ e. c.if-start-indent_of.false (e ∙ sym (c.indent_of.ensures ∙ ap indent c.level_of.ensures)))
