-- `line_in`: number, blank and newline first, then the body.
use mathlib.Core.Path.{sym, ◌∙◌}
use borrow.Author.Tests.{eq-eqb, ne_eqb, not-true, not-false}
use Rattle.page_frame.specs.Frames.{line_in}
use borrow.Author.Rules.{rules}
use Rattle.page_frame.proofs.line_in.Goals as goal

pub returns-then-not-is_numbered : goal.returns-then-not-is_numbered
unfolding line_in
returns-then-not-is_numbered c =
    rw (sym c.is_numbered.ensures ∙ c.if-not-is_numbered.true)

pub returns-then-text-ne32 : goal.returns-then-text-ne32
unfolding line_in
returns-then-text-ne32 c =
    rw (sym c.is_numbered.ensures ∙ c.if-not-is_numbered.false, ne_eqb _ _ c.if-text-ne32.true)

pub returns-then-text-ne10 : goal.returns-then-text-ne10
unfolding line_in
returns-then-text-ne10 c =
    rw (sym c.is_numbered.ensures ∙ c.if-not-is_numbered.false, eq-eqb _ _ c.if-text-ne32.false, ne_eqb _ _ c.if-text-ne10.true)

pub returns : goal.returns
unfolding line_in
returns c =
    rw (sym c.is_numbered.ensures ∙ c.if-not-is_numbered.false, eq-eqb _ _ c.if-text-ne32.false, eq-eqb _ _ c.if-text-ne10.false) c.body.ensures
