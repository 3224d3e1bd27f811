-- `end`: no byte left, and nothing open.
use mathlib.Core.Path.{sym, ◌∙◌}
use borrow.Author.Tests.{eq-eqb, ne_eqb, not-true, not-false}
use Rattle.page_scan.specs.Stacks.{end_of}
use borrow.Author.Rules.{rules}
use Rattle.page_scan.proofs.end.Goals as goal

pub returns-then-not-whole : goal.returns-then-not-whole
unfolding end_of
returns-then-not-whole c =
    rw c.if-not-whole.true

pub returns-then-not-is_among_items : goal.returns-then-not-is_among_items
unfolding end_of
returns-then-not-is_among_items c =
    rw (c.if-not-whole.false, sym c.is_among_items.ensures ∙ c.if-not-is_among_items.true)

pub returns-then-depth-eq0 : goal.returns-then-depth-eq0
unfolding end_of
returns-then-depth-eq0 c =
    rw (c.if-not-whole.false, sym c.is_among_items.ensures ∙ c.if-not-is_among_items.false, eq-eqb _ _ c.if-depth-eq0.true)

pub returns : goal.returns
unfolding end_of
returns c =
    rw (c.if-not-whole.false, sym c.is_among_items.ensures ∙ c.if-not-is_among_items.false, ne_eqb _ _ c.if-depth-eq0.false)
