-- `mark_link` makes its definition's tests in order.
use borrow.Author.Tests.{lt-ltb, le-ltb}
use Rattle.words_roles.specs.Passes.{marked_link}
use borrow.Author.Rules.{rules}
use Rattle.words_roles.proofs.mark_link.Goals as goal

pub returns-then-is_declaration : goal.returns-then-is_declaration
unfolding marked_link
returns-then-is_declaration c = rw (lt-ltb _ _ c.if-row-linked.true, lt-ltb _ _ c.if-linked-rows.true, ← c.is_declaration.ensures, c.if-is_declaration.true)

pub returns-else-is_declaration : goal.returns-else-is_declaration
unfolding marked_link
returns-else-is_declaration c = rw (lt-ltb _ _ c.if-row-linked.true, lt-ltb _ _ c.if-linked-rows.true, ← c.is_declaration.ensures, c.if-is_declaration.false)

pub returns-else-linked-rows : goal.returns-else-linked-rows
unfolding marked_link
returns-else-linked-rows c = rw (lt-ltb _ _ c.if-row-linked.true, le-ltb _ _ c.if-linked-rows.false)

pub returns-else-row-linked : goal.returns-else-row-linked
unfolding marked_link
returns-else-row-linked c = rw (le-ltb _ _ c.if-row-linked.false)
