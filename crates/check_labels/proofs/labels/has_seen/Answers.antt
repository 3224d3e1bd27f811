-- `has_seen` adds one row to a search.
use borrow.Author.Rules.{rules}
use Rattle.check_labels.proofs.Faults.{some_more}
use borrow.Author.Rules.{rules}
use borrow.Author.Rules.{rules}
use Rattle.check_labels.proofs.labels.has_seen.Goals as goal

pub returns-then-seen : goal.returns-then-seen
returns-then-seen c = let seen = c.if-seen.true in let e = c.requires.1 in rw (some_more, ← e, seen)

pub returns : goal.returns
returns c = let seen = c.if-seen.false in let e = c.requires.1 in rw (some_more, ← e, seen) c.is_label.ensures
