-- `turns_away`: one law for each way that a test goes.
use mathlib.Core.Path.{◌∙◌}
use native.Mathlib.Omega.{arith}
use borrow.Author.Tests.{lt-ltb}
use Rattle.day_form.proofs.Tests.{too-late, in-time, names-turned}
use borrow.Author.Rules.{rules}
use Rattle.day_form.proofs.lines.turns_away.Goals as goal

pub returns-then-number-last : goal.returns-then-number-last
returns-then-number-last c =
    rw c.in-Pairs.is (lt-ltb _ _ c.if-number-last.true ∙ too-late _ _ _ c.if-number-last.true)

pub returns-else-number-last : goal.returns-else-number-last
returns-else-number-last c =
    rw c.in-Pairs.is (in-time _ _ _ (omega (arith, c.if-number-last.false)) _ c.are_pairs.ensures)

pub returns-in-Names : goal.returns-in-Names
returns-in-Names c =
    rw c.in-Names.is (names-turned _ _ _ _ c.all_named.ensures)
