-- `at` is its definition.
use Rattle.check_structure.specs.Refusal.{at}
use borrow.Author.Rules.{rules}
use Rattle.check_structure.proofs.causes.at.Goals as goal

pub returns-in-Some : goal.returns-in-Some
unfolding at
returns-in-Some c =
    rw c.in-Some.is

pub returns-in-None : goal.returns-in-None
unfolding at
returns-in-None c =
    rw c.in-None.is
