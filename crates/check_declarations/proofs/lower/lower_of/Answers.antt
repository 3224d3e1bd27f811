-- `lower_of` takes the other row where the first search found none.
use Rattle.check_declarations.specs.Lower.{lower}
use borrow.Author.Rules.{rules}
use Rattle.check_declarations.proofs.lower.lower_of.Goals as goal

pub returns-in-Some : goal.returns-in-Some
returns-in-Some c =
    rw c.in-Some.is c.lower_than.ensures

pub returns-in-None : goal.returns-in-None
unfolding lower
returns-in-None c =
    rw c.in-None.is
