-- `lowest_outside_function` lends what it has written to the search.
use Rattle.check_functions.specs.Passes.{breaks}
use borrow.Author.Rules.{rules}
use Rattle.check_functions.proofs.lowest_outside_function.Goals as goal

pub returns : goal.returns
unfolding breaks
returns c =
    c.lowest_breaking.ensures
