-- `lowest_returned_outside` begins with blank arrays.
use Rattle.check_functions.specs.KnownLaws.{blank-zeros}
use borrow.Author.Rules.{rules}
use Rattle.check_source.proofs.functions.lowest_returned_outside.Goals as goal

pub lowest_outside_function-requires : goal.lowest_outside_function-requires
lowest_outside_function-requires c =
    (c.requires.0, c.requires.1, blank-zeros _ 2048 c.requires.2, blank-zeros _ 2048 c.requires.2)
