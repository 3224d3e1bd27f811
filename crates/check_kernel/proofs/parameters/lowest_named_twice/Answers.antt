-- `lowest_named_twice` begins without notes and lends what the pass has written.
use Rattle.check_declarations.specs.Passes.{breaks, looked_up}
use borrow.Author.Rules.{rules}
use Rattle.check_kernel.proofs.parameters.lowest_named_twice.Goals as goal

pub lowest_breaking-requires : goal.lowest_breaking-requires
unfolding looked_up
lowest_breaking-requires c = search rules

pub returns : goal.returns
unfolding breaks
returns c =
    c.lowest_breaking.ensures
