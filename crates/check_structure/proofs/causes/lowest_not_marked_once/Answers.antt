-- `lowest_not_marked_once` looks for a row that is not linked once.
use Rattle.std.proofs.Common.{rules}
use Rattle.check_grammar.specs.LowestLaws.{lowest_row-is}
use Rattle.check_structure.proofs.causes.lowest_not_marked_once.Goals as goal

pub returns : goal.returns
returns c = lowest_row-is _ _ _ c.lowest_row.ensures _ (λ row answer below met. search rules)
