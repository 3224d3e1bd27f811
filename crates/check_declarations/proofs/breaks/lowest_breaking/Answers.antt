-- `lowest_breaking` looks for a row that breaks the cause.
use Rattle.std.proofs.Common.{rules}
use Rattle.check_grammar.specs.LowestLaws.{lowest_row-is}
use Rattle.check_declarations.proofs.breaks.lowest_breaking.Goals as goal

pub returns : goal.returns
returns c = lowest_row-is _ _ _ c.lowest_row.ensures _ (λ row answer below met. search rules)
