-- `lowest_out_of_place` looks for a row out of place.
use Rattle.std.proofs.Common.{rules}
use Rattle.check_grammar.specs.LowestLaws.{lowest_row-is}
use Rattle.check_places.proofs.places.lowest_out_of_place.Goals as goal

pub returns : goal.returns
returns c = lowest_row-is _ _ _ c.lowest_row.ensures _ (λ row answer below met. search rules)
