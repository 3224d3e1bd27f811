-- What holds the new value of a place.
use Rattle.measures_expressions.proofs.HolderLaws.{updated-holds}
use Rattle.measures_expressions.proofs.holders.updated_holder.Goals as goal

pub returns : goal.returns
returns c =
    updated-holds c.place_at-place.ensures c.place_holder.ensures
