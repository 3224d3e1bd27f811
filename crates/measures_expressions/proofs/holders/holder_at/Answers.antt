-- What holds a value: by the row that it comes from.
use Rattle.measures_expressions.proofs.HolderLaws.{held_same}
use Rattle.measures_expressions.proofs.holders.holder_at.Goals as goal

pub returns : goal.returns
returns c =
    held_same c.plain_holder.ensures c.requires.3.expression.value_is
