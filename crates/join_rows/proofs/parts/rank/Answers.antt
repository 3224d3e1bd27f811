-- `rank`: both numbers fit.
use Rattle.join_rows.proofs.parts.rank.Goals as goal

pub returns : goal.returns
returns c =
    rw c.if-of_definition.false c.narrow-2.ensures
