-- The sums of two measures.
use Rattle.measures.proofs.StatementLaws.{same-three}
use Rattle.measures.proofs.program.added.Goals as goal

pub returns : goal.returns
returns c = same-three c.limited.ensures c.limited-2.ensures c.limited-3.ensures
