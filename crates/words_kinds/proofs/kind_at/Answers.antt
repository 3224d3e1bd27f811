-- `kind_at` is the kind with the number in the row.
use mathlib.Core.Path.{ap, ◌∙◌}
use Rattle.words.specs.Kinds.{kind_of, kind_at}
use Rattle.words_kinds.proofs.kind_at.Goals as goal

pub returns : goal.returns
unfolding kind_at
returns c = c.kind_of.ensures ∙ ap kind_of c.number_at.ensures
