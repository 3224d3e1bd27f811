-- The labels of a list: the table's word; an absent list has none.
use mathlib.Core.Path.{◌∙◌}
use native.Mathlib.Omega.{arith}
use Rattle.writers.proofs.Tables.{word-asks}
use Rattle.writers_programs.proofs.ListMeasures.{labels-of-list}
use Rattle.writers_programs.proofs.lists.list_labels.Goals as goal

pub measure_at-requires : goal.measure_at-requires
measure_at-requires c =
    word-asks _ _ c.requires.0 _ 8 c.requires.1 (omega arith)

pub returns : goal.returns
returns c =
    c.measure_at.ensures.is ∙ labels-of-list c.requires.0 _ c.requires.1 c.requires.2
