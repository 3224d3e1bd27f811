-- The levels of a list: the table's word; an absent list has none.
use mathlib.Core.Path.{◌∙◌}
use native.Mathlib.Omega.{arith}
use Rattle.writers.proofs.Tables.{word-asks}
use Rattle.writers_programs.proofs.ListMeasures.{levels-of-list}
use Rattle.writers_programs.proofs.lists.list_levels.Goals as goal

pub measure_at-requires : goal.measure_at-requires
measure_at-requires c =
    word-asks _ _ c.requires.0 _ 7 c.requires.1 (omega arith)

pub returns : goal.returns
returns c =
    c.measure_at.ensures.is ∙ levels-of-list c.requires.0 _ c.requires.1 c.requires.2
