-- The cases of a list: the table's word; an absent list has none.
use mathlib.Core.Path.{◌∙◌}
use native.Mathlib.Omega.{arith}
use Rattle.writers.proofs.Tables.{word-asks, cases-of-list}
use Rattle.writers.proofs.lists.list_cases.Goals as goal

pub measure_at-requires : goal.measure_at-requires
measure_at-requires c =
    word-asks _ _ c.requires.0 _ 9 c.requires.1 (omega arith)

pub returns : goal.returns
returns c =
    c.measure_at.ensures.is ∙ cases-of-list _ _ c.requires.0 _ c.requires.1 c.requires.2
