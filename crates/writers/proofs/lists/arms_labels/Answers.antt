-- The labels of arms: the table's word; an absent link has none.
use mathlib.Core.Path.{◌∙◌}
use native.Mathlib.Omega.{arith}
use Rattle.measures_table.specs.Measures.{arms_labels_slot}
use Rattle.writers.proofs.Tables.{word-asks, labels-of-arms}
use Rattle.writers.proofs.lists.arms_labels.Goals as goal

pub measure_at-requires : goal.measure_at-requires
measure_at-requires c =
    word-asks _ _ c.requires.0 _ arms_labels_slot c.requires.1 (omega arith)

pub returns : goal.returns
returns c =
    c.measure_at.ensures.is ∙ labels-of-arms _ _ c.requires.0 _ c.requires.1 c.requires.2
