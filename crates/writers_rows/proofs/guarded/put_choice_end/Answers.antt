-- An abort, and a label behind it.
use Rattle.language.specs.Trees.{◌⧺◌}
use Rattle.writers_rows.specs.Chain.{wrote-next}
use Rattle.writers_rows.specs.LeafLaws.{abort-wrote, label-wrote}
use Rattle.writers_rows.proofs.guarded.put_choice_end.Goals as goal

pub returns : goal.returns
unfolding ◌⧺◌
returns c = (wrote-next (abort-wrote _ _ _ _ c.put_abort.ensures) (label-wrote _ _ _ _ _ c.put_label.ensures)).table
