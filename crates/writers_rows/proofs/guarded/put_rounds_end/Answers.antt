-- A goto, the label behind it, and the label behind the loop.
use Rattle.language.specs.Trees.{◌⧺◌}
use Rattle.writers_rows.specs.Chain.{put_next, wrote-put, wrote-next}
use Rattle.writers_rows.specs.LeafLaws.{goto-wrote, label-wrote}
use Rattle.writers_rows.proofs.guarded.put_rounds_end.Goals as goal

pub returns : goal.returns
unfolding ◌⧺◌
returns c =
    let round = wrote-next (goto-wrote _ _ _ _ _ c.put_goto.ensures) (label-wrote _ _ _ _ _ c.put_label.ensures) in
    (put_next (wrote-put round) (wrote-put (label-wrote _ _ _ _ _ c.put_label-2.ensures))).table
