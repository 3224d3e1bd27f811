-- `put_jump`: five words are a jump's.
use mathlib.Core.Path.{◌∙◌}
use Rattle.words.specs.Laws.{back}
use Rattle.flat_lines.specs.Stored.{plain-as}
use borrow.Author.Rules.{rules}
use Rattle.flat_lines.proofs.lines.put_jump.Reads as reads
use Rattle.flat_lines.proofs.lines.put_jump.Lts as lts
use Rattle.flat_lines.proofs.lines.distance_to.Reads as distance-to-reads
use Rattle.flat_lines.proofs.lines.put_line.Reads as put-line-reads
use Rattle.flat_lines.proofs.lines.put_jump.Goals as goal

pub returns : goal.returns
returns c =
    plain-as _ _ _ 52 _ _ c.put_line.ensures (back _ c.distance_to.type_inv ∙ c.distance_to.ensures)
