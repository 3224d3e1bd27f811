-- `put_copy`: the five words of an atom copied.
use mathlib.Core.Path.{◌∙◌}
use Rattle.words.specs.Laws.{back}
use Rattle.flat_rows.specs.Operations.{atom-five}
use Rattle.flat_lines.specs.Stored.{put_as}
use borrow.Author.Rules.{rules}
use Rattle.flat_lines.proofs.operations.put_copy.Reads as reads
use Rattle.flat_lines.proofs.operations.put_copy.Lts as lts
use Rattle.flat_lines.proofs.lines.atom_sort.Reads as atom-sort-reads
use Rattle.flat_lines.proofs.lines.put_line.Reads as put-line-reads
use Rattle.words.proofs.table.word_at.Reads as word-at-reads
use Rattle.flat_lines.proofs.operations.put_copy.Goals as goal

pub returns : goal.returns
returns c =
    put_as _ _ _ _ _ c.put_line.ensures
    (atom-five c.requires.0.table _ _ c.requires.0.inside c.requires.1 _ _ c.atom_sort-sort.ensures.0 (back _ c.word_at-word.type_inv ∙ c.word_at-word.ensures))
