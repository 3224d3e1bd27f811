-- `put_test`: five words are a test's.
use mathlib.Core.Path.{◌∙◌}
use Rattle.words.specs.Laws.{back}
use Rattle.flat_rows.specs.Operations.{atom-word}
use Rattle.flat_lines.specs.Stored.{test-as}
use borrow.Author.Rules.{rules}
use Rattle.flat_lines.proofs.lines.put_test.Reads as reads
use Rattle.flat_lines.proofs.lines.put_test.Lts as lts
use Rattle.flat_lines.proofs.lines.atom_sort.Reads as atom-sort-reads
use Rattle.flat_lines.proofs.lines.distance_to.Reads as distance-to-reads
use Rattle.flat_lines.proofs.lines.put_line.Reads as put-line-reads
use Rattle.words.proofs.table.word_at.Reads as word-at-reads
use Rattle.flat_lines.proofs.lines.put_test.Goals as goal

pub returns : goal.returns
returns c =
    test-as _ _ _ _ _ _ _ _ _ c.put_line.ensures c.atom_sort-sort.ensures.0 (back _ c.word_at-word.type_inv ∙ c.word_at-word.ensures ∙ atom-word c.requires.0 _ c.requires.1 c.requires.2) (back _ c.distance_to.type_inv ∙ c.distance_to.ensures)
