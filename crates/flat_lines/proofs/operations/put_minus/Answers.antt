-- `put_minus`: the five words of minus an atom.
use mathlib.Core.Path.{◌∙◌}
use native.Mathlib.Omega.{arith}
use Rattle.words.specs.Laws.{back}
use Rattle.flat_rows.specs.Operations.{minus-parts, minus-five}
use Rattle.flat_lines.specs.Stored.{put_as}
use borrow.Author.Rules.{rules}
use Rattle.flat_lines.proofs.operations.put_minus.Reads as reads
use Rattle.flat_lines.proofs.operations.put_minus.Lts as lts
use Rattle.flat_lines.proofs.lines.atom_sort.Reads as atom-sort-reads
use Rattle.flat_lines.proofs.lines.put_line.Reads as put-line-reads
use Rattle.words.proofs.table.number_at.Reads as number-at-reads
use Rattle.words.proofs.table.word_at.Reads as word-at-reads
use Rattle.flat_lines.proofs.operations.put_minus.Goals as goal

pub atom_sort-sort-requires : goal.atom_sort-sort-requires
atom_sort-sort-requires c =
    let a = c.requires.0 in
    (a.table, rw c.number_at-operand.ensures (minus-parts a.table _ a.inside c.requires.1).inside, rw c.number_at-operand.ensures c.requires.2)

pub word_at-word-requires : goal.word_at-word-requires
word_at-word-requires c =
    let a = c.requires.0 in
    omega (arith, c.number_at-operand.ensures, (minus-parts a.table _ a.inside c.requires.1).inside)

pub returns : goal.returns
returns c =
    let a = c.requires.0 in
    put_as _ _ _ _ _ c.put_line.ensures
    (minus-five a.table _ _ a.inside c.requires.1 c.requires.2 _ _ _ c.number_at-operand.ensures c.atom_sort-sort.ensures.0 (back _ c.word_at-word.type_inv ∙ c.word_at-word.ensures))
