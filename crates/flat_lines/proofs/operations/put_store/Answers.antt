-- `put_store`: a place that is no variable is an element with an atom index, and its value an atom.
use mathlib.Core.Path.{◌∙◌}
use native.Mathlib.Omega.{arith}
use Rattle.words.specs.Laws.{back}
use Rattle.flat_rows.specs.Operations.{put_five}
use Rattle.flat_lines.specs.Stored.{put_as}
use Rattle.flat_lines.specs.Values.{value-here, place_here, array-here, index-here}
use borrow.Author.Rules.{rules}
use Rattle.flat_lines.proofs.operations.put_store.Reads as reads
use Rattle.flat_lines.proofs.operations.put_store.Lts as lts
use Rattle.flat_lines.proofs.lines.atom_sort.Reads as atom-sort-reads
use Rattle.flat_lines.proofs.lines.put_line.Reads as put-line-reads
use Rattle.words.proofs.table.number_at.Reads as number-at-reads
use Rattle.words.proofs.table.word_at.Reads as word-at-reads
use Rattle.flat_lines.proofs.operations.put_store.Goals as goal

pub number_at-index-requires : goal.number_at-index-requires
number_at-index-requires c =
    omega (arith, place_here c.requires.0 _ c.requires.1 c.requires.2 _ c.number_at-place.ensures)

pub atom_sort-left-requires : goal.atom_sort-left-requires
atom_sort-left-requires c =
    let i = index-here c.requires.0 _ c.requires.1 c.requires.2 _ c.number_at-place.ensures c.requires.3 _ c.number_at-index.ensures in
    (c.requires.0, i.0, i.1)

pub atom_sort-right-requires : goal.atom_sort-right-requires
atom_sort-right-requires c =
    let v = value-here c.requires.0 _ c.requires.1 c.requires.2 c.requires.3 _ c.number_at-value.ensures in
    (c.requires.0, v.0, v.1)

pub number_at-array-requires : goal.number_at-array-requires
number_at-array-requires c =
    omega (arith, place_here c.requires.0 _ c.requires.1 c.requires.2 _ c.number_at-place.ensures)

pub word_at-word-requires : goal.word_at-word-requires
word_at-word-requires c =
    let i = index-here c.requires.0 _ c.requires.1 c.requires.2 _ c.number_at-place.ensures c.requires.3 _ c.number_at-index.ensures in
    omega (arith, i.0)

pub word_at-other-requires : goal.word_at-other-requires
word_at-other-requires c =
    let v = value-here c.requires.0 _ c.requires.1 c.requires.2 c.requires.3 _ c.number_at-value.ensures in
    omega (arith, v.0)

pub put_line-requires : goal.put_line-requires
put_line-requires c =
    (c.requires.4, omega (arith, c.atom_sort-left.ensures.1, c.atom_sort-right.ensures.1), array-here c.requires.0 _ c.requires.1 c.requires.2 _ c.number_at-place.ensures c.requires.3 _ c.number_at-array.ensures)

pub returns : goal.returns
returns c =
    put_as _ _ _ _ _ c.put_line.ensures
    (put_five c.requires.0 _ c.requires.1 c.requires.2 c.requires.3 _ _ _ _ _ _ _ _ c.number_at-place.ensures c.number_at-value.ensures c.number_at-index.ensures c.atom_sort-left.ensures.0 c.atom_sort-right.ensures.0 c.number_at-array.ensures (back _ c.word_at-word.type_inv ∙ c.word_at-word.ensures) (back _ c.word_at-other.type_inv ∙ c.word_at-other.ensures))
