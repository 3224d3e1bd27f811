-- `put_binary`: the five words of an operation on two atoms; the kind is the operator's number.
use mathlib.Core.Path.{◌∙◌}
use native.Mathlib.Omega.{arith}
use Rattle.words.specs.Laws.{back}
use Rattle.flat_rows.specs.Operations.{binary-parts, operation-five}
use Rattle.flat_lines.specs.Stored.{put_as}
use borrow.Author.Rules.{rules}
use Rattle.flat_lines.proofs.operations.put_binary.Reads as reads
use Rattle.flat_lines.proofs.operations.put_binary.Lts as lts
use Rattle.flat_lines.proofs.lines.atom_sort.Reads as atom-sort-reads
use Rattle.flat_lines.proofs.lines.put_line.Reads as put-line-reads
use Rattle.words.proofs.table.number_at.Reads as number-at-reads
use Rattle.words.proofs.table.word_at.Reads as word-at-reads
use Rattle.flat_lines.proofs.operations.put_binary.Goals as goal

pub atom_sort-left-requires : goal.atom_sort-left-requires
atom_sort-left-requires c =
    let a = c.requires.0 in
    let b = binary-parts a.table _ a.inside c.requires.1 c.requires.2 in
    (a.table, rw c.number_at-a.ensures b.left_inside, rw c.number_at-a.ensures c.requires.3)

pub atom_sort-right-requires : goal.atom_sort-right-requires
atom_sort-right-requires c =
    let a = c.requires.0 in
    let b = binary-parts a.table _ a.inside c.requires.1 c.requires.2 in
    (a.table, rw c.number_at-b.ensures b.right_inside, rw c.number_at-b.ensures c.requires.4)

pub word_at-word-requires : goal.word_at-word-requires
word_at-word-requires c =
    let a = c.requires.0 in
    let b = binary-parts a.table _ a.inside c.requires.1 c.requires.2 in
    omega (arith, c.number_at-a.ensures, b.left_inside)

pub word_at-other-requires : goal.word_at-other-requires
word_at-other-requires c =
    let a = c.requires.0 in
    let b = binary-parts a.table _ a.inside c.requires.1 c.requires.2 in
    omega (arith, c.number_at-b.ensures, b.right_inside)

pub returns : goal.returns
returns c =
    let a = c.requires.0 in
    put_as _ _ _ _ _ c.put_line.ensures
    (operation-five a.table _ _ a.inside c.requires.1 c.requires.2 c.requires.3 c.requires.4 _ _ _ _ _ _ _ c.number_at-kind.ensures c.number_at-a.ensures c.number_at-b.ensures c.atom_sort-left.ensures.0 c.atom_sort-right.ensures.0 (back _ c.word_at-word.type_inv ∙ c.word_at-word.ensures) (back _ c.word_at-other.type_inv ∙ c.word_at-other.ensures))
