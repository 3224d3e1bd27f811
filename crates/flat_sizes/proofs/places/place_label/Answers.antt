use native.Mathlib.Omega.{arith}
use mathlib.Core.Path.{◌∙◌, sym, ap, ◌≡◌, refl}
use Rattle.flat_sizes.specs.Sizes.{line-few}
use Rattle.flat_sizes.specs.Places.{label-few, labelled-set, labelled-other}
use borrow.Author.Rules.{rules}
use Rattle.flat_sizes.proofs.places.place_label.Reads as reads
use Rattle.flat_sizes.proofs.places.place_label.Lts as lts
use Rattle.check_structure.proofs.row_number.narrow.Reads as narrow-reads
use Rattle.words.proofs.table.number_at.Reads as number-at-reads
use Rattle.flat_sizes.proofs.places.place_label.Goals as goal

pub narrow-requires : goal.narrow-requires
narrow-requires c =
    omega (arith, line-few c.requires.0 c.requires.2 c.requires.3, c.requires.4)

pub offset_bounds-labels-label : goal.offset_bounds-labels-label
offset_bounds-labels-label c =
    omega (arith, label-few c.requires.0 c.requires.2 (sym c.number_at.ensures ∙ c.if-number_at-eq53.true), c.number_at-label.ensures)

pub bounds-labels-label : goal.bounds-labels-label
bounds-labels-label c =
    omega (arith, label-few c.requires.0 c.requires.2 (sym c.number_at.ensures ∙ c.if-number_at-eq53.true), c.number_at-label.ensures, c.requires.1.room)

pub returns-then-number_at-eq53 : goal.returns-then-number_at-eq53
returns-then-number_at-eq53 c =
    labelled-set c.requires.0 c.requires.2 _ _ c.requires.1 (sym c.number_at.ensures ∙ c.if-number_at-eq53.true) c.number_at-label.ensures (c.narrow.ensures ∙ c.requires.4)

pub returns-else-number_at-eq53 : goal.returns-else-number_at-eq53
returns-else-number_at-eq53 c =
    labelled-other c.requires.0 c.requires.2 c.requires.1 (λ q. c.if-number_at-eq53.false (c.number_at.ensures ∙ q))
