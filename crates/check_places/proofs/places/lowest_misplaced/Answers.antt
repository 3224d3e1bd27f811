-- `lowest_misplaced`: with the notes of the definition, a row out of place is a misplaced one.
use mathlib.Core.Path.{◌∙◌}
use Rattle.words.specs.SearchLaws.{lowest_row-same}
use Rattle.check_places.specs.Places.{misplaced}
use borrow.Author.Rules.{rules}
use Rattle.check_places.proofs.places.lowest_misplaced.Goals as goal

pub returns : goal.returns
unfolding misplaced
returns c =
    let notes = c.requires in
    c.lowest_out_of_place.ensures
    ∙ lowest_row-same _ _ _ (λ row n. rw (notes.0.is row n, notes.1.is row n, notes.2.is row n))
