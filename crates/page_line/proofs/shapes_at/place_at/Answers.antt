-- What a row is as a place.
use Rattle.page_line.specs.ReadsLaws.{place_read}
use Rattle.page_line.proofs.shapes_at.place_at.Goals as goal

pub returns : goal.returns
returns c =
    place_read c.expression_at.ensures.0 c.place_of.ensures
