-- `lay_read_value`: a blank, the place, the semicolon.
use native.Mathlib.Omega.{arith}
use mathlib.Core.List.{◌∷◌, []}
use lib.ListN.{length-append}
use Rattle.page.specs.Page.{place_word}
use Rattle.language_shapes.specs.Shapes.{place_tree}
use Rattle.page_line.specs.LaidLaws.{laid_next}
use Rattle.page_line.proofs.expressions.lay_read_value.Goals as goal

pub lay_read-end-requires : goal.lay_read-end-requires
lay_read-end-requires c =
    record { readable = c.requires.readable; place_in_bounds = omega (arith, length-append (place_word c.args.sizes (place_tree c.args.rows.now c.args.place)) (59 ∷ []), c.requires.place_in_bounds) }

pub lay_byte-requires : goal.lay_byte-requires
lay_byte-requires c =
    omega (arith, length-append (place_word c.args.sizes (place_tree c.args.rows.now c.args.place)) (59 ∷ []), c.requires.place_in_bounds)

pub returns : goal.returns
returns c =
    laid_next c.lay_byte-start.ensures (laid_next c.lay_read-end.ensures c.lay_byte.ensures)
