-- `lay_read`: by the two sorts of places.
use mathlib.Core.Path.{subst}
use Rattle.words.specs.Table.{row_count}
use Rattle.page.specs.Page.{place_word}
use Rattle.language_shapes.specs.Shapes.{place_tree}
use Rattle.language_shapes.specs.declared.PlaceShape.{PlaceShape}
use Rattle.page_line.specs.Reads.{PlaceInside}
use Rattle.page_line.specs.LaidLaws.{laid_of}
use Rattle.page_line.proofs.expressions.lay_read.Goals as goal

pub lay_name-requires : goal.lay_name-requires
lay_name-requires c =
    rw c.in-Variable.is at c.requires.place_in_bounds

pub lay_element-requires : goal.lay_element-requires
lay_element-requires c =
    record { readable = (c.requires.readable.0, subst (λ (p : PlaceShape). PlaceInside (row_count c.args.rows.now) p) c.in-Element.is c.requires.readable.1); index_in_bounds = rw c.in-Element.is at c.requires.place_in_bounds }

pub returns-in-Variable : goal.returns-in-Variable
returns-in-Variable c =
    laid_of (λ (p : PlaceShape). place_word c.args.sizes (place_tree c.args.rows.now p)) c.in-Variable.is c.lay_name.ensures

pub returns-in-Element : goal.returns-in-Element
returns-in-Element c =
    laid_of (λ (p : PlaceShape). place_word c.args.sizes (place_tree c.args.rows.now p)) c.in-Element.is c.lay_element.ensures
