-- `lay_test`: piece by piece.
use native.Mathlib.Omega.{arith}
use mathlib.Core.List.{◌∷◌, []}
use lib.ListN.{length-append}
use Rattle.language.specs.Decode.{expression_at}
use Rattle.page.specs.Page.{atom_word}
use Rattle.page_line.specs.Contents.{test_bytes}
use Rattle.page_line.specs.LaidLaws.{laid_next}
use Rattle.page_line.proofs.contents.lay_test.Goals as goal

pub lay_bytes-start-requires : goal.lay_bytes-start-requires
lay_bytes-start-requires c =
    omega (arith, length-append c.args.opening.now (test_bytes c.args.sizes (expression_at c.args.rows.now c.args.row)), c.requires.row_in_bounds)

pub lay_atom-end-requires : goal.lay_atom-end-requires
lay_atom-end-requires c =
    record { readable = c.requires.readable; row_in_bounds = omega (arith, length-append c.args.opening.now (test_bytes c.args.sizes (expression_at c.args.rows.now c.args.row)), length-append (atom_word c.args.sizes (expression_at c.args.rows.now c.args.row)) (41 ∷ 32 ∷ 123 ∷ []), c.requires.row_in_bounds) }

pub lay_bytes-requires : goal.lay_bytes-requires
lay_bytes-requires c =
    omega (arith, length-append c.args.opening.now (test_bytes c.args.sizes (expression_at c.args.rows.now c.args.row)), length-append (atom_word c.args.sizes (expression_at c.args.rows.now c.args.row)) (41 ∷ 32 ∷ 123 ∷ []), c.requires.row_in_bounds)

pub returns : goal.returns
returns c =
    laid_next c.lay_bytes-start.ensures (laid_next c.lay_atom-end.ensures c.lay_bytes.ensures)
