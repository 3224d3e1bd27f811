-- `lay_return`: piece by piece.
use native.Mathlib.Omega.{arith}
use mathlib.Core.Path.{◌≡◌}
use mathlib.Core.List.{◌∷◌, []}
use Prim.Native.Nat.{◌+◌}
use lib.ListN.{length, length-append}
use Rattle.language.specs.Decode.{expression_at}
use Rattle.page.specs.Page.{atom_word}
use Rattle.page_line.specs.Contents.{return_bytes}
use Rattle.page_line.specs.LaidLaws.{laid_next}
use Rattle.page_line.proofs.functions.lay_return.Goals as goal
use Rattle.page_line.proofs.functions.lay_return.Goals.{Start}

sizes : (c : Start)
    → length (return_bytes c.args.sizes (expression_at c.args.rows.now c.args.row)) ≡ length (atom_word c.args.sizes (expression_at c.args.rows.now c.args.row)) + 8
sizes c = omega (arith, length-append (atom_word c.args.sizes (expression_at c.args.rows.now c.args.row)) (59 ∷ []))

pub lay_bytes-start-requires : goal.lay_bytes-start-requires
lay_bytes-start-requires c =
    omega (arith, sizes (goal.at.lay_bytes-start-requires c).Start, c.requires.row_in_bounds)

pub lay_atom-end-requires : goal.lay_atom-end-requires
lay_atom-end-requires c =
    record { readable = c.requires.readable; row_in_bounds = omega (arith, sizes (goal.at.lay_atom-end-requires c).Start, c.requires.row_in_bounds) }

pub lay_byte-requires : goal.lay_byte-requires
lay_byte-requires c =
    omega (arith, sizes (goal.at.lay_byte-requires c).Start, c.requires.row_in_bounds)

pub returns : goal.returns
returns c =
    laid_next c.lay_bytes-start.ensures (laid_next c.lay_atom-end.ensures c.lay_byte.ensures)
