-- `lay_goto`: piece by piece.
use native.Mathlib.Omega.{arith}
use mathlib.Core.List.{◌∷◌, []}
use lib.ListN.{length-append}
use Rattle.text_numbers.specs.Number.{digits}
use Rattle.page_line.specs.LaidLaws.{laid_next}
use Rattle.page_line.proofs.contents.lay_goto.Goals as goal

pub lay_lettered-end-requires : goal.lay_lettered-end-requires
lay_lettered-end-requires c =
    omega (arith, length-append (digits c.args.number) (59 ∷ []), c.requires)

pub lay_byte-requires : goal.lay_byte-requires
lay_byte-requires c =
    omega (arith, length-append (digits c.args.number) (59 ∷ []), c.requires)

pub returns : goal.returns
returns c =
    laid_next c.lay_bytes-start.ensures (laid_next c.lay_lettered-end.ensures c.lay_byte.ensures)
