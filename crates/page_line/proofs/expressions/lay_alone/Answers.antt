-- `lay_alone`: piece by piece.
use native.Mathlib.Omega.{arith}
use mathlib.Core.List.{◌∷◌, []}
use lib.ListN.{length-append}
use Rattle.page.specs.Page.{function_word}
use Rattle.page_line.specs.LaidLaws.{laid_next}
use Rattle.page_line.proofs.expressions.lay_alone.Goals as goal

pub lay_byte-start-requires : goal.lay_byte-start-requires
lay_byte-start-requires c =
    omega (arith, c.requires)

pub lay_lettered-named-requires : goal.lay_lettered-named-requires
lay_lettered-named-requires c =
    omega (arith, length-append (function_word c.args.number) (40 ∷ 41 ∷ 59 ∷ []), c.requires)

pub lay_bytes-requires : goal.lay_bytes-requires
lay_bytes-requires c =
    omega (arith, length-append (function_word c.args.number) (40 ∷ 41 ∷ 59 ∷ []), c.requires)

pub returns : goal.returns
returns c =
    laid_next c.lay_byte-start.ensures (laid_next c.lay_lettered-named.ensures c.lay_bytes.ensures)
