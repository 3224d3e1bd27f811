-- `lay_function`: piece by piece.
use native.Mathlib.Omega.{arith}
use lib.ListN.{length-append}
use Rattle.page.specs.Page.{function_word}
use Rattle.page_line.specs.LaidLaws.{laid_next}
use Rattle.page_line.proofs.functions.lay_function.Goals as goal

pub lay_bytes-start-requires : goal.lay_bytes-start-requires
lay_bytes-start-requires c =
    omega (arith, c.requires)

pub lay_lettered-end-requires : goal.lay_lettered-end-requires
lay_lettered-end-requires c =
    omega (arith, length-append (function_word c.args.number) c.args.ending.now, c.requires)

pub lay_bytes-requires : goal.lay_bytes-requires
lay_bytes-requires c =
    omega (arith, length-append (function_word c.args.number) c.args.ending.now, c.requires)

pub returns : goal.returns
returns c =
    laid_next c.lay_bytes-start.ensures (laid_next c.lay_lettered-end.ensures c.lay_bytes.ensures)
