-- `lay_argument`: the atom, and what ends the line.
use native.Mathlib.Omega.{arith}
use lib.ListN.{length-append}
use Rattle.language.specs.Decode.{expression_at}
use Rattle.page.specs.Page.{atom_word}
use Rattle.page_line.specs.LaidLaws.{laid_next}
use Rattle.page_line.proofs.functions.lay_argument.Goals as goal

pub lay_atom-end-requires : goal.lay_atom-end-requires
lay_atom-end-requires c =
    record { readable = c.requires.readable; row_in_bounds = omega (arith, length-append (atom_word c.args.sizes (expression_at c.args.rows.now c.args.row)) c.args.ending.now, c.requires.ending_in_bounds) }

pub lay_bytes-requires : goal.lay_bytes-requires
lay_bytes-requires c =
    omega (arith, length-append (atom_word c.args.sizes (expression_at c.args.rows.now c.args.row)) c.args.ending.now, c.requires.ending_in_bounds)

pub returns : goal.returns
returns c =
    laid_next c.lay_atom-end.ensures c.lay_bytes.ensures
