-- `lay_minus`: piece by piece.
use native.Mathlib.Omega.{arith}
use mathlib.Core.Path.{◌≡◌}
use mathlib.Core.List.{◌∷◌, []}
use Prim.Native.Nat.{◌+◌}
use lib.ListN.{length, length-append}
use Rattle.language.specs.Decode.{expression_at}
use Rattle.language.specs.Trees.{minus}
use Rattle.page.specs.Page.{atom_word, ended, value_words, parted}
use Rattle.page_line.specs.Contents.{led}
use Rattle.page_line.specs.LaidLaws.{laid_as, laid_next}
use Rattle.page_line.specs.ContentLaws.{minus-bytes}
use Rattle.page_line.proofs.expressions.lay_minus.Goals as goal
use Rattle.page_line.proofs.expressions.lay_minus.Goals.{Start}

sizes : (c : Start)
    → length (led (ended (value_words c.args.sizes (minus (expression_at c.args.rows.now c.args.operand))))) ≡ length (atom_word c.args.sizes (expression_at c.args.rows.now c.args.operand)) + 4
unfolding ended parted
sizes c = omega (arith, length-append (atom_word c.args.sizes (expression_at c.args.rows.now c.args.operand)) (59 ∷ []))

pub lay_bytes-start-requires : goal.lay_bytes-start-requires
lay_bytes-start-requires c =
    omega (arith, sizes (goal.at.lay_bytes-start-requires c).Start, c.requires.operand_in_bounds)

pub lay_atom-end-requires : goal.lay_atom-end-requires
lay_atom-end-requires c =
    record { readable = c.requires.readable; row_in_bounds = omega (arith, sizes (goal.at.lay_atom-end-requires c).Start, c.requires.operand_in_bounds) }

pub lay_byte-requires : goal.lay_byte-requires
lay_byte-requires c =
    omega (arith, sizes (goal.at.lay_byte-requires c).Start, c.requires.operand_in_bounds)

pub returns : goal.returns
returns c =
    laid_as (minus-bytes c.args.sizes (expression_at c.args.rows.now c.args.operand)) (laid_next c.lay_bytes-start.ensures (laid_next c.lay_atom-end.ensures c.lay_byte.ensures))
