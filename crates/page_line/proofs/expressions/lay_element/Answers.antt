-- `lay_element`: the array, the bracket, the index, the bracket.
use native.Mathlib.Omega.{arith}
use mathlib.Core.Path.{◌≡◌}
use mathlib.Core.List.{◌∷◌, [], ◌++◌}
use Prim.Native.Nat.{◌+◌}
use lib.ListN.{length, length-append}
use Rattle.text_numbers.specs.Number.{digits}
use Rattle.language.specs.Trees.{element}
use Rattle.language.specs.Decode.{expression_at}
use Rattle.page.specs.Page.{atom_word, place_word}
use Rattle.page_line.specs.LaidLaws.{laid_next}
use Rattle.page_line.proofs.expressions.lay_element.Goals as goal
use Rattle.page_line.proofs.expressions.lay_element.Goals.{Start}

sizes : (c : Start)
    → length (place_word c.args.sizes (element c.args.array (expression_at c.args.rows.now c.args.index))) ≡ length (digits c.args.array) + length (atom_word c.args.sizes (expression_at c.args.rows.now c.args.index)) + 3
sizes c =
    let atom = atom_word c.args.sizes (expression_at c.args.rows.now c.args.index) in
    omega (arith, length-append (digits c.args.array) (91 ∷ (atom ++ (93 ∷ []))), length-append atom (93 ∷ []))

pub lay_lettered-named-requires : goal.lay_lettered-named-requires
lay_lettered-named-requires c =
    omega (arith, sizes (goal.at.lay_lettered-named-requires c).Start, c.requires.index_in_bounds)

pub lay_byte-opened-requires : goal.lay_byte-opened-requires
lay_byte-opened-requires c =
    omega (arith, sizes (goal.at.lay_byte-opened-requires c).Start, c.requires.index_in_bounds)

pub lay_atom-indexed-requires : goal.lay_atom-indexed-requires
lay_atom-indexed-requires c =
    record { readable = c.requires.readable; row_in_bounds = omega (arith, sizes (goal.at.lay_atom-indexed-requires c).Start, c.requires.index_in_bounds) }

pub lay_byte-requires : goal.lay_byte-requires
lay_byte-requires c =
    omega (arith, sizes (goal.at.lay_byte-requires c).Start, c.requires.index_in_bounds)

pub returns : goal.returns
returns c =
    laid_next c.lay_lettered-named.ensures (laid_next c.lay_byte-opened.ensures (laid_next c.lay_atom-indexed.ensures c.lay_byte.ensures))
