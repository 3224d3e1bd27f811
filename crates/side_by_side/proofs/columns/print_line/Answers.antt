-- `print_line`: the line ends within the text.
use native.Mathlib.Omega.{arith}
use Rattle.text_lines.proofs.Pieces.{piece_of}
use borrow.Author.Rules.{rules}
use Rattle.side_by_side.proofs.columns.print_line.Goals as goal

pub slice_bounds-print_bytes-end : goal.slice_bounds-print_bytes-end
slice_bounds-print_bytes-end g c = omega (arith, (piece_of 10 c.args.text.now c.args.at _ c.requires c.piece_end-end.ensures).inside, c.piece_end-end.ensures)

pub returns : goal.returns
returns g c =
    let ends = c.piece_end-end.ensures in
    let inside = (piece_of 10 c.args.text.now c.args.at _ c.requires ends).inside in
    record { lower_bound = (omega (arith, ends), inside); lower_bound_2 = λ h. omega (arith, inside, c.if-end-text.false, h) }
