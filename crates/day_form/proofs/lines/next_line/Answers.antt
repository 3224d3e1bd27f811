-- `next_line`: the piece up to the next newline is the first line.
use mathlib.Core.Path.{refl}
use native.Mathlib.Omega.{arith}
use Rattle.text_lines.proofs.Pieces.{piece_of}
use Rattle.day_form.proofs.Numbers.{unended-next, ended-next}
use borrow.Author.Rules.{rules}
use Rattle.day_form.proofs.lines.next_line.Goals as goal

pub returns-then-end-text : goal.returns-then-end-text
returns-then-end-text c =
    unended-next (piece_of 10 _ _ _ (omega (arith, c.requires.at_in_bounds)) c.piece_end-end.ensures) c.requires.at_in_bounds _ (omega (arith, c.if-end-text.true)) _ refl

pub slice_bounds-read_numbers-end : goal.slice_bounds-read_numbers-end
slice_bounds-read_numbers-end c =
    let p = piece_of 10 _ _ _ (omega (arith, c.requires.at_in_bounds)) c.piece_end-end.ensures in omega (arith, p.inside)

pub read_numbers-count-requires : goal.read_numbers-count-requires
read_numbers-count-requires c =
    c.requires.most_numbers_in_bounds

pub overflow_add-result : goal.overflow_add-result
overflow_add-result c =
    let p = piece_of 10 _ _ _ (omega (arith, c.requires.at_in_bounds)) c.piece_end-end.ensures in let other = c.if-end-text.false in omega (arith, p.inside)

pub returns : goal.returns
returns c =
    let p = piece_of 10 _ _ _ (omega (arith, c.requires.at_in_bounds)) c.piece_end-end.ensures in ended-next p c.requires.at_in_bounds _ _ (let other = c.if-end-text.false in omega (arith, p.inside)) _ c.read_numbers-count.ensures
