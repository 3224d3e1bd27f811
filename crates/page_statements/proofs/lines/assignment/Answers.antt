-- `assignment`: an argument, or the first blank parts the target from the rest.
use mathlib.Core.Path.{◌∙◌}
use native.Mathlib.Omega.{arith}
use Rattle.page_words.proofs.Parts.{piece-within, assignment-unparted, assignment-parted}
use Rattle.page_statements.proofs.lines.assignment.Goals as goal

pub returns-then-end-text : goal.returns-then-end-text
returns-then-end-text c =
    c.argument.ensures ∙ assignment-unparted c.args.names c.args.text.now c.piece_end-end.result c.piece_end-end.ensures c.if-end-text.true

pub slice_bounds-assignment_of-end : goal.slice_bounds-assignment_of-end
slice_bounds-assignment_of-end c =
    piece-within 32 c.args.text.now c.piece_end-end.result c.piece_end-end.ensures

pub slice_bounds-assignment_of-count-2 : goal.slice_bounds-assignment_of-count-2
slice_bounds-assignment_of-count-2 c =
    omega (arith, piece-within 32 c.args.text.now c.piece_end-end.result c.piece_end-end.ensures)

pub slice_bounds-assignment_of-start-2 : goal.slice_bounds-assignment_of-start-2
slice_bounds-assignment_of-start-2 c =
    omega (arith, piece-within 32 c.args.text.now c.piece_end-end.result c.piece_end-end.ensures)

pub returns : goal.returns
returns c =
    c.assignment_of.ensures ∙ assignment-parted c.args.names c.args.text.now c.piece_end-end.result c.piece_end-end.ensures c.if-end-text.false
