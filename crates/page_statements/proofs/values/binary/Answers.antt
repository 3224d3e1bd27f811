-- `binary`: the first blank parts the operator from the second operand.
use mathlib.Core.Path.{◌∙◌}
use mathlib.Core.Path.{◌∙◌}
use native.Mathlib.Omega.{arith}
use Rattle.page_words.proofs.Parts.{piece-within, binary-unparted, binary-parted}
use Rattle.page_statements.proofs.values.binary.Goals as goal

pub returns-then-end-rest : goal.returns-then-end-rest
returns-then-end-rest c =
    binary-unparted c.args.names c.args.first.now c.args.rest.now c.piece_end-end.result c.piece_end-end.ensures c.if-end-rest.true

pub overflow_add-next : goal.overflow_add-next
overflow_add-next c =
    omega (arith, piece-within 32 c.args.rest.now c.piece_end-end.result c.piece_end-end.ensures)

pub slice_bounds-operator-end : goal.slice_bounds-operator-end
slice_bounds-operator-end c =
    piece-within 32 c.args.rest.now c.piece_end-end.result c.piece_end-end.ensures

pub slice_bounds-atom-count : goal.slice_bounds-atom-count
slice_bounds-atom-count c =
    let f = c.if-end-rest.false in omega (arith, piece-within 32 c.args.rest.now c.piece_end-end.result c.piece_end-end.ensures)

pub slice_bounds-atom-start : goal.slice_bounds-atom-start
slice_bounds-atom-start c =
    let f = c.if-end-rest.false in omega (arith, piece-within 32 c.args.rest.now c.piece_end-end.result c.piece_end-end.ensures)

pub returns : goal.returns
returns c =
    c.binary_of.ensures ∙ rw (c.operator-operation.ensures, c.atom-left.ensures, c.atom-right.ensures) (binary-parted c.args.names c.args.first.now c.args.rest.now c.piece_end-end.result c.piece_end-end.ensures c.if-end-rest.false)
