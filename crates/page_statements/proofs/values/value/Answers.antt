-- `value`: one word, or several parted by blanks.
use mathlib.Core.Path.{◌∙◌}
use native.Mathlib.Omega.{arith}
use Rattle.page_words.proofs.Parts.{piece-within, value-unparted, value-parted}
use Rattle.page_statements.proofs.values.value.Goals as goal

pub returns-then-end-text : goal.returns-then-end-text
returns-then-end-text c =
    c.single.ensures ∙ value-unparted c.args.names c.args.text.now c.piece_end-end.result c.piece_end-end.ensures c.if-end-text.true

pub overflow_add-next : goal.overflow_add-next
overflow_add-next c =
    omega (arith, piece-within 32 c.args.text.now c.piece_end-end.result c.piece_end-end.ensures)

pub slice_bounds-several-end : goal.slice_bounds-several-end
slice_bounds-several-end c =
    piece-within 32 c.args.text.now c.piece_end-end.result c.piece_end-end.ensures

pub slice_bounds-several-count-2 : goal.slice_bounds-several-count-2
slice_bounds-several-count-2 c =
    let f = c.if-end-text.false in omega (arith, piece-within 32 c.args.text.now c.piece_end-end.result c.piece_end-end.ensures)

pub slice_bounds-several-start-2 : goal.slice_bounds-several-start-2
slice_bounds-several-start-2 c =
    let f = c.if-end-text.false in omega (arith, piece-within 32 c.args.text.now c.piece_end-end.result c.piece_end-end.ensures)

pub returns : goal.returns
returns c =
    c.several.ensures ∙ value-parted c.args.names c.args.text.now c.piece_end-end.result c.piece_end-end.ensures c.if-end-text.false
