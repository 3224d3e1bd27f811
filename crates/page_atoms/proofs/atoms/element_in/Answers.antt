-- `element_in`: the first bracket parts the array from its index.
use mathlib.Core.Path.{sym, ap, ap₂, ◌∙◌}
use Prim.Native.Nat.{◌+◌, ◌-◌}
use lib.ListN.{length, take, drop}
use native.Mathlib.Omega.{arith}
use Rattle.page_words.specs.Reads.{atom_read, element_of}
use Rattle.page_words.proofs.Parts.{piece-within, element-unparted, element-parted}
use Rattle.page_atoms.proofs.atoms.element_in.Goals as goal

pub returns-then-end-inner : goal.returns-then-end-inner
returns-then-end-inner c =
    element-unparted c.args.names c.args.inner.now c.piece_end-end.result c.piece_end-end.ensures c.if-end-inner.true

pub overflow_add-next : goal.overflow_add-next
overflow_add-next c =
    omega (arith, piece-within 91 c.args.inner.now c.piece_end-end.result c.piece_end-end.ensures)

pub slice_bounds-number_below-end : goal.slice_bounds-number_below-end
slice_bounds-number_below-end c =
    piece-within 91 c.args.inner.now c.piece_end-end.result c.piece_end-end.ensures

pub slice_bounds-atom-count : goal.slice_bounds-atom-count
slice_bounds-atom-count c =
    let f = c.if-end-inner.false in omega (arith, piece-within 91 c.args.inner.now c.piece_end-end.result c.piece_end-end.ensures)

pub slice_bounds-atom-start : goal.slice_bounds-atom-start
slice_bounds-atom-start c =
    let f = c.if-end-inner.false in omega (arith, piece-within 91 c.args.inner.now c.piece_end-end.result c.piece_end-end.ensures)

pub returns-in_err-array : goal.returns-in_err-array
returns-in_err-array c =
    c.from_residual.ensures ∙ ap (λ array. element_of array (atom_read c.args.names (take (length c.args.inner.now - (c.piece_end-end.result + 1)) (drop (c.piece_end-end.result + 1) c.args.inner.now)))) (sym c.in_err-array.was ∙ c.number_below.ensures) ∙ element-parted c.args.names c.args.inner.now c.piece_end-end.result c.piece_end-end.ensures c.if-end-inner.false

pub returns-in_err-index : goal.returns-in_err-index
returns-in_err-index c =
    c.from_residual-in_err-index.ensures ∙ ap₂ element_of (sym c.in_ok-array.was ∙ c.number_below.ensures) (sym c.in_err-index.was ∙ c.atom.ensures) ∙ element-parted c.args.names c.args.inner.now c.piece_end-end.result c.piece_end-end.ensures c.if-end-inner.false

pub returns : goal.returns
returns c =
    ap₂ element_of (sym c.in_ok-array.was ∙ c.number_below.ensures) (sym c.in_ok-index.was ∙ c.atom.ensures) ∙ element-parted c.args.names c.args.inner.now c.piece_end-end.result c.piece_end-end.ensures c.if-end-inner.false
