-- `put_rows`: the invariant says that the own lines of the rows below are written; a row's lines leave others as they are, or equal.
use mathlib.Core.Path.{◌≡◌, refl, sym, ◌∙◌}
use Prim.Native.Nat.{◌/◌}
use native.Mathlib.Omega.{arith}
use lib.ListN.{length}
use Rattle.words.specs.Table.{row_count}
use Rattle.flat_lines.specs.Whole.{wrote_none, wrote-row, wrote-whole}
use Rattle.flat_lines.proofs.rows.put_rows.Goals as goal

pub loop-row-init : goal.loop-row-init
loop-row-init c =
    wrote_none c.requires.0.table _ c.requires.1

pub put_row-requires : goal.put_row-requires
put_row-requires c =
    let rows : length c.args.rows.now / 6 ≡ row_count c.args.rows.now = refl in
    (c.requires.0, omega arith, c.loop-row.invariant.exact)

pub loop-row-preserved : goal.loop-row-preserved
loop-row-preserved c =
    let rows : length c.args.rows.now / 6 ≡ row_count c.args.rows.now = refl in
    wrote-row c.requires.0.table c.loop-row.invariant (omega arith) c.put_row.ensures

pub shape_of-out : goal.shape_of-out
shape_of-out c =
    c.loop-row.invariant.exact ∙ sym c.requires.1

pub returns : goal.returns
returns c =
    let rows : length c.args.rows.now / 6 ≡ row_count c.args.rows.now = refl in
    let e : c.loop-row.row ≡ row_count c.args.rows.now = omega arith in
    wrote-whole c.requires.0.table _ _ e c.loop-row.invariant
