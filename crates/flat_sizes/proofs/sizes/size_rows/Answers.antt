use mathlib.Core.Path.{◌≡◌, refl, ◌∙◌}
use Prim.Native.Nat.{◌-◌, ◌+◌, ◌/◌}
use native.Mathlib.Omega.{arith}
use lib.ListN.{length}
use Rattle.words.specs.Table.{row_count}
use Rattle.flat_sizes.specs.Sizes.{sized-none, sized-at}
use Rattle.flat_sizes.proofs.sizes.size_rows.Goals as goal

pub loop-row-init : goal.loop-row-init
loop-row-init c =
    (sized-none c.requires.0 _ c.requires.1, refl)

pub size_row-requires : goal.size_row-requires
size_row-requires c =
    let rows : length c.args.rows.now / 6 ≡ row_count c.args.rows.now = refl in
    (c.requires.0, sized-at c.requires.0 (let e : c.loop-row.row ≡ (c.loop-row.row - 1) + 1 = omega arith in e) c.loop-row.invariant.0, omega arith)

pub loop-row-preserved : goal.loop-row-preserved
loop-row-preserved c =
    (c.size_row.ensures, c.size_row.auto.sizes ∙ c.loop-row.invariant.1)

pub shape_of-sizes : goal.shape_of-sizes
shape_of-sizes c =
    c.loop-row.invariant.1

pub returns : goal.returns
returns c =
    sized-at c.requires.0 (let e : c.loop-row.row ≡ 0 = omega arith in e) c.loop-row.invariant.0
