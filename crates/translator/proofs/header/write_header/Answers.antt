-- `write_header` writes V, D and T, then the array lengths behind them.
use Prim.Native.Nat.{◌-◌}
use native.Mathlib.Omega.{arith}
use borrow.Author.Rules.{rules}
use mir.Syntax.{w32}
use mir.Facts.{to_z_pos}
use Rattle.words.specs.Laws.{header_fits-facts, back}
use Rattle.words.specs.declared.Form.TheVariants.{Source}
use Rattle.words.specs.OverLaws.{length_over}
use Rattle.translator.specs.HeaderLaws.{header-over}
use Rattle.translator.proofs.header.write_header.Goals as goal

pub bounds-header-0 : goal.bounds-header-0
bounds-header-0 c = omega (arith, (header_fits-facts Source c.args.header.now c.requires.0).least)

pub put-requires : goal.put-requires
put-requires c =
    let start = c.before.before.before in
    omega (arith, start.requires.3, (header_fits-facts Source start.args.header.now start.requires.0).least)

pub slice_bounds-put-count : goal.slice_bounds-put-count
slice_bounds-put-count c =
    let start = c.before.before.before.before.before in
    omega (arith, (header_fits-facts Source start.args.header.now start.requires.0).least)

pub slice_bounds-put-start : goal.slice_bounds-put-start
slice_bounds-put-start c =
    let start = c.before.before.before.before.before in
    omega (arith, (header_fits-facts Source start.args.header.now start.requires.0).least)

pub slice_bounds-put-count-2 : goal.slice_bounds-put-count-2
slice_bounds-put-count-2 c =
    let start = c.before.before.before.before.before.before in
    let kept = length_over _ start.args.out.now _ c.put.ensures (omega (arith, start.requires.3, (header_fits-facts Source start.args.header.now start.requires.0).least)) in
    omega (arith, kept, start.requires.3, (header_fits-facts Source start.args.header.now start.requires.0).least)

pub slice_bounds-put-start-2 : goal.slice_bounds-put-start-2
slice_bounds-put-start-2 c =
    let start = c.before.before.before.before.before.before in
    let kept = length_over _ start.args.out.now _ c.put.ensures (omega (arith, start.requires.3, (header_fits-facts Source start.args.header.now start.requires.0).least)) in
    omega (arith, kept, start.requires.3, (header_fits-facts Source start.args.header.now start.requires.0).least)

pub returns : goal.returns
returns c =
    let start = c.before.before.before.before.before.before.before.before.before in
    header-over start.args.header.now start.args.declared start.args.temporaries start.args.out.now _ _ _ _ _ start.requires.0
    (back _ c.leading-1.given) (to_z_pos w32 {n = start.args.declared} (omega (arith, start.requires.1))) (to_z_pos w32 {n = start.args.temporaries} (omega (arith, start.requires.2)))
    c.put.ensures c.put-2.ensures
