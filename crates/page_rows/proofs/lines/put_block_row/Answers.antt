-- `put_block_row`: the link is the row behind, or 0.
use Prim.Native.Nat.{◌+◌}
use native.Mathlib.Omega.{arith}
use Rattle.page_rows.proofs.Steps.{pick-most, block_written}
use borrow.Author.Rules.{rules}
use Rattle.page_rows.proofs.lines.put_block_row.Goals as goal

pub put_block-requires : goal.put_block-requires
put_block-requires c =
    let low = pick-most c.args.follows (c.args.base + 1) in
    (omega (arith, c.requires.0.inside), omega (arith, c.behind.ensures, low, c.requires.0.low), omega (arith, c.requires.1))

pub returns : goal.returns
returns c =
    block_written _ _ c.args.base _ _ c.args.follows c.put_block.ensures c.behind.ensures
