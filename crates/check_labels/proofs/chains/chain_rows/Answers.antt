-- `chain_rows` takes the rows from the last to the first. The invariant: the rows from `row` on are chained.
use mathlib.Core.Path.{◌≡◌, refl, ◌∙◌}
use Prim.Native.Nat.{◌≤◌, ◌+◌, ◌-◌}
use native.Mathlib.Omega.{arith}
use lib.ListN.{length}
use Rattle.words.specs.Table.{row_count}
use Rattle.check_labels.specs.Passes.{Heads, Chain}
use Rattle.check_labels.proofs.chains.chain_rows.Goals as goal

pub loop-row-init : goal.loop-row-init
loop-row-init c = (omega arith, c.requires.2, c.requires.3, refl, refl)

pub chain_row-requires : goal.chain_row-requires
chain_row-requires c =
    let same : c.loop-row.row - 1 + 1 ≡ c.loop-row.row = omega arith in
    (c.requires.0, c.requires.1, omega arith, rw same c.loop-row.invariant.1, rw same c.loop-row.invariant.2)

pub loop-row-preserved : goal.loop-row-preserved
loop-row-preserved c = (
  omega arith,
  c.chain_row.ensures.0,
  c.chain_row.ensures.1,
  c.chain_row.auto.heads ∙ c.loop-row.invariant.3,
  c.chain_row.auto.chain ∙ c.loop-row.invariant.4,
)

pub shape_of-heads : goal.shape_of-heads
shape_of-heads c = c.loop-row.invariant.3

pub shape_of-chain : goal.shape_of-chain
shape_of-chain c = c.loop-row.invariant.4

pub returns : goal.returns
returns c =
    let last : c.loop-row.row ≡ 0 = omega arith in
    (rw (← last) c.loop-row.invariant.1, rw (← last) c.loop-row.invariant.2)
