-- `lowest_of_number` follows the chain. The invariant: `lowest` is the lowest row found among the rows with smaller numbers, and
-- those with this number before `row`.
use mathlib.Core.Path.{◌≡◌, refl, sym, ◌∙◌}
use Prim.Native.Nat.{◌+◌, ◌-◌, ◌<◌}
use native.Mathlib.Omega.{arith}
use Rattle.words.specs.Table.{row_count}
use Rattle.words.specs.Search.{some}
use Rattle.check_labels.specs.Labels.{is_label, label_fault}
use Rattle.check_labels.specs.Passes.{Jump, NextJump, LowestAmong, Passed}
use Rattle.check_labels.proofs.Faults.{seen_skip, lowest_start, lowest-skip, lowest-row, lowest-end}
use Rattle.check_labels.proofs.labels.lowest_of_number.Goals as goal
use Rattle.check_labels.proofs.labels.lowest_of_number.Goals.{After-wide-row}

pub loop-row-init : goal.loop-row-init
unfolding some
loop-row-init c =
    let pre = c.requires in
    (refl, pre.3.is, (λ n. sym (seen_skip _ _ _ _ pre.3 (omega arith))), lowest-skip _ _ _ _ _ pre.3 (lowest_start _ _ _ pre.4))

pub is_label_fault-fault-requires : goal.is_label_fault-fault-requires
is_label_fault-fault-requires c =
    let pre = c.requires in
    (pre.0, pre.1, c.loop-row.invariant.1 (omega arith), c.loop-row.invariant.2 (omega arith))

pub has_seen-seen-requires : goal.has_seen-seen-requires
has_seen-seen-requires c = (c.requires.0.tree.whole, c.loop-row.invariant.2 (omega arith))

pub offset_bounds-chain-row : goal.offset_bounds-chain-row
offset_bounds-chain-row c = let few = c.requires.0.tree.few in record { fits = omega arith }

pub bounds-chain-row : goal.bounds-chain-row
bounds-chain-row c = let room = c.requires.2.room in omega arith

-- what follows in the chain
next_is : (c : After-wide-row) → NextJump c.args.rows.now c.args.number (c.loop-row.row + 1) c.wide-row.result
next_is c = rw c.wide-row.ensures (c.requires.2.follows _ _ (omega arith) (c.loop-row.invariant.1 (omega arith)))

pub loop-row-smaller : goal.loop-row-smaller
loop-row-smaller c = let next = (next_is c).least in omega arith

pub loop-row-preserved : goal.loop-row-preserved
loop-row-preserved c = (
  refl,
  (next_is c).is,
  (λ n. c.has_seen-seen.ensures ∙ sym (seen_skip _ _ _ _ (next_is c) (omega arith))),
  rw c.lower_row-lowest.ensures (lowest-skip _ _ _ _ _ (next_is c) (lowest-row _ _ _ _ _ (omega arith) c.is_label_fault-fault.ensures c.loop-row.invariant.3)),
)

pub returns : goal.returns
returns c = lowest-end _ _ _ _ (omega arith) c.loop-row.invariant.3
