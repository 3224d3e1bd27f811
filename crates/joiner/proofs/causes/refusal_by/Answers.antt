-- `refusal_by` lends as many zeros as the joined rows have words.
use mathlib.Core.Path.{ap, ◌∙◌}
use Prim.Native.Nat.{◌+◌, ◌≤◌}
use lib.IntN.{pos}
use lib.ListN.{length, length-replicate}
use Rattle.words.specs.Laws.{zeros-part}
use native.Mathlib.Omega.{arith}
use Rattle.joiner.proofs.causes.refusal_by.Goals as goal
use Rattle.joiner.proofs.causes.refusal_by.Goals.{Start}

-- few rows have room in the table
room : (c : Start) → 6 + length c.args.first.now + length c.args.second.now ≤ 12288
room c =
    let few = c.requires.few in
    omega (arith, c.requires.parts.tree_first.whole, c.requires.parts.tree_second.whole)

pub refusal_in_table-requires : goal.refusal_in_table-requires
refusal_in_table-requires c =
    let s = c.before in
    let words = 6 + length s.args.first.now + length s.args.second.now in
    (s.requires, ap length (zeros-part words 12288 (room (goal.at.refusal_in_table-requires c).Start)) ∙ length-replicate words (pos 0))
