-- The walk for depth. Its measure is the rows above the current number; the list's loop and the fields' loop carry what the rows passed give.
use mathlib.Core.Path.{◌≡◌, sym, ap, ◌∙◌}
use mathlib.Core.Logic.{⊎_elim}
use Prim.Native.Nat.{◌+◌, ◌*◌, ◌-◌, ◌/◌, ◌≤◌, ℕ, ◌<◌}
use native.Mathlib.Omega.{arith}
use lib.ListN.{length}
use Rattle.words.specs.Table.{row_count}
use Rattle.check_structure.specs.Links.{depth_at}
use Rattle.check_structure.specs.DepthLaws.{depth-owned, depth-beside}
use Rattle.check_structure.specs.Passes.{Through, LowestDeep}
use Rattle.check_structure.proofs.Walk.{over, through-start, through-none, through-more, Along, along-start, along-to, along-end, follows}
use Rattle.check_structure.proofs.depth.+lowest_depth.Given as goal

abbrev pub decreases-lowest_deep : goal.decreases-lowest_deep
decreases-lowest_deep l =
    2 * (length l.rows.now / 6 - l.first) + 1

abbrev pub decreases-lowest_deep_parts : goal.decreases-lowest_deep_parts
decreases-lowest_deep_parts l =
    2 * (length l.rows.now / 6 - l.row)

abbrev pub invariant-lowest_deep-loop-limit : goal.invariant-lowest_deep-loop-limit
invariant-lowest_deep-loop-limit l =
    (l.first ≤ l.row) × (l.row < row_count l.rows) × (depth_at l.rows l.row ≡ l.depth) × Along l.limit l.rows l.first l.row l.found

abbrev pub decreases-lowest_deep-loop-limit : goal.decreases-lowest_deep-loop-limit
decreases-lowest_deep-loop-limit l =
    row_count l.rows - l.row

abbrev pub invariant-lowest_deep_parts-loop-field : goal.invariant-lowest_deep_parts-loop-field
invariant-lowest_deep_parts-loop-field l =
    LowestDeep l.limit l.rows (Through l.rows l.row l.field) l.found
