-- `put_rows`: the invariant is that the rows of the part before this row are written, each behind the one before it.
use Rattle.std.proofs.Common.{◌≡◌, ◌*◌}
use Rattle.words.specs.Over.{over}
use Rattle.join.specs.Join.{before, placed_rows}
use Rattle.join_rows.specs.Standings.{part, placement_of}
use Rattle.join_rows.proofs.placed.Placed.put_rows.Given as goal

abbrev pub invariant-loop-row : goal.invariant-loop-row
invariant-loop-row l =
    let rows = l.self.rows.now in
    (l.at ≡ 6 * before (part l.definitions rows) l.row) × (l.out ≡ over (placed_rows (placement_of l.self.standing) (part l.definitions rows) rows l.row) l.initial.out)
