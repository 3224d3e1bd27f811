-- `lay_blanks`: one blank after the other; the invariant is that as many are laid.
use Prim.Native.Nat.{◌+◌, ◌-◌, ◌≤◌}
use Rattle.page.specs.Page.{blanks}
use Rattle.page_line.specs.Laid.{Laid}
use Rattle.page_line.proofs.bytes.lay_blanks.Given as goal

abbrev pub invariant-loop-i : goal.invariant-loop-i
invariant-loop-i l =
    (l.i ≤ l.count) × Laid (blanks l.i) l.initial.text l.at (l.at + l.i) l.text

abbrev pub decreases-loop-i : goal.decreases-loop-i
decreases-loop-i l =
    l.count - l.i
