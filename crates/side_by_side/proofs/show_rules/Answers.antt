-- `show_rules`: the position stays within the input.
use mathlib.Core.Path.{◌≡◌}
use mathlib.Core.List.{List}
use Prim.Native.Nat.{ℕ, ◌+◌, ◌-◌, ◌≤◌, ◌<◌}
use native.Mathlib.Omega.{arith}
use lib.ListN.{length, drop}
use Rattle.text_lines.specs.Reader.{piece_end}
use Rattle.text_lines.proofs.Pieces.{piece_of}
use borrow.Author.Rules.{rules}
use Rattle.side_by_side.proofs.show_rules.Goals as goal

-- A rule that begins within the input ends within it.
rule-inside : (input : List ℕ) (at end : ℕ) → at < length input → end ≡ at + 1 + piece_end 35 (drop (at + 1) input) → end ≤ length input
rule-inside input at end h e = (piece_of 35 input (at + 1) end (omega arith) e).inside

pub slice_bounds-show_rule-end : goal.slice_bounds-show_rule-end
slice_bounds-show_rule-end g c = omega (arith, rule-inside _ _ _ c.loop-at-test.true c.piece_end-end.ensures, c.piece_end-end.ensures)

pub loop-at-preserved : goal.loop-at-preserved
loop-at-preserved g c = rule-inside _ _ _ c.loop-at-test.true c.piece_end-end.ensures
