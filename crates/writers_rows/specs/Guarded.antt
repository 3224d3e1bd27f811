-- Guarded: the rows of the guarded forms, beside the code of their guards and blocks.
use Rattle.std.specs.Prelude.{Bool, false, List, ◌++◌, ℕ, ◌+◌, ℤ, pos}
use Rattle.language.specs.Trees.{Expression, goto, label, Items, none, ◌then◌, ◌here◌}
use Rattle.language_emission.specs.Emission.{row_of, emit_expression, emit_items}

-- The rows that head an arm: the if, its atom x, and the block of its body, which takes `rows` rows before its goto. The other block is
-- the last row of the arm.
abbrev pub arm_head : Expression → ℕ → ℕ → List ℤ
arm_head x base rows = row_of 43 (pos (base + 1)) (base + 2) (base + 4 + rows) 0 (base + 5 + rows) ++ emit_expression x (base + 1) ++ row_of 42 (pos (base + 3)) 0 0 0 0

-- The rows that end it: the goto, and the other block, which is empty.
abbrev pub arm_end : ℕ → List ℤ
arm_end out = row_of 52 (pos out) 0 0 0 0 ++ row_of 42 (pos 0) 0 0 0 0

-- The end of a guarded do's rounds, inside the loop: label l is behind it, label l + 1 where arms go on.
abbrev pub round_over : ℕ → Items
round_over l = goto l then label (l + 1) here none

-- The same, and the label behind the loop.
abbrev pub rounds_end : ℕ → ℕ → Bool → List ℤ
rounds_end l base follows = emit_items false (round_over l) base ++ emit_items follows (label l here none) (base + 2)
