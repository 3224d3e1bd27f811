-- Conditions: what the functions that do a day are lent and leave.
use Rattle.std.specs.Prelude.{◌≡◌, List, ℕ, ◌+◌, ◌-◌, ◌≤◌, ℤ}
use Rattle.day_run.specs.declared.Tally.{Tally}
use Rattle.day_run.specs.Days.{Day, do_line}

abbrev pub day_left : Tally → List ℤ → Day
day_left tally store = record { store = store; plain = tally.plain; other = tally.other }

-- A line was done, whatever was counted before it: it counts 1 among those that ended plainly, or 0.
pub record LineDone (header rows pairs store : List ℤ) (plain : ℕ) (left : List ℤ) : Type 0 where
  pub one : plain ≤ 1
  pub does : (p o : ℕ) → do_line header rows pairs (record { store = store; plain = p; other = o }) ≡ record { store = left; plain = p + plain; other = o + (1 - plain) }
