-- Followed: one run behind another. "It ends as the first does where that faults, otherwise as the second does from the store the first left."
use Rattle.std.specs.Prelude.{Bool, true, false, List, ℕ, suc, ◌+◌, ◌-◌, ℤ}
use Rattle.words.specs.Word.{pick}
use Rattle.words.specs.declared.Ending.{Ending}
use Rattle.words.specs.declared.Ending.TheVariants.{Plain, Spent, Fault}
use Rattle.language.specs.Program.{Finished}

abbrev pub is_plain : Ending → Bool
is_plain Plain = true
is_plain Spent = false
is_plain (Fault sort) = false

-- A finished run, with so many steps before it.
abbrev pub raised : ℕ → Finished → Finished
raised steps run = record { ending = run.ending; count = steps + run.count; store = run.store }

-- What a join does behind the step of its new block, with a budget for the rest: the first run, and where that ended plainly the second, on the
-- steps left and from the store left. "The count is the sum of those done plus one for the new outer block."
unfoldable pub followed : (ℕ → List ℤ → Finished) → ℕ → Finished → Finished
followed second budget first =
    pick (is_plain first.ending) (raised (suc first.count) (second (budget - first.count) first.store)) (raised 1 first)
