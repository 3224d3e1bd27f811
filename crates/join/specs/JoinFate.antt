-- Fate of a join with no limit on steps, in the request's words, by the runs of three programs with every budget.
use Rattle.std.specs.Prelude.{◌≡◌, List, ℕ, suc, ℤ}
use Rattle.words.specs.declared.FaultSort.{FaultSort}
use Rattle.words.specs.declared.Ending.TheVariants.{Plain, Spent, Fault}
use Rattle.language.specs.Program.{Finished}
use Rattle.join.specs.Followed.{raised}

-- "a run ends exactly when some whole number as its budget .. gives another ending than spent": it ends so, with this count and this store.
pub record EndsAs (runs : ℕ → Finished) (end : Finished) : Type 0 where
  pub budget : ℕ
  pub is : runs budget ≡ end
  pub not_spent : end.ending ≡ Spent → ⊥

abbrev pub NeverEnds : (ℕ → Finished) → Type 0
NeverEnds runs = (budget : ℕ) → (runs budget).ending ≡ Spent

-- Two programs and the program that joins them: the first and the join from one store, the second from each store that the first can leave. "The count is
-- the sum of those done plus one for the new outer block."
pub record Fate (first : ℕ → Finished) (second : List ℤ → ℕ → Finished) (joined : ℕ → Finished) : Type 0 where
  -- "It ends as the first does where that faults, .."
  pub as_first : (end : Finished) (sort : FaultSort) → EndsAs first end → end.ending ≡ Fault sort → EndsAs joined (raised 1 end)
  -- ".. otherwise as the second does from the store the first left;"
  pub as_second : (left end : Finished) → EndsAs first left → left.ending ≡ Plain → EndsAs (second left.store) end → EndsAs joined (raised (suc left.count) end)
  -- "if a run so done never ends, nor does the join."
  pub endless_first : NeverEnds first → NeverEnds joined
  pub endless_second : (left : Finished) → EndsAs first left → left.ending ≡ Plain → NeverEnds (second left.store) → NeverEnds joined
