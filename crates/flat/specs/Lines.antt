-- Lines: what a line of the flat list does, and the flat run. A configuration is a line number and a store; the run ends just past the
-- last line.
use Rattle.std.specs.Prelude.{List, [], ◌∷◌, ℕ, zero, suc, ℤ, pos, get_or, set, Err, Ok, Result}
use Rattle.words.specs.Word.{pick}
use Rattle.words.specs.Layout.{Layout, array_base, array_length}
use Rattle.arithmetic.specs.Arithmetic.{is_true, apply, minus as minus_word, element as element_word}
use Rattle.words.specs.declared.FaultSort.{FaultSort}
use Rattle.words.specs.declared.FaultSort.TheVariants.{Guard}
use Rattle.words.specs.declared.Operator.{Operator}
use Rattle.words.specs.declared.Ending.TheVariants.{Plain, Spent, Fault}
use Rattle.language.specs.Program.{Finished}

-- An operand: a constant, or a store word.
pub data Operand : Type 0 where
  number : ℤ → Operand
  word : ℕ → Operand

-- An operation on the store: what it stores, from which operands.
pub data Operation : Type 0 where
  copy minus : ℕ → Operand → Operation
  operate : Operator → ℕ → Operand → Operand → Operation
  fetch : ℕ → ℕ → Operand → Operation
  put : ℕ → Operand → Operand → Operation

-- A line: an operation, and the following line; a jump to a line; a jump where an operand is 0, or is not; the kernel's abort.
pub data FlatLine : Type 0 where
  does : Operation → FlatLine
  jump : ℕ → FlatLine
  jump_zero jump_other : Operand → ℕ → FlatLine
  abort : FlatLine

abbrev pub value_of : Operand → List ℤ → ℤ
value_of (number v) s = v
value_of (word i) s = get_or s i (pos 0)

-- A value stored, or the fault.
abbrev pub stored : ℕ → List ℤ → Result ℤ FaultSort → Result (List ℤ) FaultSort
stored i s (Ok v) = Ok (set s i v)
stored i s (Err sort) = Err sort

abbrev pub fetched : ℕ → List ℤ → Result ℕ FaultSort → Result (List ℤ) FaultSort
fetched i s (Ok position) = Ok (set s i (get_or s position (pos 0)))
fetched i s (Err sort) = Err sort

abbrev pub put_at : ℤ → List ℤ → Result ℕ FaultSort → Result (List ℤ) FaultSort
put_at v s (Ok position) = Ok (set s position v)
put_at v s (Err sort) = Err sort

-- What follows a line: another line with a store, a fault, or the end.
pub data Next : Type 0 where
  goes : ℕ → List ℤ → Next
  faults : FaultSort → Next
  ends : Next

abbrev pub onward : ℕ → Result (List ℤ) FaultSort → Next
onward i (Ok s) = goes (suc i) s
onward i (Err sort) = faults sort

-- Where no line is left in the budget: spent, unless the run has ended.
abbrev pub stop : ℕ → List ℤ → Next → Finished
stop count s (goes j t) = record { ending = Spent; count = count; store = s }
stop count s (faults sort) = record { ending = Spent; count = count; store = s }
stop count s ends = record { ending = Plain; count = count; store = s }

-- Where one is left: a line that faults counts, the end does not.
abbrev pub follow : (ℕ → List ℤ → Finished) → ℕ → List ℤ → Next → Finished
follow more count s (goes j t) = more j t
follow more count s (faults sort) = record { ending = Fault sort; count = suc count; store = s }
follow more count s ends = record { ending = Plain; count = count; store = s }

module _ (L : Layout) where
  abbrev pub effect : Operation → List ℤ → Result (List ℤ) FaultSort
  effect (copy i a) s = Ok (set s i (value_of a s))
  effect (minus i a) s = stored i s (minus_word (value_of a s))
  effect (operate operator i a b) s = stored i s (apply operator (value_of a s) (value_of b s))
  effect (fetch i array a) s = fetched i s (element_word (array_base L array) (array_length L array) (value_of a s))
  effect (put array a b) s = put_at (value_of b s) s (element_word (array_base L array) (array_length L array) (value_of a s))

  abbrev pub next_of : FlatLine → ℕ → List ℤ → Next
  next_of (does o) i s = onward i (effect o s)
  next_of (jump j) i s = goes j s
  next_of (jump_zero a j) i s = goes (pick (is_true (value_of a s)) (suc i) j) s
  next_of (jump_other a j) i s = goes (pick (is_true (value_of a s)) j (suc i)) s
  next_of abort i s = faults Guard

  -- What follows line i, the k-th of the lines; "just past its last line" the run ends.
  abbrev pub next_at : List FlatLine → ℕ → ℕ → List ℤ → Next
  next_at [] k i s = ends
  next_at (x ∷ xs) zero i s = next_of x i s
  next_at (x ∷ xs) (suc k) i s = next_at xs k i s

  -- The run from line i on, after `count` lines: "budget counted in lines".
  abbrev pub run_from : List FlatLine → ℕ → ℕ → ℕ → List ℤ → Finished
  run_from lines zero count i s = stop count s (next_at lines i i s)
  run_from lines (suc left) count i s = follow (λ j t. run_from lines left (suc count) j t) count s (next_at lines i i s)
