-- `fault_numbered`: each arm of the match is a fault of the list, and what is left is the number of none of them.
use mathlib.Core.Path.{◌≡◌, refl, sym, ap}
use mathlib.Core.List.{List, [], ◌∷◌}
use Prim.Native.Nat.{ℕ}
use borrow.Author.Tests.{ne_eqb}
use Rattle.words.specs.Answers.{fault_number, fault_among, other_faults, fault_numbered}
use Rattle.words.specs.declared.FaultSort.{FaultSort}
use Rattle.words.specs.declared.FaultSort.TheVariants.{Index}
use Rattle.words_endings.proofs.fault_numbered.Goals as goal

-- an arm: the fault with the arm's number
arm : {number : ℕ} (key : ℕ) → number ≡ key → fault_numbered key ≡ fault_numbered number
arm key e = ap fault_numbered (sym e)

-- what the match leaves: the number is that of no fault of the list
abbrev NoneOf : List FaultSort → ℕ → Type 0 → Type 0
NoneOf [] number known = known
NoneOf (sort ∷ sorts) number known = NoneOf sorts number (known × (number ≡ fault_number sort → ⊥))

none_of : (sorts : List FaultSort) (number : ℕ) (known : Type 0) → NoneOf sorts number known → (Index ≡ fault_among sorts number) × known
none_of [] number known r = (refl, r)
none_of (sort ∷ sorts) number known r =
    let later = none_of sorts number (known × (number ≡ fault_number sort → ⊥)) r in
    (rw (ne_eqb _ _ later.1.1) later.0, later.1.0)

rest : {number : ℕ} (known : Type 0) → NoneOf other_faults number known → Index ≡ fault_numbered number
unfolding fault_numbered
rest known r = (none_of other_faults _ known r).0

pub returns-in-2 : goal.returns-in-2
unfolding fault_numbered
returns-in-2 c = arm 2 c.in-2.is

pub returns-in-3 : goal.returns-in-3
unfolding fault_numbered
returns-in-3 c = arm 3 c.in-3.is

pub returns-in-5 : goal.returns-in-5
unfolding fault_numbered
returns-in-5 c = arm 5 c.in-5.is

pub returns-in_default : goal.returns-in_default
unfolding fault_numbered
returns-in_default c = rest _ c.in_default.in_default-own.rest
