-- Answers: the papers' numbers and words for each case of an enum.
use Rattle.std.specs.Prelude.{List, [], ◌∷◌, ℕ, eqb}
use Rattle.words.specs.Word.{pick}
use Rattle.words.specs.declared.FaultSort.{FaultSort}
use Rattle.words.specs.declared.FaultSort.TheVariants.{Overflow, ZeroDivisor, Index, Guard}
use Rattle.words.specs.declared.Ending.{Ending}
use Rattle.words.specs.declared.Ending.TheVariants.{Plain, Spent, Fault}

-- "A run ends plainly, spent, or with a fault", of one of four sorts. Each ending has a number, in the answers of the library and of
-- the machine, and a word: "Output: form, ending (ended, spent, overflow, zero, index)", "a fourth fault, printed `guard`", as bytes.
pub record Told : Type 0 where
  pub number : ℕ
  pub name : List ℕ

abbrev pub fault_told : FaultSort → Told
fault_told Overflow = record { number = 2; name = 111 ∷ 118 ∷ 101 ∷ 114 ∷ 102 ∷ 108 ∷ 111 ∷ 119 ∷ [] }
fault_told ZeroDivisor = record { number = 3; name = 122 ∷ 101 ∷ 114 ∷ 111 ∷ [] }
fault_told Index = record { number = 4; name = 105 ∷ 110 ∷ 100 ∷ 101 ∷ 120 ∷ [] }
fault_told Guard = record { number = 5; name = 103 ∷ 117 ∷ 97 ∷ 114 ∷ 100 ∷ [] }

abbrev pub ending_told : Ending → Told
ending_told Plain = record { number = 0; name = 101 ∷ 110 ∷ 100 ∷ 101 ∷ 100 ∷ [] }
ending_told Spent = record { number = 1; name = 115 ∷ 112 ∷ 101 ∷ 110 ∷ 116 ∷ [] }
ending_told (Fault sort) = fault_told sort

abbrev pub fault_number : FaultSort → ℕ
fault_number sort = (fault_told sort).number

abbrev pub fault_name : FaultSort → List ℕ
fault_name sort = (fault_told sort).name

abbrev pub ending_number : Ending → ℕ
ending_number ending = (ending_told ending).number

abbrev pub ending_name : Ending → List ℕ
ending_name ending = (ending_told ending).name

-- The fault with a number; Index where it is no other's.
abbrev pub fault_among : List FaultSort → ℕ → FaultSort
fault_among [] number = Index
fault_among (sort ∷ sorts) number = pick (eqb number (fault_number sort)) sort (fault_among sorts number)

abbrev pub other_faults : List FaultSort
other_faults = Overflow ∷ ZeroDivisor ∷ Guard ∷ []

unfoldable pub fault_numbered : ℕ → FaultSort
fault_numbered number = fault_among other_faults number
