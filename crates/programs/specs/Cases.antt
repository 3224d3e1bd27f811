-- Cases: where a case stands in the input.
use Rattle.std.specs.Prelude.{◌≡◌, List, ℕ, ◌≤◌, ◌<◌, length, None, Option, Some}
use Rattle.std.proofs.Common.{subst}
use Rattle.programs.specs.declared.stream.Case.{Case}

-- The parts of a case follow each other within the input: its start words, the end of its line, the end of its text.
abbrev pub Inside : Option Case → List ℕ → Type 0
Inside (Some case) input = (case.words ≤ case.line) × ((case.line < case.end) × (case.end ≤ length input))
Inside None input = Unit {0}

-- of a case that was found
pub parts : (input : List ℕ) {found : (Option Case)} {case : Case} → Inside found input → found ≡ Some case → Inside (Some case) input
parts input inside e = subst (λ (found : Option Case). Inside found input) e inside
