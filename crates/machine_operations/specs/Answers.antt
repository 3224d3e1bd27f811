-- Answers: what the code's answers say of a run, in the words of `spend`. An answer is one number, so that it comes back in a
-- register: a word is a value, and the numbers behind the words say why the run stopped.
use Rattle.std.specs.Prelude.{◌≡◌, Bool, false, List, ℕ, ◌+◌, ◌-◌, eqb, ℤ, pos, negsuc, get_or, None, Option, Some, Result}
use Rattle.words.specs.declared.FaultSort.{FaultSort}
use Rattle.std.specs.Int.Signed.{lt_z}
use Rattle.words.specs.Word.{is_word, natural, pick}
use Rattle.arithmetic.specs.Arithmetic.{logical_not, minus}
use Rattle.words.specs.Answers.{fault_number, fault_numbered, ending_number}
use Rattle.words.specs.declared.Ending.TheVariants.{Spent}
use Rattle.computation.specs.Computation.{settle}
use Rattle.computation.specs.Run.{Stop, spent, fault}
use Rattle.computation.specs.Remaining.{Rest, gives, halts, onward, spend}

-- The answer of a run that stopped: the ending's number, counted from the greatest word.
unfoldable pub stop_number : Stop → ℤ
stop_number spent = pos (2147483647 + ending_number Spent)
stop_number (fault sort) = pos (2147483647 + fault_number sort)

-- How far an answer lies behind the words, and why the run stopped that gave it.
unfoldable pub beyond : ℤ → ℕ
beyond (pos n) = n - 2147483647
beyond (negsuc n) = 0

unfoldable pub stop_of : ℤ → Stop
stop_of answer = pick (eqb (beyond answer) (ending_number Spent)) spent (fault (fault_numbered (beyond answer)))

-- Whether an answer is a return's: its value, counted from 2^33.
unfoldable pub is_return : ℤ → Bool
is_return answer = pick (lt_z answer (pos 6442450944)) false (lt_z answer (pos 10737418240))

-- The operand that an answer gives. A return's answer is no evaluation's, and no stop; read as an operand it would be 0.
unfoldable pub operand_of : ℤ → Option ℤ
operand_of answer = pick (is_word answer) (Some answer) (pick (is_return answer) (Some (pos 0)) None)

abbrev pub operand_rest : Option ℤ → ℤ → ℕ → List ℤ → Rest ℤ
operand_rest (Some v) answer n s = gives v n s
operand_rest None answer n s = halts (stop_of answer) n s

-- What an evaluation's answer says, with the steps left and the store.
abbrev pub answered : ℤ → ℕ → List ℤ → Rest ℤ
answered answer n s = operand_rest (operand_of answer) answer n s

-- The position that an operand names, and what a place's answer says.
abbrev pub position_of : Option ℤ → Option ℕ
position_of (Some word) = Some (natural word)
position_of None = None

abbrev pub position_rest : Option ℕ → ℤ → ℕ → List ℤ → Rest ℕ
position_rest (Some i) answer n s = gives i n s
position_rest None answer n s = halts (stop_of answer) n s

abbrev pub placed : ℤ → ℕ → List ℤ → Rest ℕ
placed answer n s = position_rest (position_of (operand_of answer)) answer n s

-- The answer is an operation's value, or its fault.
abbrev pub Settles : ℤ → Result ℤ FaultSort → Type 0
Settles answer outcome = (n : ℕ) (s : List ℤ) → answered answer n s ≡ spend (settle outcome) n s

-- The answer is the bounds test's position, or its fault.
abbrev pub Places : ℤ → Result ℕ FaultSort → Type 0
Places answer outcome = (n : ℕ) (s : List ℤ) → placed answer n s ≡ spend (settle outcome) n s

-- The answer is the word at the position that a place's answer gives, or its stop.
abbrev pub Fetches : ℤ → List ℤ → ℤ → Type 0
Fetches place s answer = (n : ℕ) → answered answer n s ≡ onward (placed place n s) (λ i n s. gives (get_or s i (pos 0)) n s)

-- The answer is minus the operand that an answer gives, or with `ofTruth` its logical not, or its stop.
abbrev pub Negates : Bool → ℤ → ℤ → Type 0
Negates ofTruth operand answer =
    (n : ℕ) (s : List ℤ) → answered answer n s ≡ onward (answered operand n s) (λ v n s. pick ofTruth (gives (logical_not v) n s) (spend (settle (minus v)) n s))
