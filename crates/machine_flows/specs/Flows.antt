-- Flows: what a statement's answer says of a run, in the words of `spend`. An answer is one number, so that it comes back in a
-- register: a word says how the statement ended, and the numbers behind the words say why the run stopped, as an evaluation says it, or, from 2^33
-- on both sides, the value that a return gives.
use Rattle.std.specs.Prelude.{◌≡◌, Bool, List, ℕ, ℤ, pos, negsuc, ◌-ℤ◌, set, None, Option, Some}
use Rattle.words.specs.Word.{same_word, natural, pick}
use Rattle.arithmetic.specs.Arithmetic.{is_true}
use Rattle.computation.specs.Computation.{Turn, again, leave, ret}
use Rattle.words.specs.declared.FaultSort.TheVariants.{Guard}
use Rattle.computation.specs.Run.{fault}
use Rattle.computation.specs.Remaining.{Rest, gives, halts, onward, spend}
use Rattle.language.specs.Trees.{label}
use Rattle.language.specs.Meaning.{Signal, next, breaking, continuing, seeking, returning, after_switch, after_body}
use Rattle.language.specs.Functions.{returned}
use Rattle.machine_operations.specs.Answers.{stop_of, is_return, operand_of, answered}
use Rattle.machine_flows.specs.declared.Flow.{Flow}
use Rattle.machine_flows.specs.declared.Flow.TheVariants.{Next, Break, Continue, Goto, Return, Halted}

-- The flow that a word says: −1 next, −2 break, −3 continue, else the search for the label that it names. (A negative label, which
-- names nothing, is −4.)
unfoldable pub passing_of : ℤ → Flow
passing_of z = pick (same_word z (negsuc 0)) Next (pick (same_word z (negsuc 1)) Break (pick (same_word z (negsuc 2)) Continue (Goto (natural z))))

abbrev pub flow_by : Option ℤ → Flow
flow_by (Some z) = passing_of z
flow_by None = Halted

-- The flow that an answer says.
unfoldable pub flow_of : ℤ → Flow
flow_of answer = pick (is_return answer) Return (flow_by (operand_of answer))

-- The value that a return's answer gives.
unfoldable pub return_value : ℤ → ℤ
return_value answer = answer -ℤ pos 8589934592

abbrev pub flow_rest : Flow → ℤ → ℕ → List ℤ → Rest Signal
flow_rest Next answer n s = gives next n s
flow_rest Break answer n s = gives breaking n s
flow_rest Continue answer n s = gives continuing n s
flow_rest (Goto l) answer n s = gives (seeking (label l)) n s
flow_rest Return answer n s = gives (returning (return_value answer)) n s
flow_rest Halted answer n s = halts (stop_of answer) n s

-- What a statement's answer says, with the steps left and the store.
abbrev pub ran : ℤ → ℕ → List ℤ → Rest Signal
ran answer n s = flow_rest (flow_of answer) answer n s

-- A round of a loop says the same of the loop, but that a continue goes round again.
abbrev pub turn_by : Signal → Turn Signal
turn_by next = leave next
turn_by breaking = leave breaking
turn_by continuing = again
turn_by (seeking m) = leave (seeking m)
turn_by (returning v) = leave (returning v)

-- What a round's answer says.
abbrev pub turned : ℤ → ℕ → List ℤ → Rest (Turn Signal)
turned answer n s = onward (ran answer n s) (λ signal n s. gives (turn_by signal) n s)

-- r is the answer of an expression statement whose expression has `answer`.
abbrev pub EndsExpression : ℤ → ℤ → Type 0
EndsExpression answer r = (n : ℕ) (s : List ℤ) → ran r n s ≡ onward (answered answer n s) (λ _ n s. gives next n s)

-- r is the answer of a declaration whose initial expression has `answer`, and t the store: the value is in the word of the new object.
abbrev pub EndsDeclaration : ℕ → ℤ → List ℤ → ℤ → List ℤ → Type 0
EndsDeclaration word answer s r t = (n : ℕ) → ran r n t ≡ onward (answered answer n s) (λ v n s. gives next n (set s word v))

-- r is the answer of a return whose value has `answer`.
abbrev pub EndsReturn : ℤ → ℤ → Type 0
EndsReturn answer r = (n : ℕ) (s : List ℤ) → ran r n s ≡ onward (answered answer n s) (λ v n s. gives (returning v) n s)

-- r is the answer of a call whose block ends with `answer`.
abbrev pub EndsCall : ℤ → ℤ → Type 0
EndsCall answer r = (n : ℕ) (s : List ℤ) → answered r n s ≡ onward (ran answer n s) (λ signal n s. gives (returned signal) n s)

-- r is the answer of a guarded statement none of whose guards is true: a guarded do, which repeats, or a guarded if.
abbrev pub EndsUnguarded : Bool → ℤ → Type 0
EndsUnguarded repeats r = (n : ℕ) (s : List ℤ) → ran r n s ≡ pick repeats (gives next n s) (halts (fault Guard) n s)

-- r is the answer of a switch whose items end with `answer`.
abbrev pub EndsSwitch : ℤ → ℤ → Type 0
EndsSwitch answer r = (n : ℕ) (s : List ℤ) → ran r n s ≡ onward (ran answer n s) (λ signal n s. gives (after_switch signal) n s)

-- r is the answer of a round whose body ends with `answer`, as far as the body.
abbrev pub EndsBody : ℤ → ℤ → Type 0
EndsBody answer r = (n : ℕ) (s : List ℤ) → turned r n s ≡ onward (ran answer n s) (λ signal n s. spend (after_body (ret again) signal) n s)

-- r is the answer of a round whose last part has this value, and decides, in a do, whether another round follows.
abbrev pub EndsRound : Bool → ℤ → ℤ → Type 0
EndsRound decides value r = (n : ℕ) (s : List ℤ) → turned r n s ≡ pick decides (pick (is_true value) (gives again n s) (gives (leave next) n s)) (gives again n s)
