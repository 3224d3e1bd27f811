-- Meaning: what trees do, one clause a kind, under the sentence of document 01 ("How a run goes"), or of document 02, that it states; in brackets the
-- rules of Preprint 97. "One step is counted each time a row is entered, places, labels and the mark a switch goes to included".
use Rattle.std.specs.Prelude.{Bool, true, false, List, [], ◌∷◌, ℕ, ℤ, pos}
use Rattle.words.specs.Word.{pick}
use Rattle.words.specs.Layout.{Layout, array_base, array_length}
use Rattle.arithmetic.specs.Arithmetic.{is_true, truth, logical_not, apply, minus as minus_word, element as element_word}
use Rattle.words.specs.declared.Operator.{Operator}
use Rattle.words.specs.declared.FaultSort.TheVariants.{Guard}
use Rattle.computation.specs.Computation.{Turn, again, leave, Computation, ret, ◌>>=◌, ◌>>◌, step, load, save, fail, loop, settle}
use Rattle.language.specs.Trees.{Expression, constant, read, minus, not, binary, and, or, comma, conditional, assign, compound, prefix, postfix, call, Place, variable, element, Arguments, no_more, ◌also◌, Part, absent, present, Mark, case, default, label, Statement, empty, express, block, if_then, if_else, while, do_while, for, switch, break, continue, goto, guarded_if, guarded_do, abort, declare, give_back, Arms, no_arm, arm, Items, none, ◌then◌, ◌here◌, define, same_mark, has}

-- Entering a row is one step; what follows is m.
abbrev pub enter : {A : Type 0} → Computation A → Computation A
enter m = step >> m

-- A value is true unless it is 0.
abbrev pub if_true : {A : Type 0} → ℤ → Computation A → Computation A → Computation A
if_true v on_true on_false = pick (is_true v) on_true on_false

-- Read a word, operate, store: the old value and the new one.
abbrev pub update : Operator → ℕ → ℤ → (ℤ → ℤ → ℤ) → Computation ℤ
update operator position right result = do
  old ← load position
  new ← settle (apply operator old right)
  save position new
  ret (result old new)

abbrev pub old_value : ℤ → ℤ → ℤ
old_value old new = old

abbrev pub new_value : ℤ → ℤ → ℤ
new_value old new = new

-- What a tree is read in: where the arrays lie, and what a call does with the number of its function and the values of its arguments.
pub record Context : Type 1 where
  pub layout : Layout
  pub calling : ℕ → List ℤ → Computation ℤ

module _ (C : Context) where
  unfoldable mutual
    -- An expression, after the entry of its row.
    pub evaluate : Expression → Computation ℤ
    -- [2]
    evaluate (constant v) = ret v
    -- [3, 5] a place's own row is the one entered
    evaluate (read p) = do
      position ← locate p
      load position
    -- [10] "Faults: overflow (also minus of −2147483648 ..)"
    evaluate (minus e) = do
      v ← enter (evaluate e)
      settle (minus_word v)
    -- [10] "Not gives 0 or 1."
    evaluate (not e) = do
      v ← enter (evaluate e)
      ret (logical_not v)
    -- [9] "Binary kinds 6 to 16: right operand, then left, then the operation."
    evaluate (binary operator a b) = do
      right ← enter (evaluate b)
      left ← enter (evaluate a)
      settle (apply operator left right)
    -- [13, 15, 17, 18] "And, or: left first; the right only where needed; the result is 0 or 1."
    evaluate (and a b) = do
      left ← enter (evaluate a)
      if_true left (do right ← enter (evaluate b); ret (truth right)) (ret (pos 0))
    -- [14, 16, 17, 18]
    evaluate (or a b) = do
      left ← enter (evaluate a)
      if_true left (ret (pos 1)) (do right ← enter (evaluate b); ret (truth right))
    -- [12] "Comma: left, then right; the result is the right's."
    evaluate (comma a b) = do
      enter (evaluate a)
      enter (evaluate b)
    -- [19, 20] "Conditional: the test, then one branch."
    evaluate (conditional c a b) = do
      test ← enter (evaluate c)
      if_true test (enter (evaluate a)) (enter (evaluate b))
    -- [22] "Assign: value, then the place's index, then the bounds test, then the store. The result is the value stored."
    evaluate (assign p e) = do
      v ← enter (evaluate e)
      position ← enter (locate p)
      save position v
      ret v
    -- [21] "Compound: value, index, bounds test, read, operate, store."
    evaluate (compound operator p e) = do
      right ← enter (evaluate e)
      position ← enter (locate p)
      update operator position right new_value
    -- [23] "++e is e += 1."
    evaluate (prefix operator p) = do
      position ← enter (locate p)
      update operator position (pos 1) new_value
    -- [24] "e++ gives the old value; the index is worked out once."
    evaluate (postfix operator p) = do
      position ← enter (locate p)
      update operator position (pos 1) old_value
    -- "Kind 31, an expression, calls". "Arguments are evaluated from the last to the first, all before any parameter is stored".
    evaluate (call f arguments) = do
      values ← given arguments
      C.calling f values

    -- The store position of a place, after the entry of its row. [5] The index, then the bounds test.
    pub locate : Place → Computation ℕ
    locate (variable i) = ret i
    locate (element array e) = do
      index ← enter (evaluate e)
      settle (element_word (array_base C.layout array) (array_length C.layout array) index)

    -- The values of the arguments from one on: of each its row is entered, and then its expression's.
    pub given : Arguments → Computation (List ℤ)
    given no_more = ret []
    given (e also arguments) = do
      behind ← given arguments
      v ← enter (enter (evaluate e))
      ret (v ∷ behind)

  abbrev pub value : Expression → Computation ℤ
  value e = enter (evaluate e)

  -- A part of a for; an absent one does nothing. Of a return: "returns a, or 0 where a is 0".
  abbrev pub value_of : Part → Computation ℤ
  value_of absent = ret (pos 0)
  value_of (present e) = value e

-- How a statement that was not stopped ended: the next item follows; or a break [65], a continue [66], the search for a mark [64] or a
-- return is under way, and items are passed over.
pub data Signal : Type 0 where
  next breaking continuing : Signal
  seeking : Mark → Signal
  returning : ℤ → Signal

-- Whether a run with this signal enters the statement that follows, and the mark m. [56 to 63, 69]
abbrev pub enters_statement : Signal → Bool
enters_statement next = true
enters_statement breaking = false
enters_statement continuing = false
enters_statement (seeking m) = false
enters_statement (returning v) = false

abbrev pub enters_mark : Signal → Mark → Bool
enters_mark next m = true
enters_mark breaking m = false
enters_mark continuing m = false
enters_mark (seeking n) m = same_mark n m
enters_mark (returning v) m = false

-- "Switch: go to the case of equal value, else to default, else past the switch": a switch in which no mark is gone to ends like one that
-- a break leaves.
abbrev pub target : ℤ → Items → Signal
target v is = pick (has (case v) is) (seeking (case v)) (pick (has default is) (seeking default) breaking)

-- A switch ends a break. [77 to 79]
abbrev pub after_switch : Signal → Signal
after_switch next = next
after_switch breaking = next
after_switch continuing = continuing
after_switch (seeking m) = seeking m
after_switch (returning v) = returning v

-- What follows a loop's body: the rest of the round, or the loop is left. [80 to 85]
abbrev pub after_body : Computation (Turn Signal) → Signal → Computation (Turn Signal)
after_body rest next = rest
after_body rest continuing = rest
after_body rest breaking = ret (leave next)
after_body rest (seeking m) = ret (leave (seeking m))
after_body rest (returning v) = ret (leave (returning v))

-- What the arms of a guarded statement come to: no guard was true, or a block ran and ended with this signal.
pub data Choice : Type 0 where
  none_true : Choice
  ran : Signal → Choice

-- "Guarded if with no true guard gives a fourth fault".
abbrev pub after_choice : Choice → Computation Signal
after_choice none_true = fail Guard
after_choice (ran signal) = ret signal

-- "Guarded do then begins again at its arms, and ends when no guard is true." "Neither form counts as a loop for break and continue."
abbrev pub after_arms : Choice → Turn Signal
after_arms none_true = leave next
after_arms (ran next) = again
after_arms (ran breaking) = leave breaking
after_arms (ran continuing) = leave continuing
after_arms (ran (seeking m)) = leave (seeking m)
after_arms (ran (returning v)) = leave (returning v)

-- What follows the entry of an arm's row: its guard, then its block or the arms behind it.
abbrev pub try_arm : Computation ℤ → Computation Signal → Computation Choice → Computation Choice
try_arm guard body rest = do
  v ← guard
  if_true v (do signal ← body; ret (ran signal)) rest

-- What follows a loop's test.
abbrev pub after_test : Computation (Turn Signal) → ℤ → Computation (Turn Signal)
after_test rest v = if_true v rest (ret (leave next))

module _ (C : Context) where
  -- The rounds of while and for: test, body, step. Each begins by entering a row, the test's or, without a test, the body's; the
  -- loop counts that step. "An absent test is true; continue goes to the step." `body` is the body after the entry of its row.
  abbrev pub rounds : Part → Part → Computation Signal → Computation Signal
  rounds (present test) action body = loop do
    v ← evaluate C test
    after_test (do signal ← enter body; after_body (do value_of C action; ret again) signal) v
  rounds absent action body = loop do
    signal ← body
    after_body (do value_of C action; ret again) signal

  unfoldable mutual
    -- A statement, after the entry of its row.
    pub perform : Statement → Computation Signal
    -- [53]
    perform empty = ret next
    -- [54, 55]
    perform (express e) = do
      value C e
      ret next
    -- [70, 71]
    perform (block is) = items is next
    -- [73 to 76]
    perform (if_then e on_true) = do
      test ← value C e
      if_true test (enter (perform on_true)) (ret next)
    perform (if_else e on_true on_false) = do
      test ← value C e
      if_true test (enter (perform on_true)) (enter (perform on_false))
    -- [86, 89] "A loop's own row is entered once, its test, body and step rows on each round."
    perform (while e body) = rounds (present e) absent (perform body)
    -- [88, 90] "Continue in while and do goes to the test."
    perform (do_while body e) = loop do
      signal ← perform body
      after_body (do v ← value C e; after_test (ret again) v) signal
    -- [87, 91]
    perform (for first test action body) = do
      value_of C first
      rounds test action (perform body)
    -- [77 to 79] "then fall through until break. Default may stand anywhere. Items before the first mark are passed over."
    perform (switch e is) = do
      v ← value C e
      signal ← items is (target v is)
      ret (after_switch signal)
    perform break = ret breaking
    perform continue = ret continuing
    -- "Goto: the run goes on at its label, in the first list outward that has it; items between are passed over."
    perform (goto l) = ret (seeking (label l))
    -- "Arms are entered from the first until a guard is true; its block runs."
    perform (guarded_if arms) = do
      choice ← choose arms
      after_choice choice
    perform (guarded_do arms) = choice_rounds arms
    -- "As does the kernel's new kind 57 (abort, no fields)."
    perform abort = fail Guard
    -- Kind 58: "b initial expression". Its value goes to the new object's word; no row stands for that word, so the store is no step.
    perform (declare word e) = do
      v ← value C e
      save word v
      ret next
    -- "Kind 60 returns a, or 0 where a is 0".
    perform (give_back part) = do
      v ← value_of C part
      ret (returning v)

    -- The arms from one on. The guards behind a true one are not worked out; what false guards stored stays.
    pub choose : Arms → Computation Choice
    choose no_arm = ret none_true
    choose (arm guard body arms) = enter (try_arm (value C guard) (enter (perform body)) (choose arms))

    -- The rounds of a guarded do: its own row is entered once. A round begins by entering the first arm's row; the loop counts that step.
    pub choice_rounds : Arms → Computation Signal
    choice_rounds no_arm = ret next
    choice_rounds (arm guard body arms) = loop do
      choice ← try_arm (value C guard) (enter (perform body)) (choose arms)
      ret (after_arms choice)

    -- The rest of a list, after an item that ended with this signal. "Its search and rows passed over count nothing."
    pub items : Items → Signal → Computation Signal
    items none signal = ret signal
    items (s then is) signal = do
      after ← pick (enters_statement signal) (enter (perform s)) (ret signal)
      items is after
    items (m here is) signal = do
      after ← pick (enters_mark signal m) (enter (ret next)) (ret signal)
      items is after
    -- "The run passes over them uncounted".
    items (define f words body is) signal = items is signal

  abbrev pub exec : Statement → Computation Signal
  exec s = enter (perform s)
