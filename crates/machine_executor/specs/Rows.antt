-- Rows: what is done at a row of a table, with the arrays at these bounds, and what the code asks for it.
use Rattle.std.specs.Prelude.{Bool, List, ℕ, ℤ}
use Rattle.words.specs.Word.{pick}
use Rattle.computation.specs.Computation.{Turn, again, Computation, ret, ◌>>=◌, loop}
use Rattle.language.specs.Trees.{Part, absent, present}
use Rattle.language.specs.Decode.{statement_at, list_at, part_at}
use Rattle.language.specs.Meaning.{Context, Signal, next, enter, evaluate, value, value_of, after_body, after_test, perform, items}
use Rattle.machine_operations.specs.Ready.{Ready}
use Rattle.machine_operations.specs.Rows.{context_at}
use Rattle.machine_flows.specs.Lists.{item_of}

module _ (C : Context) where
  -- A part of a for; an absent one has this value.
  abbrev pub value_or : ℤ → Part → Computation ℤ
  value_or v absent = ret v
  value_or v (present e) = value C e

  -- What follows a loop's body: the last part, a step; or the test of a do, which decides whether another round follows.
  abbrev pub closing : Part → Bool → Computation (Turn Signal)
  closing last decides = do
    v ← value_of C last
    pick decides (after_test (ret again) v) (ret again)

  -- One round of a loop, after the step that begins it: test, body, last part.
  abbrev pub round_of : Part → Computation Signal → Part → Bool → Computation (Turn Signal)
  round_of (present test) body last decides = do
    v ← evaluate C test
    after_test (do signal ← enter body; after_body (closing last decides) signal) v
  round_of absent body last decides = do
    signal ← body
    after_body (closing last decides) signal

-- The part at a row; the absent one has this value.
abbrev pub part_or : ℤ → List ℤ → List ℕ → ℕ → Computation ℤ
part_or v rows bounds row = value_or (context_at rows bounds) v (part_at rows row)

module _ (rows : List ℤ) (bounds : List ℕ) where
  -- The statement at a row; and what follows the entry of the row.
  abbrev pub perform_at : ℕ → Computation Signal
  perform_at row = perform (context_at rows bounds) (statement_at rows row)

  abbrev pub exec_at : ℕ → Computation Signal
  exec_at row = enter (perform_at row)

  -- The item of a list at a row.
  abbrev pub item_at : ℕ → Computation Signal
  item_at row = item_of (context_at rows bounds) rows row

  -- The list from a first item on.
  abbrev pub items_from : ℕ → Computation Signal
  items_from first = items (context_at rows bounds) (list_at rows first) next

  -- A round of a loop, and the rounds.
  abbrev pub turn_at : ℕ → ℕ → ℕ → Bool → Computation (Turn Signal)
  turn_at test body last decides = round_of (context_at rows bounds) (part_at rows test) (perform_at body) (part_at rows last) decides

  abbrev pub round_at : ℕ → ℕ → ℕ → Bool → Computation (Turn Signal)
  round_at test body last decides = enter (turn_at test body last decides)

  abbrev pub rounds_at : ℕ → ℕ → ℕ → Bool → Computation Signal
  rounds_at test body last decides = loop (turn_at test body last decides)

-- The rows of a loop's parts are in the table; an absent part is at 0.
pub record ReadyRounds (rows : List ℤ) (bounds : List ℕ) (words test body last : ℕ) : Type 0 where
  pub test_ready : Ready rows bounds words test
  pub body_ready : Ready rows bounds words body
  pub last_ready : Ready rows bounds words last
