-- Programs: the items of a table of rows, and the run of a table in which every name stands for its store word.
use Rattle.std.specs.Prelude.{List, ℕ, ℤ}
use Rattle.words.specs.Table.{number_at}
use Rattle.words.specs.Layout.{layout_of}
use Rattle.words.specs.declared.Form.{Form}
use Rattle.words.specs.declared.Ending.{Ending}
use Rattle.computation.specs.Computation.{Computation}
use Rattle.computation.specs.Run.{Result, Limit, steps, run, start, final, ending_of}
use Rattle.language.specs.Trees.{Items}
use Rattle.language.specs.Decode.{decode, list_at}
use Rattle.language.specs.Meaning.{Signal, exec}
use Rattle.language.specs.Functions.{context_of}

-- A program is its items: "Row 0 is a block", and its list begins at field a.
unfoldable pub contents : List ℤ → Items
contents rows = list_at rows (number_at rows 0 1)

-- How a run ended, the steps that it made, and the store that it left.
pub record Finished : Type 0 where
  pub ending : Ending
  pub count : ℕ
  pub store : List ℤ

abbrev pub finished : {A : Type 0} → Result A → Finished
finished r = record { ending = ending_of r; count = (final r).count; store = (final r).store }

-- What a table does: a number of a variable is its store word, and a call's is one of the functions that its items define.
unfoldable pub table_program : Form → List ℤ → List ℤ → Computation Signal
table_program form header rows = exec (context_of (layout_of form header) (contents rows)) (decode rows)

-- The run of a table under a limit, from a store.
unfoldable pub run_table_under : Limit → Form → List ℤ → List ℤ → List ℤ → Result Signal
run_table_under limit form header rows store = run limit (table_program form header rows) (start store)

-- The run with a budget, any natural number.
unfoldable pub run_table : Form → List ℤ → List ℤ → ℕ → List ℤ → Finished
run_table form header rows budget store = finished (run_table_under (steps budget) form header rows store)
