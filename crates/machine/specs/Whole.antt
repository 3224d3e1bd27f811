-- Whole: the run of a program: what it asks, and what its answer says.
use Rattle.std.specs.Prelude.{◌≡◌, true, List, map, ◌++◌, ℕ, ◌+◌, ◌≤◌, ℤ, length, None, Option, Some}
use Rattle.words.specs.Word.{natural}
use Rattle.words.specs.Table.{row_count}
use Rattle.words.specs.Layout.{layout_of, sum, store_words, header_fits}
use Rattle.words.specs.declared.Form.{Form}
use Rattle.words.specs.declared.Ending.{Ending}
use Rattle.words.specs.declared.Ending.TheVariants.{Plain, Spent, Fault}
use Rattle.words.specs.declared.RunAnswer.{RunAnswer}
use Rattle.computation.specs.Computation.{Computation}
use Rattle.computation.specs.Run.{Stop, spent, fault}
use Rattle.language.specs.Decode.{statement_at}
use Rattle.language.specs.Meaning.{Signal, exec}
use Rattle.language.specs.Functions.{function_count}
use Rattle.language.specs.Program.{contents, Finished}
use Rattle.language.specs.Sound.{Sound}
use Rattle.machine_operations.specs.Answers.{stop_of, operand_of}
use Rattle.machine_operations.specs.Bounds.{bounds_from, layout_from, layout_in}
use Rattle.machine_operations.specs.Functions.{SoundCalls}
use Rattle.machine_operations.specs.Ready.{Setting}
use Rattle.machine_operations.specs.Rows.{context_in}
use Rattle.machine_flows.specs.FunctionRows.{InOrder, RowsOfFunctions}

-- The ending of a run that stopped, and the ending that an answer says.
abbrev pub ending_of_stop : Stop → Ending
ending_of_stop spent = Spent
ending_of_stop (fault sort) = Fault sort

abbrev pub ending_by : Option ℤ → ℤ → Ending
ending_by (Some v) answer = Plain
ending_by None answer = ending_of_stop (stop_of answer)

unfoldable pub ending_of_answer : ℤ → Ending
ending_of_answer answer = ending_by (operand_of answer) answer

-- What a run's answer says, with the store.
abbrev pub finished_of : RunAnswer → List ℤ → Finished
finished_of answer store = record { ending = answer.ending; count = answer.count; store = store }

-- The statement at row 0, with arrays of these lengths behind so many variables.
abbrev pub whole_at : List ℤ → ℕ → List ℤ → Computation Signal
whole_at lengths variables rows = exec (context_in (layout_from (bounds_from variables (map natural lengths))) rows) (statement_at rows 0)

-- There is room for the bounds and the rows of the functions; and with both the table is ready for a run.
pub record Startable (lengths : List ℤ) (variables room : ℕ) (rows : List ℤ) (words : ℕ) : Type 0 where
  pub room_is : room ≡ length lengths + 1 + function_count (contents rows)
  pub few_arrays : length lengths ≤ 32
  pub small : variables + sum (map natural lengths) ≤ 8192
  pub order : InOrder rows
  pub setting : (functions : List ℕ) → length functions ≡ function_count (contents rows) → RowsOfFunctions rows functions
      → Setting rows (bounds_from variables (map natural lengths) ++ functions) words
  pub layout_is : (functions : List ℕ) → length functions ≡ function_count (contents rows)
      → layout_in rows (bounds_from variables (map natural lengths) ++ functions) ≡ layout_from (bounds_from variables (map natural lengths))

-- What a run asks: both checks give it.
pub record Runnable (form : Form) (header rows store : List ℤ) : Type 0 where
  pub fits : header_fits form header ≡ true
  pub sound : Sound rows (layout_of form header) (length store)
  pub calls : SoundCalls rows
  pub words : length store ≡ store_words form header rows
  pub few_rows : row_count rows ≤ 40980

-- And a room of so many words has places for the bounds and the rows of so many functions.
pub record RoomFor (form : Form) (header rows store : List ℤ) (functions room : ℕ) : Type 0 where
  pub runs : Runnable form header rows store
  pub counted : functions ≡ function_count (contents rows)
  pub enough : 33 + functions ≤ room
