-- Programs: the table that a program's rows stand for, and the run of a program: "How a run goes", with Change 11's names inside a block.
use Rattle.std.specs.Prelude.{List, ℕ, ℤ}
use Rattle.words.specs.Layout.{layout_of, store_size}
use Rattle.words.specs.declared.Form.{Form}
use Rattle.words.specs.declared.Form.TheVariants.{Source, Kernel}
use Rattle.computation.specs.Computation.{Computation}
use Rattle.computation.specs.Run.{Result, Limit}
use Rattle.language.specs.Meaning.{Signal}
use Rattle.language.specs.Program.{Finished, table_program, run_table_under, run_table}
use Rattle.names.specs.Names.{resolved}

-- S, the words of a source program's variables and arrays; behind them lie its declared words.
abbrev pub source_size : List ℤ → ℕ
source_size header = store_size (layout_of Source header)

-- The table in which every name stands for its store word. A source program's names mean what they mean at their rows; a kernel names
-- store words.
abbrev pub resolved_rows : Form → List ℤ → List ℤ → List ℤ
resolved_rows Source header rows = resolved (source_size header) rows
resolved_rows Kernel header rows = rows

unfoldable pub program_of : Form → List ℤ → List ℤ → Computation Signal
program_of form header rows = table_program form header (resolved_rows form header rows)

-- The run of a program under a limit, from a store.
unfoldable pub run_under : Limit → Form → List ℤ → List ℤ → List ℤ → Result Signal
run_under limit form header rows store = run_table_under limit form header (resolved_rows form header rows) store

-- The run with a budget, any natural number.
unfoldable pub run_program : Form → List ℤ → List ℤ → ℕ → List ℤ → Finished
run_program form header rows budget store = run_table form header (resolved_rows form header rows) budget store
