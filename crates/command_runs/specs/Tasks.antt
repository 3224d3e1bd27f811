-- Tasks: what a run, a preview and a dispatcher's run print, by the request, the text and the words of a store file.
use Rattle.std.specs.Prelude.{Bool, List, ℕ, ℤ}
use Rattle.words.specs.Word.{pick}
use Rattle.words.specs.Layout.{layout_of, store_size, header_store, store_words, zeros}
use Rattle.words.specs.declared.Form.{Form}
use Rattle.words.specs.declared.Form.TheVariants.{Source, Kernel}
use Rattle.text_form.specs.Text.{Parsed, parsed, malformed}
use Rattle.program_runs.specs.Runs.{RunResult, run_result}
use Rattle.language_programs.specs.Program.{source_size}
use Rattle.program_previews.specs.Previews.{PreviewResult, preview_result}
use Rattle.program_dispatcher.specs.DispatcherRuns.{DispatcherResult, dispatcher_result}
use Rattle.command_lines.specs.Lines.{run_line, dispatcher_line, malformed_line}
use Rattle.command_preview_lines.specs.Changes.{preview_lines}
use Rattle.command_request.specs.StoreFile.{store_in}
use Rattle.command_request.specs.declared.request.Task.{Task}
use Rattle.command_request.specs.declared.request.Task.TheVariants as task-cases
use Rattle.command_text.specs.Texts.{text_output}
use Rattle.command_flat.specs.Lists.{list_output, list_run_line}

-- A preview is of a source program, a dispatcher's run of a kernel program; a flat list has the kernel's header.
abbrev pub form_of : Task → Form
form_of (task-cases.Run form) = form
form_of task-cases.Preview = Source
form_of task-cases.DispatcherRun = Kernel
form_of task-cases.FlatRun = Kernel

-- What is printed for the text that it is about, by what is printed for its words.
abbrev pub task_text : Task → List ℕ → (List ℤ → List ℤ → List ℕ) → List ℕ
task_text (task-cases.Run form) text = text_output form text
task_text task-cases.Preview text = text_output Source text
task_text task-cases.DispatcherRun text = text_output Kernel text
task_text task-cases.FlatRun text = list_output text

-- How many words it starts from: a dispatcher has the first S, no declared words and no temporaries.
abbrev pub start_words : Task → (header rows : List ℤ) → ℕ
start_words (task-cases.Run form) header rows = store_words form header rows
start_words task-cases.Preview header rows = store_words Source header rows
start_words task-cases.DispatcherRun header rows = store_size (layout_of Kernel header)
start_words task-cases.FlatRun header list = header_store Kernel header

abbrev pub result_line : RunResult → List ℕ
result_line result = run_line result.answer result.store

abbrev pub result_lines : (header : List ℤ) → PreviewResult → List ℕ
result_lines header result = preview_lines result.answer (source_size header) result.store result.scratch

abbrev pub shown_line : DispatcherResult → List ℕ
shown_line result = dispatcher_line result.answer result.words

-- What is printed for a header and rows: the line of the run from this store, as the maintainer or the dispatcher sees it, or the lines of
-- its preview, in a scratch of as many words as the program's store has, so that 15 does not arise.
abbrev pub task_lines : Task → ℕ → (store header rows : List ℤ) → List ℕ
task_lines (task-cases.Run form) budget store header rows = result_line (run_result form header rows budget store)
task_lines task-cases.Preview budget store header rows = result_lines header (preview_result header rows budget store (zeros (store_words Source header rows)))
task_lines task-cases.DispatcherRun budget store header rows = shown_line (dispatcher_result header rows budget store)
task_lines task-cases.FlatRun budget store header rows = list_run_line budget store header rows

unfoldable pub task_output : Task → ℕ → List ℕ → List ℤ → List ℕ
task_output task budget text store = task_text task text (task_lines task budget store)

-- "else zeros"
abbrev pub zeros_lines : Task → ℕ → (header rows : List ℤ) → List ℕ
zeros_lines task budget header rows = task_lines task budget (zeros (start_words task header rows)) header rows

unfoldable pub zeros_output : Task → ℕ → List ℕ → List ℕ
zeros_output task budget text = task_text task text (zeros_lines task budget)

-- A malformed word is told before the text is read; a wrong number of words is cause 11, in its place.
unfoldable pub stored_output : Task → ℕ → List ℕ → Parsed (List ℤ) → List ℕ
stored_output task budget text (malformed number) = malformed_line number
stored_output task budget text (parsed words) = task_output task budget text words

-- `given` says whether a store file was named.
unfoldable pub started_output : Task → ℕ → (text : List ℕ) → (given : Bool) → (stored : List ℕ) → List ℕ
started_output task budget text given stored = pick given (stored_output task budget text (store_in stored)) (zeros_output task budget text)
