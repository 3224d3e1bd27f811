-- Requests: what the arguments ask for.
use Rattle.std.specs.Prelude.{Bool, true, false, ◌&&◌, List, ℕ, leb, eqb, bytes_eq, None, Option, Some}
use Rattle.words.specs.Word.{pick}
use Rattle.words.specs.declared.Form.TheVariants.{Source, Kernel}
use Rattle.text_numbers.specs.Number.{natural_of}
use Rattle.text_numbers.specs.Reader.{at_most}
use Rattle.command_request.specs.Ascii.{ascii}
use Rattle.command_request.specs.declared.request.Task.{Task}
use Rattle.command_request.specs.declared.request.Task.TheVariants.{Run, Preview, DispatcherRun, FlatRun}
use Rattle.command_request.specs.declared.request.Question.TheVariants as question-cases
use Rattle.command_request.specs.declared.request.Sheet.TheVariants as sheet-cases
use Rattle.command_request.specs.declared.request.Verb.{Verb}
use Rattle.command_request.specs.declared.request.Verb.TheVariants as verb-cases
use Rattle.command_request.specs.declared.request.Request.{Request}
use Rattle.command_request.specs.declared.request.Request.TheVariants.{Ask, Translate, Start, Join, WrongArguments, WrongBudget}

-- The first argument says what to do with a source text, with a kernel text, or with the text of a flat list.
unfoldable pub verb_of : List ℕ → Verb
verb_of name =
    pick (bytes_eq name (ascii "check")) (verb-cases.Ask (question-cases.Check Source))
    (pick (bytes_eq name (ascii "run")) (verb-cases.Start (Run Source))
    (pick (bytes_eq name (ascii "preview")) (verb-cases.Start Preview)
    (pick (bytes_eq name (ascii "translate")) (verb-cases.Translate sheet-cases.Text)
    (pick (bytes_eq name (ascii "translate-page")) (verb-cases.Translate sheet-cases.Page)
    (pick (bytes_eq name (ascii "writes")) (verb-cases.Ask question-cases.Writes)
    (pick (bytes_eq name (ascii "join")) verb-cases.Join
    (pick (bytes_eq name (ascii "kernel-check")) (verb-cases.Ask (question-cases.Check Kernel))
    (pick (bytes_eq name (ascii "kernel-run")) (verb-cases.Start (Run Kernel))
    (pick (bytes_eq name (ascii "dispatcher-run")) (verb-cases.Start DispatcherRun)
    (pick (bytes_eq name (ascii "page")) (verb-cases.Ask question-cases.Page)
    (pick (bytes_eq name (ascii "flatten")) (verb-cases.Ask question-cases.Flatten)
    (pick (bytes_eq name (ascii "flat-check")) (verb-cases.Ask question-cases.FlatCheck)
    (pick (bytes_eq name (ascii "flat-run")) (verb-cases.Start FlatRun)
    verb-cases.Unknown)))))))))))))

-- "The budget is any unsigned 32-bit number": decimal digits, no sign, no leading zero.
unfoldable pub budget_of : List ℕ → Option ℕ
budget_of bytes = at_most 4294967295 (natural_of bytes)

unfoldable pub start_request : Task → Option ℕ → (stored : Bool) → Request
start_request task None stored = WrongBudget
start_request task (Some budget) stored = Start task budget stored

-- What starts from a store has a budget and, where it is not to start from zeros, a store file; a join has a file with the second text; the
-- others have no further argument. `count` is the number of arguments.
unfoldable pub request_by : Verb → (count : ℕ) → (second : List ℕ) → Request
request_by (verb-cases.Ask question) count second = pick (eqb count 1) (Ask question) WrongArguments
request_by (verb-cases.Translate sheet) count second = pick (eqb count 1) (Translate sheet) WrongArguments
request_by (verb-cases.Start task) count second = pick (leb 2 count && leb count 3) (start_request task (budget_of second) (eqb count 3)) WrongArguments
request_by verb-cases.Join count second = pick (eqb count 2) Join WrongArguments
request_by verb-cases.Unknown count second = WrongArguments

unfoldable pub request_of : (count : ℕ) → (first second : List ℕ) → Request
request_of count first second = request_by (verb_of first) count second

-- Whether standard input is read, and whether a file is, the store or the second text of a join. With wrong arguments nothing is read.
abbrev pub reads_text : Request → Bool
reads_text (Ask question) = true
reads_text (Translate sheet) = true
reads_text (Start task budget stored) = true
reads_text Join = true
reads_text WrongArguments = false
reads_text WrongBudget = false

abbrev pub reads_store : Request → Bool
reads_store (Ask question) = false
reads_store (Translate sheet) = false
reads_store (Start task budget stored) = stored
reads_store Join = true
reads_store WrongArguments = false
reads_store WrongBudget = false

-- Which argument names that file.
abbrev pub file_argument : Request → ℕ
file_argument (Ask question) = 3
file_argument (Translate sheet) = 3
file_argument (Start task budget stored) = 3
file_argument Join = 2
file_argument WrongArguments = 3
file_argument WrongBudget = 3
