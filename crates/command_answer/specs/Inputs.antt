-- Inputs: what is printed for what came of reading standard input and the store file.
use Rattle.std.specs.Prelude.{List, ℕ, take}
use Rattle.words.specs.Word.{pick}
use Rattle.command_request.specs.declared.request.Request.{Request}
use Rattle.command_request.specs.Inputs.{is_unreadable, bytes_read}
use Rattle.command_request.specs.declared.Input.{Input}
use Rattle.command_lines.specs.Lines.{unreadable_text_line, unreadable_store_line}
use Rattle.command_answer.specs.Output.{command_output}

-- What is printed. The bytes that were read stand at the start of `text` and `stored`.
unfoldable pub inputs_output : Request → (textInput storeInput : Input) → (text stored : List ℕ) → List ℕ
inputs_output request textInput storeInput text stored =
    pick (is_unreadable textInput) unreadable_text_line
    (pick (is_unreadable storeInput) unreadable_store_line
    (command_output request (take (bytes_read textInput) text) (take (bytes_read storeInput) stored)))
