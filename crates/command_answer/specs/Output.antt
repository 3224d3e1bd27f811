-- Output: the bytes that the command prints for a request, the text on standard input and the bytes of a file.
use Rattle.std.specs.Prelude.{List, ℕ, leb, length}
use Rattle.words.specs.Word.{pick}
use Rattle.command_lines.specs.Lines.{usage_line, wrong_budget_line, long_text_line, long_store_line}
use Rattle.command_request.specs.declared.request.Request.{Request}
use Rattle.command_request.specs.declared.request.Request.TheVariants.{Ask, Translate, Start, Join, WrongArguments, WrongBudget}
use Rattle.command_text.specs.Texts.{text_limit, store_limit}
use Rattle.command_runs.specs.Tasks.{started_output}
use Rattle.command_questions.specs.Questions.{question_output}
use Rattle.command_questions.specs.Translations.{translation_output}
use Rattle.command_questions.specs.Joins.{join_output}

unfoldable pub request_output : Request → (text stored : List ℕ) → List ℕ
request_output (Ask question) text stored = question_output question text
request_output (Translate sheet) text stored = translation_output sheet text
request_output (Start task budget given) text stored = started_output task budget text given stored
request_output Join text stored = join_output text stored
request_output WrongArguments text stored = usage_line
request_output WrongBudget text stored = wrong_budget_line

-- What is printed: the limits come before the request. (With wrong arguments nothing is read, so that both are empty.)
unfoldable pub command_output : Request → (text stored : List ℕ) → List ℕ
command_output request text stored =
    pick (leb (length text) text_limit)
    (pick (leb (length stored) store_limit) (request_output request text stored) long_store_line)
    long_text_line
