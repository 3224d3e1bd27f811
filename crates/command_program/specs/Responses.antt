-- Responses: what is read for a request, and what is printed for it.
use Rattle.std.specs.Prelude.{List, ℕ, length}
use Rattle.text_numbers.specs.Writer.{Put}
use Rattle.command_request.specs.Requests.{reads_text, reads_store}
use Rattle.command_request.specs.declared.request.Request.{Request}
use Rattle.command_request.specs.Inputs.{Fetched}
use Rattle.command_answer.specs.Inputs.{inputs_output}
use Rattle.command_program.specs.declared.Response.{Response}

-- `text` and `stored` are the buffers after reading, `before` and `after` the one that the answer is put into.
pub record Responds (request : Request) (response : Response) (text stored before after : List ℕ) : Type 0 where
  pub text_read : Fetched (reads_text request) response.text (length text)
  pub store_read : Fetched (reads_store request) response.store (length stored)
  pub printed : Put (inputs_output request response.text response.store text stored) before response.bytes after

-- The same of buffers of the program's own: the contracts of input and output do not tell which bytes were read.
pub record Answered (request : Request) (response : Response) : Type 0 where
  pub text : List ℕ
  pub stored : List ℕ
  pub before : List ℕ
  pub after : List ℕ
  pub responds : Responds request response text stored before after
