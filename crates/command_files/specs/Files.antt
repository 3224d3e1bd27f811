-- Files: what came of reading a file that was opened.
use Rattle.std.specs.Prelude.{◌≡◌, Bool, true, false, ℕ}
use Rattle.command_request.specs.Inputs.{Fetched}
use Rattle.command_request.specs.declared.Input.{Input}
use Rattle.command_request.specs.declared.Input.TheVariants.{Unreadable}

-- What opening a file gives: something to read it by, or nothing, where it could not be opened.
pub record Opened (is_opened : Bool) (input : Input) (room : ℕ) : Type 0 where
  pub fetched : Fetched true input room
  pub unopened : is_opened ≡ false → input ≡ Unreadable
