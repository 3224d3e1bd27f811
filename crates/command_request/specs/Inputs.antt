-- Inputs: what came of reading standard input, or the file that is named.
use Rattle.std.specs.Prelude.{◌≡◌, Bool, true, false, not, ℕ, ◌≤◌}
use Rattle.command_request.specs.declared.Input.{Input}
use Rattle.command_request.specs.declared.Input.TheVariants.{Absent, Bytes, Unreadable}

abbrev pub is_absent : Input → Bool
is_absent Absent = true
is_absent (Bytes count) = false
is_absent Unreadable = false

abbrev pub is_unreadable : Input → Bool
is_unreadable Absent = false
is_unreadable (Bytes count) = false
is_unreadable Unreadable = true

-- How many bytes were read.
abbrev pub bytes_read : Input → ℕ
bytes_read Absent = 0
bytes_read (Bytes count) = count
bytes_read Unreadable = 0

-- Something was read exactly where that is wanted, and there is room for it in the buffer.
pub record Fetched (wanted : Bool) (input : Input) (room : ℕ) : Type 0 where
  pub absent : is_absent input ≡ not wanted
  pub inside : bytes_read input ≤ room
