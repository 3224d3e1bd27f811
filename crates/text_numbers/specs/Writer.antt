-- Writer: what a function that writes at the start of a buffer leaves.
use Rattle.std.specs.Prelude.{◌≡◌, List, ℕ, length}
use Rattle.words.specs.Over.{over}

-- Bytes, so many of them, were written at the start of a buffer.
pub record Put (bytes buffer : List ℕ) (count : ℕ) (left : List ℕ) : Type 0 where
  pub size : count ≡ length bytes
  pub written : left ≡ over bytes buffer
