-- Laid: bytes laid into a buffer from a place on; the bytes before and behind keep their content.
use Rattle.std.specs.Prelude.{◌≡◌, List, ◌++◌, ℕ, ◌+◌, ◌≤◌, length, take}
use Rattle.words.specs.Over.{over}

-- Bytes were laid into a buffer from `at` on, up to `next`, which leaves `left`.
pub record Laid (bytes buffer : List ℕ) (at next : ℕ) (left : List ℕ) : Type 0 where
  pub room : at + length bytes ≤ length buffer
  pub reached : next ≡ at + length bytes
  pub written : left ≡ over (take at buffer ++ bytes) buffer
