-- Named: the store words that the names of a source table mean, where S is the words of the header's variables and arrays: a variable,
-- of which there are at most 256, all below S; or one of the at most 64 declared words behind the first S.
use Rattle.std.specs.Prelude.{ℕ, ◌+◌, ◌<◌}

pub record Named (S i : ℕ) : Type 0 where
  pub within : i < S + 64
  pub variable : i < S → i < 256
