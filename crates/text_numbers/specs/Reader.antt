-- Reader: what the functions that read a number answer, in terms of the definitions of numbers.
use Rattle.std.specs.Prelude.{ℕ, leb, None, Some, Option}
use Rattle.words.specs.Word.{pick}

-- A number up to a limit.
unfoldable pub at_most : ℕ → Option ℕ → Option ℕ
at_most limit None = None
at_most limit (Some n) = pick (leb n limit) (Some n) None
