-- Arguments: which arguments of a call are copied, as the binary digits of a number, the first argument's lowest.
use Rattle.std.specs.Prelude.{Bool, ℕ, ◌+◌, ◌*◌}
use Rattle.language.specs.Trees.{Expression, constant, read, minus, not, binary, and, or, comma, conditional, assign, compound, prefix, postfix, call, Arguments, no_more, ◌also◌}
use Rattle.language.specs.Writes.{writes}
use Rattle.translation.specs.Translate.{together, nothing, atom_of}
use Rattle.translation.specs.TranslateSize.{copied}

-- `called f i`: whether function f can write the variable i.
module _ (called : ℕ → ℕ → Bool) where
  -- An argument's value is copied where one of those before it can write it; those before the first of these can write the variables W.
  unfoldable pub argument_copies : Arguments → (ℕ → Bool) → ℕ
  argument_copies no_more W = 0
  argument_copies (e also arguments) W = copied (atom_of called e) W + 2 * argument_copies arguments (together (writes called e) W)

  -- Those of an expression, which are none where it is no call.
  abbrev pub call_copies : Expression → ℕ
  call_copies (constant v) = 0
  call_copies (read p) = 0
  call_copies (minus e) = 0
  call_copies (not e) = 0
  call_copies (binary operator a b) = 0
  call_copies (and a b) = 0
  call_copies (or a b) = 0
  call_copies (comma a b) = 0
  call_copies (conditional c a b) = 0
  call_copies (assign p e) = 0
  call_copies (compound operator p e) = 0
  call_copies (prefix operator p) = 0
  call_copies (postfix operator p) = 0
  call_copies (call f arguments) = argument_copies arguments nothing
