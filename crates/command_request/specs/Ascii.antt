-- Ascii: names and sentences as bytes.
use Rattle.std.specs.Prelude.{List, [], ◌∷◌, ℕ}
use Prim.Native.Char.{code}
use Prim.Native.String.{String, [] as empty, ◌∷◌ as ◌then◌}

-- The bytes of a text of ASCII characters.
abbrev pub ascii : String → List ℕ
ascii empty = []
ascii (character then others) = code character ∷ ascii others
