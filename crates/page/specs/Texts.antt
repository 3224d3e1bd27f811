-- Texts: the bytes of quoted lines, for the examples.
use Rattle.std.specs.Prelude.{List, [] as no_byte, ◌∷◌ as ◌before◌, ◌++◌, ℕ}
use Prim.Native.Char.{code}
use Prim.Native.String.{String, [], ◌∷◌}
use Rattle.text_lines.specs.Line.{newline}

unfoldable pub bytes_of : String → List ℕ
bytes_of [] = no_byte
bytes_of (c ∷ cs) = code c before bytes_of cs

-- Lines, each with a newline at its end.
unfoldable pub quoted : List String → List ℕ
quoted no_byte = no_byte
quoted (line before lines) = bytes_of line ++ (newline before quoted lines)
