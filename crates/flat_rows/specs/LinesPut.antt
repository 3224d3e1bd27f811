-- Lines put: lines of a list stored in a table of words, five words a line.
use Rattle.std.specs.Prelude.{◌≡◌, ℕ, ◌<◌, length, get_or, ◌*◌, ℤ}
use Rattle.flat.specs.Lines.{FlatLine, jump}
use mathlib.Core.List.{List, [], ◌∷◌}
use Rattle.std.proofs.lemmas.List.Edits.{sets}
use Rattle.flat.specs.Words.{Parts, line_parts, five_words, Written}

-- Beyond a list there is no line; the one that stands for it is never asked for.
abbrev pub nothing : FlatLine
nothing = jump 0

-- A line stands in a list.
abbrev pub There : List FlatLine → ℕ → FlatLine → Type 0
There lines i x = (i < length lines) × (get_or lines i nothing ≡ x)

-- "Words beyond the result stay": five words stored at a line.
unfoldable pub put_line : ℕ → Parts → List ℤ → List ℤ
put_line line p out = sets out (5 * line) (five_words p)

-- A line is written.
abbrev pub Holds : List ℤ → ℕ → FlatLine → Type 0
Holds out i x = Written out i (line_parts i x)

-- Lines with their places, put one after the other.
unfoldable pub put_all : List (ℕ × FlatLine) → List ℤ → List ℤ
put_all [] out = out
put_all (x ∷ xs) out = put_all xs (put_line x.0 (line_parts x.0 x.1) out)
