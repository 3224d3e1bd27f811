-- Lines of a page: whether they fit its names, and how many rows they have.
use mathlib.Core.List.{List, [], ◌∷◌}
use Prim.Native.Nat.{ℕ, ◌+◌}
use Rattle.page_words.specs.Texts.{LineFits}
use Rattle.page_words.specs.declared.Names.{Names}
use Rattle.page_words.specs.declared.LineContent.{LineContent}
use Rattle.page_blocks.specs.Scans.{line_rows}

abbrev pub lines_rows : List LineContent → ℕ
lines_rows [] = 0
lines_rows (line ∷ lines) = line_rows line + lines_rows lines

unfoldable pub AllFit : Names → List LineContent → Type 0
AllFit names [] = Unit
AllFit names (line ∷ lines) = LineFits names line × AllFit names lines
