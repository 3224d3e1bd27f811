-- Waits: the lists that wait where page/Lines reads lines from the last to the first, against what is open where a page is read from its first
-- line on; and the lines of both.
use Rattle.std.specs.Prelude.{◌≡◌, Bool, true, false, List, [], ◌∷◌, ◌++◌, ◌+◌, length, None, Option, Some}
use Rattle.language.specs.Trees.{Items}
use Rattle.page.specs.Lines.{Indented, indented, turns, closes, argument_lines, parameter_lines, items_lines, Waiting, outermost, closed, Reading, reading, passing, taking, malformed}
use Rattle.page.specs.Lines.{turned as else_waiting}
use Rattle.page_blocks.specs.Blocks.{Blocks, Open, outside, in_arguments, in_parameters, behind, levels}

-- The lists wait for the blocks that are open.
unfoldable pub matches : Blocks → Waiting → Bool
matches [] outermost = true
matches [] (closed later waiting) = false
matches [] (else_waiting on_false waiting) = false
matches (false ∷ around) outermost = false
matches (false ∷ around) (closed later waiting) = matches around waiting
matches (false ∷ around) (else_waiting on_false waiting) = false
matches (true ∷ around) outermost = false
matches (true ∷ around) (closed later waiting) = false
matches (true ∷ around) (else_waiting on_false outermost) = false
matches (true ∷ around) (else_waiting on_false (closed later waiting)) = matches around waiting
matches (true ∷ around) (else_waiting on_false (else_waiting other waiting)) = false

unfoldable pub fits : Open → Reading → Bool
fits (outside blocks) (reading is waiting) = matches blocks waiting
fits (outside blocks) (passing e arguments is waiting) = false
fits (outside blocks) (taking word words body later waiting) = false
fits (outside blocks) malformed = false
fits (in_arguments blocks) (reading is waiting) = false
fits (in_arguments blocks) (passing e arguments is waiting) = matches blocks waiting
fits (in_arguments blocks) (taking word words body later waiting) = false
fits (in_arguments blocks) malformed = false
fits (in_parameters blocks) (reading is waiting) = false
fits (in_parameters blocks) (passing e arguments is waiting) = false
fits (in_parameters blocks) (taking word words body later waiting) = matches blocks waiting
fits (in_parameters blocks) malformed = false

unfoldable pub fits_after : Option Open → Reading → Bool
fits_after None r = false
fits_after (Some around) r = fits around r

-- ---- the lines, at their levels

-- The lines behind those of the current list: the ends of the blocks that are open, and the lists that wait.
unfoldable pub waiting_lines : Blocks → Waiting → List Indented
waiting_lines [] waiting = []
waiting_lines (false ∷ around) outermost = []
waiting_lines (false ∷ around) (closed later waiting) = indented (length around) closes ∷ (items_lines (length around) later ++ waiting_lines around waiting)
waiting_lines (false ∷ around) (else_waiting on_false waiting) = []
waiting_lines (true ∷ around) outermost = []
waiting_lines (true ∷ around) (closed later waiting) = []
waiting_lines (true ∷ around) (else_waiting on_false outermost) = []
waiting_lines (true ∷ around) (else_waiting on_false (closed later waiting)) =
    indented (length around) turns ∷ (items_lines (length around + 1) on_false ++ (indented (length around) closes ∷ (items_lines (length around) later ++ waiting_lines around waiting)))
waiting_lines (true ∷ around) (else_waiting on_false (else_waiting other waiting)) = []

-- With those of items before them.
abbrev pub itemed : Blocks → Items → Waiting → List Indented
itemed blocks is waiting = items_lines (length blocks) is ++ waiting_lines blocks waiting

-- The lines are those of what they are read as.
unfoldable pub Lined : Open → Reading → List Indented → Type 0
Lined (outside blocks) (reading is waiting) lines = matches blocks waiting ≡ true → lines ≡ itemed blocks is waiting
Lined (outside blocks) (passing e arguments is waiting) lines = Unit
Lined (outside blocks) (taking word words body later waiting) lines = Unit
Lined (outside blocks) malformed lines = Unit
Lined (in_arguments blocks) (reading is waiting) lines = Unit
Lined (in_arguments blocks) (passing e arguments is waiting) lines = matches blocks waiting ≡ true → lines ≡ argument_lines (length blocks) e arguments ++ itemed blocks is waiting
Lined (in_arguments blocks) (taking word words body later waiting) lines = Unit
Lined (in_arguments blocks) malformed lines = Unit
Lined (in_parameters blocks) (reading is waiting) lines = Unit
Lined (in_parameters blocks) (passing e arguments is waiting) lines = Unit
Lined (in_parameters blocks) (taking word words body later waiting) lines =
    matches blocks waiting ≡ true → lines ≡ parameter_lines (length blocks) word words ++ (items_lines (length blocks + 1) body ++ (indented (length blocks) closes ∷ itemed blocks later waiting))
Lined (in_parameters blocks) malformed lines = Unit

unfoldable pub LinedAfter : Option Open → Reading → List Indented → Type 0
LinedAfter None r lines = Unit
LinedAfter (Some around) r lines = Lined around r lines
