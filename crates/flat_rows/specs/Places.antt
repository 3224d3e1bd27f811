-- Places: how many lines a list has, the line at which each row of a kernel program stands, and the lines that are a row's own. A row is
-- handed its line along the links, by the row that links it.
use Rattle.std.specs.Prelude.{Bool, true, false, List, [], ◌∷◌, ℕ, zero, suc, ◌+◌, eqb, ℤ}
use Rattle.words.specs.Word.{pick}
use Rattle.words.specs.Table.{number_at}
use Rattle.words.specs.Links.{note}
use Rattle.language.specs.Decode.{expression_at, statement_at, list_at}
use Rattle.language.specs.Program.{contents}
use Rattle.flat.specs.Lines.{Operand, FlatLine, does, jump, jump_zero, jump_other, abort}
use Rattle.flat_fate.specs.Code.{operand_of, operation_of, always, statement_lines, items_lines}
use Rattle.flat_fate.specs.Branches.{first_at, second_at, body_at}
use Rattle.flat_fate.specs.Addresses.{address_in}

-- The lines of the list that begins at a row; 0 is no list.
unfoldable pub list_lines : List ℤ → ℕ → ℕ
list_lines rows row = items_lines (list_at rows row)

-- The test of an if or a while.
abbrev pub test_of : List ℤ → ℕ → Operand
test_of rows row = operand_of (expression_at rows (number_at rows row 1))

-- What a row at this line hands to the row that its field links: the line of that row.
unfoldable pub handed : List ℤ → ℕ → ℕ → ℕ → ℕ
handed rows row field line =
    let p = list_lines rows (number_at rows row 2) in
    let q = list_lines rows (number_at rows row 3) in
    pick (eqb field 5) (line + statement_lines (statement_at rows row))
    (pick (eqb (number_at rows row 0) 43) (pick (eqb field 2) (first_at p q line) (second_at p q line))
    (pick (eqb (number_at rows row 0) 44) (body_at (always (test_of rows row)) line) line))

unfoldable pub line_of : List ℤ → ℕ → ℕ
line_of rows row = note (handed rows) 0 rows row

-- ---- the lines that are a row's own, each with its place

abbrev pub if_own : Operand → ℕ → ℕ → ℕ → List (ℕ × FlatLine)
if_own a zero zero i = []
if_own a zero (suc q) i = (i, jump_other a (i + (1 + suc q))) ∷ []
if_own a (suc p) zero i = (i, jump_zero a (i + (1 + suc p))) ∷ []
if_own a (suc p) (suc q) i = (i, jump_zero a (i + (2 + suc p))) ∷ (i + 1 + suc p, jump (i + (2 + (suc p + suc q)))) ∷ []

abbrev pub while_own : Bool → Operand → ℕ → ℕ → List (ℕ × FlatLine)
while_own true a p i = (i + p, jump i) ∷ []
while_own false a p i = (i, jump_zero a (i + (p + 2))) ∷ (i + 1 + p, jump i) ∷ []

unfoldable pub own_lines : List ℤ → ℕ → List (ℕ × FlatLine)
own_lines rows row =
    let kind = number_at rows row 0 in
    let line = line_of rows row in
    let p = list_lines rows (number_at rows row 2) in
    let q = list_lines rows (number_at rows row 3) in
    pick (eqb kind 41) ((line, does (operation_of (expression_at rows (number_at rows row 1)))) ∷ [])
    (pick (eqb kind 43) (if_own (test_of rows row) p q line)
    (pick (eqb kind 44) (while_own (always (test_of rows row)) (test_of rows row) p line)
    (pick (eqb kind 52) ((line, jump (address_in (contents rows) (number_at rows row 1))) ∷ [])
    (pick (eqb kind 57) ((line, abort) ∷ []) []))))

-- Something holds of each place and line.
abbrev pub Each : (ℕ → FlatLine → Type 0) → List (ℕ × FlatLine) → Type 0
Each P [] = Unit {0}
Each P (x ∷ xs) = P x.0 x.1 × Each P xs
