-- Rows: the rows that a line has of its own, by what the lines behind it leave. Lines are read from the last to the first, as page/Lines reads
-- them, and the row `base` is the first of the line: in it, and in no other row of a line, stands what only the lines behind it tell.
use Rattle.std.specs.Prelude.{Bool, true, false, List, [], ◌∷◌, ◌++◌, ℕ, ◌+◌, ℤ, pos, get_or, drop}
use Rattle.words.specs.Word.{pick}
use Rattle.language.specs.Trees.{assign, element, present, label, empty, express, goto, abort, give_back, Items, none, ◌then◌, ◌here◌}
use Rattle.language_emission.specs.Emission.{row_of, emit_expression, emit_place, emit_items}
use Rattle.page.specs.declared.Sizes.{Sizes}
use Rattle.page_words.specs.Trees.{place_tree, atom_tree, value_tree}
use Rattle.page_words.specs.declared.LineContent.{LineContent}
use Rattle.page_words.specs.declared.LineContent.TheVariants.{Empty, Abort, Goto, Label, Store, Put, Opens, While, If, Turns, Closes, Return, OpensCall, Argument, LastArgument, OpensFunction, OpensParameters, Parameter, LastParameter}
use Rattle.page_blocks.specs.Scans.{line_rows}

-- What lines leave to the line before them.
pub record Left : Type 0 where
  -- an item follows in the list of that line
  pub follows : Bool
  -- rows that wait for the lines that open their blocks or parentheses, the innermost first: of a block that closes, and of arguments that
  -- end, the row behind in the list, or 0; of a branch that turns the row of the other branch's block; of parameters that of the function's
  pub waiting : List ℕ

abbrev pub nothing : Left
nothing = record { follows = false; waiting = [] }

-- What a line and those behind it leave.
abbrev pub left_before : LineContent → ℕ → Left → Left
left_before Empty base left = record { follows = true; waiting = left.waiting }
left_before Abort base left = record { follows = true; waiting = left.waiting }
left_before (Goto l) base left = record { follows = true; waiting = left.waiting }
left_before (Label l) base left = record { follows = true; waiting = left.waiting }
left_before (Store a v) base left = record { follows = true; waiting = left.waiting }
left_before (Put array index a) base left = record { follows = true; waiting = left.waiting }
left_before Opens base left = record { follows = true; waiting = drop 1 left.waiting }
left_before (While a) base left = record { follows = true; waiting = drop 1 left.waiting }
left_before (If a) base left = record { follows = true; waiting = drop 2 left.waiting }
left_before Turns base left = record { follows = false; waiting = base ∷ left.waiting }
left_before Closes base left = record { follows = false; waiting = pick left.follows base 0 ∷ left.waiting }
left_before (Return a) base left = record { follows = true; waiting = left.waiting }
left_before (OpensCall a f) base left = record { follows = true; waiting = drop 1 left.waiting }
left_before (Argument a) base left = record { follows = true; waiting = left.waiting }
left_before (LastArgument a) base left = record { follows = false; waiting = pick left.follows (base + 2) 0 ∷ left.waiting }
left_before (OpensFunction f) base left = record { follows = true; waiting = drop 1 left.waiting }
left_before (OpensParameters f) base left = record { follows = true; waiting = drop 2 left.waiting }
left_before (Parameter n) base left = record { follows = true; waiting = left.waiting }
left_before (LastParameter n) base left = record { follows = false; waiting = (base + 1) ∷ left.waiting }

-- The item that a line is by itself; a line that opens, turns or closes is none.
abbrev pub line_item : Sizes → LineContent → Items
line_item sizes Empty = empty then none
line_item sizes Abort = abort then none
line_item sizes (Goto l) = goto l then none
line_item sizes (Label l) = label l here none
line_item sizes (Store a v) = express (assign (place_tree sizes a) (value_tree sizes v)) then none
line_item sizes (Put array index a) = express (assign (element array (atom_tree sizes index)) (atom_tree sizes a)) then none
line_item sizes Opens = none
line_item sizes (While a) = none
line_item sizes (If a) = none
line_item sizes Turns = none
line_item sizes Closes = none
line_item sizes (Return a) = give_back (present (atom_tree sizes a)) then none
line_item sizes (OpensCall a f) = none
line_item sizes (Argument a) = none
line_item sizes (LastArgument a) = none
line_item sizes (OpensFunction f) = none
line_item sizes (OpensParameters f) = none
line_item sizes (Parameter n) = none
line_item sizes (LastParameter n) = none

-- The row of a block whose items begin at the row behind it, if it has any.
abbrev pub block_row : ℕ → (follows : Bool) → (next : ℕ) → List ℤ
block_row base follows next = row_of 42 (pos (pick follows (base + 1) 0)) 0 0 0 next

-- The rows of a line, from `base` on. Those of a while and of an if: the statement, its atom, and the block that it opens.
abbrev pub line_table : Sizes → LineContent → ℕ → Left → List ℤ
line_table sizes Empty base left = emit_items left.follows (line_item sizes Empty) base
line_table sizes Abort base left = emit_items left.follows (line_item sizes Abort) base
line_table sizes (Goto l) base left = emit_items left.follows (line_item sizes (Goto l)) base
line_table sizes (Label l) base left = emit_items left.follows (line_item sizes (Label l)) base
line_table sizes (Store a v) base left = emit_items left.follows (line_item sizes (Store a v)) base
line_table sizes (Put array index a) base left = emit_items left.follows (line_item sizes (Put array index a)) base
line_table sizes Opens base left = block_row base left.follows (get_or left.waiting 0 0)
line_table sizes (While a) base left =
    (row_of 44 (pos (base + 1)) (base + 2) 0 0 (get_or left.waiting 0 0) ++ emit_expression (atom_tree sizes a) (base + 1)) ++ block_row (base + 2) left.follows 0
line_table sizes (If a) base left =
    (row_of 43 (pos (base + 1)) (base + 2) (get_or left.waiting 0 0) 0 (get_or left.waiting 1 0) ++ emit_expression (atom_tree sizes a) (base + 1)) ++ block_row (base + 2) left.follows 0
line_table sizes Turns base left = block_row base left.follows 0
line_table sizes Closes base left = []
line_table sizes (Return a) base left = emit_items left.follows (line_item sizes (Return a)) base
-- the statement, its assignment, the place and the call
line_table sizes (OpensCall a f) base left =
    ((row_of 41 (pos (base + 1)) 0 0 0 (get_or left.waiting 0 0) ++ row_of 21 (pos (base + 2)) (base + 3) 0 0 0) ++ emit_place (place_tree sizes a) (base + 2)) ++ row_of 31 (pos f) (base + 4) 0 0 0
line_table sizes (Argument a) base left = row_of 32 (pos (base + 1)) 0 0 0 (base + 2) ++ emit_expression (atom_tree sizes a) (base + 1)
line_table sizes (LastArgument a) base left = row_of 32 (pos (base + 1)) 0 0 0 0 ++ emit_expression (atom_tree sizes a) (base + 1)
-- the definition, its parameters, and the block that the last of these lines opens
line_table sizes (OpensFunction f) base left = row_of 59 (pos f) 0 (base + 1) 0 (get_or left.waiting 0 0) ++ block_row (base + 1) left.follows 0
line_table sizes (OpensParameters f) base left = row_of 59 (pos f) (base + 1) (get_or left.waiting 0 0) 0 (get_or left.waiting 1 0)
line_table sizes (Parameter n) base left = row_of 58 (pos (sizes.store + n)) 0 0 0 (base + 1)
line_table sizes (LastParameter n) base left = row_of 58 (pos (sizes.store + n)) 0 0 0 0 ++ block_row (base + 1) left.follows 0

-- ---- all lines

unfoldable pub left_by : List LineContent → ℕ → Left
left_by [] base = nothing
left_by (line ∷ lines) base = left_before line base (left_by lines (base + line_rows line))

unfoldable pub lines_table : Sizes → List LineContent → ℕ → List ℤ
lines_table sizes [] base = []
lines_table sizes (line ∷ lines) base = line_table sizes line base (left_by lines (base + line_rows line)) ++ lines_table sizes lines (base + line_rows line)

-- Row 0, then the rows of the lines.
unfoldable pub page_table : Sizes → List LineContent → List ℤ
page_table sizes lines = block_row 0 (left_by lines 1).follows 0 ++ lines_table sizes lines 1
