-- Scans: a page from its first line to its last: how many rows its program has, or the first line that is wrong. A line is wrong that is not
-- 81 bytes of the grammar with its number and at its level, or that closes or turns where it must not; so is the line behind the last where
-- a block is still open. "Up to 40,980 rows" have 81,958 lines at most: line 81,959 is wrong.
use Rattle.std.specs.Prelude.{Bool, true, false, List, [], ◌∷◌, ℕ, zero, suc, ◌+◌, ◌*◌, ◌/◌, min, eqb, ℤ, length, take, drop, Err, None, Ok, Option, Result, Some}
use Rattle.words.specs.Layout.{declared_of, temporaries_of}
use Rattle.words.specs.declared.Form.TheVariants.{Kernel}
use Rattle.check_fields.specs.Fields.{bounds_of}
use Rattle.page_words.specs.declared.Names.{Names}
use Rattle.page_words.specs.declared.Value.{Value}
use Rattle.page_words.specs.declared.Value.TheVariants.{Single, Element, Minus, Binary, Call}
use Rattle.page_words.specs.declared.LineContent.{LineContent}
use Rattle.page_words.specs.declared.LineContent.TheVariants.{Empty, Abort, Goto, Label, Store, Put, Opens, While, If, Turns, Closes, Return, OpensCall, Argument, LastArgument, OpensFunction, OpensParameters, Parameter, LastParameter}
use Rattle.page_frame.specs.Frames.{line_in, statement_in}
use Rattle.page_blocks.specs.Blocks.{Open, outside, in_arguments, in_parameters, level_in, behind, onward}

abbrev pub value_rows : Value → ℕ
value_rows (Single a) = 1
value_rows (Element array index) = 2
value_rows (Minus a) = 2
value_rows (Binary o a b) = 3
value_rows (Call f) = 1

-- The rows that a line has: its statement's, without those of the blocks between its lines. The block of a branch, or of a function, has its row at the line that opens it.
abbrev pub line_rows : LineContent → ℕ
line_rows Empty = 1
line_rows Abort = 1
line_rows (Goto l) = 1
line_rows (Label l) = 1
line_rows (Store a v) = 3 + value_rows v
line_rows (Put array index a) = 5
line_rows Opens = 1
line_rows (While a) = 3
line_rows (If a) = 3
line_rows Turns = 1
line_rows Closes = 0
line_rows (Return a) = 2
line_rows (OpensCall a f) = 4
line_rows (Argument a) = 2
line_rows (LastArgument a) = 2
line_rows (OpensFunction f) = 2
line_rows (OpensParameters f) = 1
line_rows (Parameter n) = 1
line_rows (LastParameter n) = 2

-- Behind the last whole line: no byte is left, and nothing is open.
abbrev pub ended : Bool → Open → (rows next : ℕ) → Result ℕ ℕ
ended true (outside []) rows next = Ok rows
ended true (outside (flag ∷ blocks)) rows next = Err next
ended true (in_arguments blocks) rows next = Err next
ended true (in_parameters blocks) rows next = Err next
ended false around rows next = Err next

abbrev pub stepped : Option LineContent → (number : ℕ) → Open → (LineContent → Open → Result ℕ ℕ) → Result ℕ ℕ
stepped None number around next = Err number
stepped (Some line) number around next = onward (Err number) (next line) (behind line around)

module _ (names : Names) (page : List ℕ) where
  -- So many lines are left, behind those that are done.
  unfoldable pub scan_from : (left done : ℕ) → Open → (rows : ℕ) → Result ℕ ℕ
  scan_from zero done around rows = ended (eqb (81 * done) (length page)) around rows (done + 1)
  scan_from (suc left) done around rows =
      stepped (line_in names (done + 1) (level_in around) (take 81 (drop (81 * done) page))) (done + 1) around (λ line a. scan_from left (done + 1) a (rows + line_rows line))

  -- Row 0 has no line.
  unfoldable pub scan : Result ℕ ℕ
  scan = scan_from (min (length page / 81) 81958) 0 (outside []) 1

-- ---- the lines

abbrev pub with_line : Option LineContent → List LineContent → List LineContent
with_line None lines = lines
with_line (Some line) lines = line ∷ lines

module _ (names : Names) (page : List ℕ) where
  -- What the statements of so many lines say, behind those lines that are done.
  unfoldable pub lines_from : (left done : ℕ) → List LineContent
  lines_from zero done = []
  lines_from (suc left) done = with_line (statement_in names (take 81 (drop (81 * done) page))) (lines_from left (done + 1))

  unfoldable pub lines_in : List LineContent
  lines_in = lines_from (min (length page / 81) 81958) 0

-- ---- with a header

-- The names that a kernel header gives.
unfoldable pub names_of : List ℤ → Names
names_of header = record { variables = (bounds_of Kernel header).variables; declared = declared_of Kernel header; temporaries = temporaries_of Kernel header; arrays = (bounds_of Kernel header).arrays }
