-- Frames: the line that 81 bytes are: its number right-set in five columns, a blank, the indent, the statement, blanks, and the newline.
use Rattle.std.specs.Prelude.{Bool, true, false, List, [], ◌∷◌, ℕ, suc, ◌-◌, eqb, ltb, length, get_or, take, drop, None, Option, Some}
use Rattle.words.specs.Word.{pick}
use Rattle.page.specs.Page.{indent}
use Rattle.page_words.specs.Reads.{number_read, line_read}
use Rattle.page_words.specs.declared.Names.{Names}
use Rattle.page_words.specs.declared.LineContent.{LineContent}
use Rattle.page_words.specs.declared.LineContent.TheVariants.{Empty, Abort, Goto, Label, Store, Put, Opens, While, If, Turns, Closes, Return, OpensCall, Argument, LastArgument, OpensFunction, OpensParameters, Parameter, LastParameter}

-- How many blanks stand first.
unfoldable pub leading_blanks : List ℕ → ℕ
leading_blanks [] = 0
leading_blanks (byte ∷ bytes) = pick (eqb byte 32) (suc (leading_blanks bytes)) 0

-- How many bytes there are up to the last that is no blank.
unfoldable pub filled_size : List ℕ → ℕ
filled_size [] = 0
filled_size (byte ∷ bytes) = pick (eqb (filled_size bytes) 0) (pick (eqb byte 32) 0 1) (suc (filled_size bytes))

-- The level of a line among so many blocks: one that closes or turns stands as its statement's first line.
abbrev pub level_of : ℕ → LineContent → ℕ
level_of depth Closes = depth - 1
level_of depth Turns = depth - 1
level_of depth Empty = depth
level_of depth Abort = depth
level_of depth (Goto l) = depth
level_of depth (Label l) = depth
level_of depth (Store a v) = depth
level_of depth (Put array index a) = depth
level_of depth Opens = depth
level_of depth (While a) = depth
level_of depth (If a) = depth
level_of depth (Return a) = depth
level_of depth (OpensCall a f) = depth
level_of depth (Argument a) = depth
level_of depth (LastArgument a) = depth
level_of depth (OpensFunction f) = depth
level_of depth (OpensParameters f) = depth
level_of depth (Parameter n) = depth
level_of depth (LastParameter n) = depth

abbrev pub is_number : ℕ → Option ℕ → Bool
is_number number (Some found) = eqb found number
is_number number None = false

unfoldable pub is_numbered : ℕ → List ℕ → Bool
is_numbered number columns = is_number number (number_read 100000 (drop (leading_blanks columns) columns))

-- A line that was read stands so far in as its level asks.
unfoldable pub levelled : (depth start : ℕ) → Option LineContent → Option LineContent
levelled depth start None = None
levelled depth start (Some line) = pick (eqb start (indent (level_of depth line))) (Some line) None

-- The statement between the blanks of a line's columns, wherever it begins.
unfoldable pub statement_read : Names → List ℕ → Option LineContent
statement_read names body =
    pick (ltb (filled_size body) (leading_blanks body)) None (line_read names (take (filled_size body - leading_blanks body) (drop (leading_blanks body) body)))

-- What stands between a line's number and its newline.
unfoldable pub body_read : Names → ℕ → List ℕ → Option LineContent
body_read names depth body = levelled depth (leading_blanks body) (statement_read names body)

unfoldable pub line_in : Names → (number depth : ℕ) → List ℕ → Option LineContent
line_in names number depth line =
    pick (is_numbered number (take 5 line))
    (pick (eqb (get_or line 5 0) 32) (pick (eqb (get_or line 80 0) 10) (body_read names depth (take 74 (drop 6 line))) None) None) None

-- The statement of these 81 bytes, whatever their number and their indent.
unfoldable pub statement_in : Names → List ℕ → Option LineContent
statement_in names line = statement_read names (take 74 (drop 6 line))
