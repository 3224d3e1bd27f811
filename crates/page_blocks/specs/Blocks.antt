-- Blocks: which blocks are open before each line, and the lines with their levels. A page is read here from its first line on, so that the
-- first line that is wrong can be told.
use Rattle.std.specs.Prelude.{Bool, true, false, List, [], ◌∷◌, map, ℕ, length, None, Option, Some}
use Rattle.page.specs.declared.Sizes.{Sizes}
use Rattle.page.specs.Lines.{PageLine, Indented, indented}
use Rattle.page_words.specs.Trees.{line_tree}
use Rattle.page_words.specs.declared.LineContent.{LineContent}
use Rattle.page_words.specs.declared.LineContent.TheVariants.{Empty, Abort, Goto, Label, Store, Put, Opens, While, If, Turns, Closes, Return, OpensCall, Argument, LastArgument, OpensFunction, OpensParameters, Parameter, LastParameter}
use Rattle.page_frame.specs.Frames.{level_of}

-- The blocks that are open, the innermost first: true for the first branch of an if, which must turn before it closes.
abbrev pub Blocks : Type 0
Blocks = List Bool

-- What is open before a line: blocks, and perhaps the parentheses of a call or of a definition, in which no block is opened.
pub data Open : Type 0 where
  outside in_arguments in_parameters : Blocks → Open

abbrev pub level_in : Open → ℕ
level_in (outside blocks) = length blocks
level_in (in_arguments blocks) = length blocks
level_in (in_parameters blocks) = length blocks

abbrev pub turned : Blocks → Option Open
turned [] = None
turned (true ∷ blocks) = Some (outside (false ∷ blocks))
turned (false ∷ blocks) = None

abbrev pub shut : Blocks → Option Open
shut [] = None
shut (true ∷ blocks) = None
shut (false ∷ blocks) = Some (outside blocks)

-- Where a line must stand: outside parentheses, in those of a call, or in those of a definition.
abbrev pub where_items : (Blocks → Option Open) → Open → Option Open
where_items next (outside blocks) = next blocks
where_items next (in_arguments blocks) = None
where_items next (in_parameters blocks) = None

abbrev pub where_arguments : (Blocks → Option Open) → Open → Option Open
where_arguments next (outside blocks) = None
where_arguments next (in_arguments blocks) = next blocks
where_arguments next (in_parameters blocks) = None

abbrev pub where_parameters : (Blocks → Option Open) → Open → Option Open
where_parameters next (outside blocks) = None
where_parameters next (in_arguments blocks) = None
where_parameters next (in_parameters blocks) = next blocks

-- What is open behind a line.
abbrev pub behind : LineContent → Open → Option Open
behind Empty around = where_items (λ blocks. Some (outside blocks)) around
behind Abort around = where_items (λ blocks. Some (outside blocks)) around
behind (Goto l) around = where_items (λ blocks. Some (outside blocks)) around
behind (Label l) around = where_items (λ blocks. Some (outside blocks)) around
behind (Store a v) around = where_items (λ blocks. Some (outside blocks)) around
behind (Put array index a) around = where_items (λ blocks. Some (outside blocks)) around
behind (Return a) around = where_items (λ blocks. Some (outside blocks)) around
behind Opens around = where_items (λ blocks. Some (outside (false ∷ blocks))) around
behind (While a) around = where_items (λ blocks. Some (outside (false ∷ blocks))) around
behind (If a) around = where_items (λ blocks. Some (outside (true ∷ blocks))) around
behind Turns around = where_items turned around
behind Closes around = where_items shut around
behind (OpensCall a f) around = where_items (λ blocks. Some (in_arguments blocks)) around
behind (Argument a) around = where_arguments (λ blocks. Some (in_arguments blocks)) around
behind (LastArgument a) around = where_arguments (λ blocks. Some (outside blocks)) around
behind (OpensFunction f) around = where_items (λ blocks. Some (outside (false ∷ blocks))) around
behind (OpensParameters f) around = where_items (λ blocks. Some (in_parameters blocks)) around
behind (Parameter n) around = where_parameters (λ blocks. Some (in_parameters blocks)) around
behind (LastParameter n) around = where_parameters (λ blocks. Some (outside (false ∷ blocks))) around

-- What follows from what is open behind a line, where it may stand.
abbrev pub onward : {A : Type 0} → A → (Open → A) → Option Open → A
onward other next None = other
onward other next (Some around) = next around

-- Everything that these lines open, or that was open before them, closes as it must.
unfoldable pub balanced : List LineContent → Open → Bool
balanced [] (outside []) = true
balanced [] (outside (flag ∷ blocks)) = false
balanced [] (in_arguments blocks) = false
balanced [] (in_parameters blocks) = false
balanced (line ∷ lines) around = onward false (λ a. balanced lines a) (behind line around)

-- The lines of a page, with S and D.
abbrev pub trees : Sizes → List LineContent → List PageLine
trees sizes lines = map (line_tree sizes) lines

-- The lines with their levels.
unfoldable pub levels : Sizes → List LineContent → Open → List Indented
levels sizes [] around = []
levels sizes (line ∷ lines) around = indented (level_of (level_in around) line) (line_tree sizes line) ∷ onward [] (λ a. levels sizes lines a) (behind line around)
