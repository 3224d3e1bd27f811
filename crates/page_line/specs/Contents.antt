-- Contents: the line that a value of the enum stands for, and parts of its bytes, in the order in which they are laid.
use Rattle.std.specs.Prelude.{Bool, true, false, List, [], ◌∷◌, ◌++◌, ℕ, ◌<◌, ℤ}
use Rattle.words.specs.declared.Operator.{Operator}
use Rattle.words.specs.declared.Operator.TheVariants.{Add, Subtract, Multiply, Divide, Remainder, Less, Greater, LessOrEqual, GreaterOrEqual, Equal, NotEqual}
use Rattle.language.specs.Trees.{Expression, Place, Arguments, no_more, ◌also◌, empty, express, goto, abort, give_back}
use Rattle.language.specs.Decode.{expression_at, place_of, part_at}
use Rattle.language_shapes.specs.Shapes.{mark_tree}
use Rattle.page.specs.declared.Sizes.{Sizes}
use Rattle.page.specs.Lines.{PageLine, single, mark, opens, opens_while, opens_if, turns, closes, opens_call, argument, last_argument, opens_function, opens_parameters, parameter, last_parameter}
use Rattle.page.specs.Page.{blank, label_word, function_word, name, atom_word, place_word, parted}
use Rattle.page_line.specs.declared.LineAt.{LineAt}
use Rattle.page_line.specs.declared.LineAt.TheVariants.{Empty, Express, Goto, Abort, Mark, Opens, While, If, Turns, Closes, Return, OpensCall, Argument, LastArgument, OpensFunction, OpensParameters, Parameter, LastParameter}

-- The line of the definition.
abbrev pub line_tree : List ℤ → LineAt → PageLine
line_tree rows Empty = single empty
line_tree rows (Express row) = single (express (expression_at rows row))
line_tree rows (Goto l) = single (goto l)
line_tree rows Abort = single abort
line_tree rows (Mark m) = mark (mark_tree [] m)
line_tree rows Opens = opens
line_tree rows (While row) = opens_while (expression_at rows row)
line_tree rows (If row) = opens_if (expression_at rows row)
line_tree rows Turns = turns
line_tree rows Closes = closes
line_tree rows (Return value) = single (give_back (part_at rows value))
line_tree rows (OpensCall place f) = opens_call (place_of (expression_at rows place)) f
line_tree rows (Argument row) = argument (expression_at rows row)
line_tree rows (LastArgument row) = last_argument (expression_at rows row)
line_tree rows (OpensFunction f) = opens_function f
line_tree rows (OpensParameters f) = opens_parameters f
line_tree rows (Parameter word) = parameter word
line_tree rows (LastParameter word) = last_parameter word

-- Its expression is a row of the table, of which there are `count`.
abbrev pub LineInside : ℕ → LineAt → Type 0
LineInside count Empty = Unit {0}
LineInside count (Express row) = row < count
LineInside count (Goto l) = Unit {0}
LineInside count Abort = Unit {0}
LineInside count (Mark m) = Unit {0}
LineInside count Opens = Unit {0}
LineInside count (While row) = row < count
LineInside count (If row) = row < count
LineInside count Turns = Unit {0}
LineInside count Closes = Unit {0}
LineInside count (Return value) = value < count
LineInside count (OpensCall place f) = place < count
LineInside count (Argument row) = row < count
LineInside count (LastArgument row) = row < count
LineInside count (OpensFunction f) = Unit {0}
LineInside count (OpensParameters f) = Unit {0}
LineInside count (Parameter word) = Unit {0}
LineInside count (LastParameter word) = Unit {0}

-- Words behind others: with a blank before them.
abbrev pub led : List (List ℕ) → List ℕ
led [] = []
led (word ∷ words) = blank ∷ parted (word ∷ words)

-- `goto L7;`
abbrev pub goto_bytes : ℕ → List ℕ
goto_bytes l = (103 ∷ 111 ∷ 116 ∷ 111 ∷ 32 ∷ []) ++ (label_word l ++ (59 ∷ []))

-- `L7:;`
abbrev pub label_bytes : ℕ → List ℕ
label_bytes l = label_word l ++ (58 ∷ 59 ∷ [])

-- `X) {`
abbrev pub test_bytes : Sizes → Expression → List ℕ
test_bytes sizes e = atom_word sizes e ++ (41 ∷ 32 ∷ 123 ∷ [])

-- ` f7();`; a call with arguments has lines of its own.
abbrev pub called_bytes : ℕ → Arguments → List ℕ
called_bytes f no_more = (32 ∷ []) ++ (function_word f ++ (40 ∷ 41 ∷ 59 ∷ []))
called_bytes f (e also arguments) = []

-- `return X;`
abbrev pub return_bytes : Sizes → Expression → List ℕ
return_bytes sizes e = (114 ∷ 101 ∷ 116 ∷ 117 ∷ 114 ∷ 110 ∷ 32 ∷ []) ++ (atom_word sizes e ++ (59 ∷ []))

-- `P = f7(`
abbrev pub call_bytes : Sizes → Place → ℕ → List ℕ
call_bytes sizes p f = place_word sizes p ++ ((32 ∷ 61 ∷ 32 ∷ []) ++ (function_word f ++ (40 ∷ [])))

-- `int f7` and `int l7`, with what ends the line.
abbrev pub function_bytes : ℕ → List ℕ → List ℕ
function_bytes f ending = (105 ∷ 110 ∷ 116 ∷ 32 ∷ []) ++ (function_word f ++ ending)

abbrev pub parameter_bytes : Sizes → ℕ → List ℕ → List ℕ
parameter_bytes sizes word ending = (105 ∷ 110 ∷ 116 ∷ 32 ∷ []) ++ (name sizes word ++ ending)

-- An operator's first byte, and whether `=` stands behind it.
abbrev pub operator_byte : Operator → ℕ
operator_byte Add = 43
operator_byte Subtract = 45
operator_byte Multiply = 42
operator_byte Divide = 47
operator_byte Remainder = 37
operator_byte Less = 60
operator_byte Greater = 62
operator_byte LessOrEqual = 60
operator_byte GreaterOrEqual = 62
operator_byte Equal = 61
operator_byte NotEqual = 33

abbrev pub is_two_bytes : Operator → Bool
is_two_bytes Add = false
is_two_bytes Subtract = false
is_two_bytes Multiply = false
is_two_bytes Divide = false
is_two_bytes Remainder = false
is_two_bytes Less = false
is_two_bytes Greater = false
is_two_bytes LessOrEqual = true
is_two_bytes GreaterOrEqual = true
is_two_bytes Equal = true
is_two_bytes NotEqual = true
