-- Page: what stands in a line, and a page's bytes. "Print it in lines of 80 columns plus a newline: line number from 1 in five columns,
-- right-set; one blank; indent; statement; blanks to the end." A statement is its words, parted by single blanks.
use Rattle.std.specs.Prelude.{List, [], ◌∷◌, ◌++◌, ℕ, zero, suc, ◌+◌, ◌*◌, ◌-◌, min, ltb, length}
use Rattle.words.specs.Word.{pick}
use Rattle.words.specs.declared.Operator.{Operator}
use Rattle.words.specs.declared.Operator.TheVariants.{Add, Subtract, Multiply, Divide, Remainder, Less, Greater, LessOrEqual, GreaterOrEqual, Equal, NotEqual}
use Rattle.text_numbers.specs.Number.{digits, number_bytes}
use Rattle.text_lines.specs.Line.{newline}
use Rattle.language.specs.Trees.{Expression, constant, read, minus, not, binary, and, or, comma, conditional, assign, compound, prefix, postfix, call, Place, variable, element, no_more, ◌also◌, absent, present, Mark, case, default, label, Statement, empty, express, block, if_then, if_else, while, do_while, for, switch, break, continue, goto, guarded_if, guarded_do, abort, declare, give_back, Items}
use Rattle.page.specs.declared.Sizes.{Sizes}
use Rattle.page.specs.Lines.{PageLine, single, mark, opens, opens_while, opens_if, turns, closes, opens_call, argument, last_argument, opens_function, opens_parameters, parameter, last_parameter, Indented, indented, items_lines}

-- ---- bytes and words that are always the same

-- A blank, `;`, `:`, `,`, `[`, `]`, `(`, `)`.
abbrev pub blank : ℕ
blank = 32

abbrev pub semicolon : ℕ
semicolon = 59

abbrev pub colon : ℕ
colon = 58

abbrev pub comma_byte : ℕ
comma_byte = 44

abbrev pub opening_bracket : ℕ
opening_bracket = 91

abbrev pub closing_bracket : ℕ
closing_bracket = 93

abbrev pub opening_parenthesis : ℕ
opening_parenthesis = 40

abbrev pub closing_parenthesis : ℕ
closing_parenthesis = 41

-- "Names are v, a and t with a number"; "pages name these words l"; a label's begins with L, a function's with f.
abbrev pub variable_letter : ℕ
variable_letter = 118

abbrev pub array_letter : ℕ
array_letter = 97

abbrev pub declared_letter : ℕ
declared_letter = 108

abbrev pub temporary_letter : ℕ
temporary_letter = 116

abbrev pub label_letter : ℕ
label_letter = 76

abbrev pub function_letter : ℕ
function_letter = 102

-- `;` `{` `}` `=` `-` `if` `else` `while` `goto` `abort();` `int` `return`
abbrev pub empty_word : List ℕ
empty_word = 59 ∷ []

abbrev pub opening_word : List ℕ
opening_word = 123 ∷ []

abbrev pub closing_word : List ℕ
closing_word = 125 ∷ []

abbrev pub equals_word : List ℕ
equals_word = 61 ∷ []

abbrev pub minus_word : List ℕ
minus_word = 45 ∷ []

abbrev pub if_word : List ℕ
if_word = 105 ∷ 102 ∷ []

abbrev pub else_word : List ℕ
else_word = 101 ∷ 108 ∷ 115 ∷ 101 ∷ []

abbrev pub while_word : List ℕ
while_word = 119 ∷ 104 ∷ 105 ∷ 108 ∷ 101 ∷ []

abbrev pub goto_word : List ℕ
goto_word = 103 ∷ 111 ∷ 116 ∷ 111 ∷ []

abbrev pub abort_word : List ℕ
abort_word = 97 ∷ 98 ∷ 111 ∷ 114 ∷ 116 ∷ 40 ∷ 41 ∷ 59 ∷ []

abbrev pub int_word : List ℕ
int_word = 105 ∷ 110 ∷ 116 ∷ []

abbrev pub return_word : List ℕ
return_word = 114 ∷ 101 ∷ 116 ∷ 117 ∷ 114 ∷ 110 ∷ []

-- `+` `-` `*` `/` `%` `<` `>` `<=` `>=` `==` `!=`
abbrev pub operator_word : Operator → List ℕ
operator_word Add = 43 ∷ []
operator_word Subtract = 45 ∷ []
operator_word Multiply = 42 ∷ []
operator_word Divide = 47 ∷ []
operator_word Remainder = 37 ∷ []
operator_word Less = 60 ∷ []
operator_word Greater = 62 ∷ []
operator_word LessOrEqual = 60 ∷ 61 ∷ []
operator_word GreaterOrEqual = 62 ∷ 61 ∷ []
operator_word Equal = 61 ∷ 61 ∷ []
operator_word NotEqual = 33 ∷ 61 ∷ []

-- ---- the words of a line

-- A word with a byte behind it.
abbrev pub ended_by : ℕ → List ℕ → List ℕ
ended_by byte word = word ++ (byte ∷ [])

-- Words, the last one with a semicolon behind it.
unfoldable pub ended : List (List ℕ) → List (List ℕ)
ended [] = []
ended (word ∷ []) = ended_by semicolon word ∷ []
ended (word ∷ (second ∷ words)) = word ∷ ended (second ∷ words)

-- `L7`
abbrev pub label_word : ℕ → List ℕ
label_word l = label_letter ∷ digits l

-- `f7`, `f7(`, `f7()`
abbrev pub function_word : ℕ → List ℕ
function_word f = function_letter ∷ digits f

abbrev pub opened_word : ℕ → List ℕ
opened_word f = ended_by opening_parenthesis (function_word f)

abbrev pub called_word : ℕ → List ℕ
called_word f = ended_by closing_parenthesis (opened_word f)

-- S and D: variable numbers from S on are the declared words, "l, from 0", and from S+D on the temporaries, "t from 0".
module _ (sizes : Sizes) where
  abbrev pub first_temporary : ℕ
  first_temporary = sizes.store + sizes.declared

  -- `v7`, `l7`, `t7`
  unfoldable pub name : ℕ → List ℕ
  name i =
      pick (ltb i sizes.store) (variable_letter ∷ digits i)
      (pick (ltb i first_temporary) (declared_letter ∷ digits (i - sizes.store)) (temporary_letter ∷ digits (i - first_temporary)))

  -- An atom: a name, or a constant in decimal; "a negative constant" has no blank after its sign.
  abbrev pub atom_word : Expression → List ℕ
  atom_word (constant v) = number_bytes v
  atom_word (read (variable i)) = name i
  atom_word (read (element array e)) = []
  atom_word (minus e) = []
  atom_word (not e) = []
  atom_word (binary o a b) = []
  atom_word (and a b) = []
  atom_word (or a b) = []
  atom_word (comma a b) = []
  atom_word (conditional c a b) = []
  atom_word (assign p e) = []
  atom_word (compound o p e) = []
  atom_word (prefix o p) = []
  atom_word (postfix o p) = []
  atom_word (call f arguments) = []

  -- `v7`, `a7[X]`
  abbrev pub place_word : Place → List ℕ
  place_word (variable i) = name i
  place_word (element array e) = array_letter ∷ (digits array ++ (opening_bracket ∷ ended_by closing_bracket (atom_word e)))

  -- What is assigned. "Minus has a blank after its sign".
  abbrev pub value_words : Expression → List (List ℕ)
  value_words (constant v) = number_bytes v ∷ []
  value_words (read p) = place_word p ∷ []
  value_words (minus e) = minus_word ∷ (atom_word e ∷ [])
  value_words (binary o a b) = atom_word a ∷ (operator_word o ∷ (atom_word b ∷ []))
  value_words (not e) = []
  value_words (and a b) = []
  value_words (or a b) = []
  value_words (comma a b) = []
  value_words (conditional c a b) = []
  value_words (assign p e) = []
  value_words (compound o p e) = []
  value_words (prefix o p) = []
  value_words (postfix o p) = []
  value_words (call f no_more) = called_word f ∷ []
  value_words (call f (e also arguments)) = []

  -- `P = X;`
  abbrev pub assignment_words : Expression → List (List ℕ)
  assignment_words (assign p e) = place_word p ∷ (equals_word ∷ ended (value_words e))
  assignment_words (constant v) = []
  assignment_words (read p) = []
  assignment_words (minus e) = []
  assignment_words (binary o a b) = []
  assignment_words (not e) = []
  assignment_words (and a b) = []
  assignment_words (or a b) = []
  assignment_words (comma a b) = []
  assignment_words (conditional c a b) = []
  assignment_words (compound o p e) = []
  assignment_words (prefix o p) = []
  assignment_words (postfix o p) = []
  assignment_words (call f arguments) = []

  abbrev pub single_words : Statement → List (List ℕ)
  single_words empty = empty_word ∷ []
  single_words (express e) = assignment_words e
  single_words (goto l) = goto_word ∷ (ended_by semicolon (label_word l) ∷ [])
  single_words abort = abort_word ∷ []
  single_words (give_back (present e)) = return_word ∷ (ended_by semicolon (atom_word e) ∷ [])
  single_words (block is) = []
  single_words (if_then e on_true) = []
  single_words (if_else e on_true on_false) = []
  single_words (while e body) = []
  single_words (do_while body e) = []
  single_words (for first test action body) = []
  single_words (switch e is) = []
  single_words break = []
  single_words continue = []
  single_words (guarded_if arms) = []
  single_words (guarded_do arms) = []
  single_words (declare word e) = []
  single_words (give_back absent) = []

  -- `L7:;`
  abbrev pub mark_words : Mark → List (List ℕ)
  mark_words (label l) = ended_by semicolon (ended_by colon (label_word l)) ∷ []
  mark_words (case v) = []
  mark_words default = []

  -- `(X)`
  abbrev pub test_word : Expression → List ℕ
  test_word e = opening_parenthesis ∷ ended_by closing_parenthesis (atom_word e)

  abbrev pub line_words : PageLine → List (List ℕ)
  line_words (single s) = single_words s
  line_words (mark m) = mark_words m
  line_words opens = opening_word ∷ []
  line_words (opens_while e) = while_word ∷ (test_word e ∷ (opening_word ∷ []))
  line_words (opens_if e) = if_word ∷ (test_word e ∷ (opening_word ∷ []))
  line_words turns = closing_word ∷ (else_word ∷ (opening_word ∷ []))
  line_words closes = closing_word ∷ []
  line_words (opens_call p f) = place_word p ∷ (equals_word ∷ (opened_word f ∷ []))
  line_words (argument e) = ended_by comma_byte (atom_word e) ∷ []
  line_words (last_argument e) = ended_by semicolon (ended_by closing_parenthesis (atom_word e)) ∷ []
  line_words (opens_function f) = int_word ∷ (called_word f ∷ (opening_word ∷ []))
  line_words (opens_parameters f) = int_word ∷ (opened_word f ∷ [])
  line_words (parameter word) = int_word ∷ (ended_by comma_byte (name word) ∷ [])
  line_words (last_parameter word) = int_word ∷ (ended_by closing_parenthesis (name word) ∷ (opening_word ∷ []))

-- ---- bytes

unfoldable pub blanks : ℕ → List ℕ
blanks zero = []
blanks (suc n) = blank ∷ blanks n

-- Words with a blank between each two.
unfoldable pub parted : List (List ℕ) → List ℕ
parted [] = []
parted (word ∷ []) = word
parted (word ∷ (second ∷ words)) = word ++ (blank ∷ parted (second ∷ words))

unfoldable pub right_set : ℕ → List ℕ → List ℕ
right_set columns bytes = blanks (columns - length bytes) ++ bytes

unfoldable pub padded : ℕ → List ℕ → List ℕ
padded columns bytes = bytes ++ blanks (columns - length bytes)

-- "Indent is two columns for each enclosing block below row 0, 36 columns at most."
abbrev pub indent : ℕ → ℕ
indent level = min (2 * level) 36

module _ (sizes : Sizes) where
  unfoldable pub line_bytes : ℕ → Indented → List ℕ
  line_bytes number (indented level line) = padded 80 (right_set 5 (digits number) ++ (blank ∷ (blanks (indent level) ++ parted (line_words sizes line)))) ++ (newline ∷ [])

  -- Lines, the first with this number.
  unfoldable pub lines_bytes : ℕ → List Indented → List ℕ
  lines_bytes number [] = []
  lines_bytes number (line ∷ lines) = line_bytes number line ++ lines_bytes (number + 1) lines

  -- The page of a program with these items: row 0's block has no lines of its own.
  unfoldable pub page_bytes : Items → List ℕ
  page_bytes contents = lines_bytes 1 (items_lines 0 contents)
