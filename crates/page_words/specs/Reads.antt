-- Reads: the line that bytes are, or that they are malformed.
use Rattle.std.specs.Prelude.{Bool, true, false, List, [], ◌∷◌, ◌++◌, ℕ, ◌+◌, eqb, ltb, ℤ, length, take, drop, None, Some, Option}
use Rattle.std.specs.Option.{option_map}
use Rattle.words.specs.declared.Operator.{Operator}
use Rattle.words.specs.Word.{pick}
use Rattle.words.specs.declared.Operator.TheVariants.{Add, Subtract, Multiply, Divide, Remainder, Less, Greater, LessOrEqual, GreaterOrEqual, Equal, NotEqual}
use Rattle.text_numbers.specs.Number.{natural_of, number_of}
use Rattle.text_lines.specs.Reader.{piece_end}
use Rattle.page_words.specs.Compare.{is_word, is_framed, middle}
use Rattle.page_words.specs.declared.Names.{Names}
use Rattle.page_words.specs.declared.PageAtom.{PageAtom}
use Rattle.page_words.specs.declared.PageAtom.TheVariants.{Constant, Variable, Declared, Temporary}
use Rattle.page_words.specs.declared.Value.{Value}
use Rattle.page_words.specs.declared.Value.TheVariants.{Single, Element, Minus, Binary, Call}
use Rattle.page_words.specs.declared.LineContent.{LineContent}
use Rattle.page_words.specs.declared.LineContent.TheVariants.{Empty, Abort, Goto, Label, Store, Put, Opens, While, If, Turns, Closes, Return, OpensCall, Argument, LastArgument, OpensFunction, OpensParameters, Parameter, LastParameter}

-- ---- names

abbrev pub below_of : ℕ → Option ℕ → Option ℕ
below_of bound None = None
below_of bound (Some n) = pick (ltb n bound) (Some n) None

-- A number below a bound.
unfoldable pub number_read : ℕ → List ℕ → Option ℕ
number_read bound word = below_of bound (natural_of word)

abbrev pub variable_of : Option ℕ → Option PageAtom
variable_of = option_map Variable

abbrev pub declared_word_of : Option ℕ → Option PageAtom
declared_word_of = option_map Declared

abbrev pub temporary_of : Option ℕ → Option PageAtom
temporary_of = option_map Temporary

abbrev pub constant_of : Option ℤ → Option PageAtom
constant_of = option_map Constant

abbrev pub name_of : Option PageAtom → Option PageAtom
name_of None = None
name_of (Some (Constant v)) = None
name_of (Some (Variable n)) = Some (Variable n)
name_of (Some (Declared n)) = Some (Declared n)
name_of (Some (Temporary n)) = Some (Temporary n)

abbrev pub element_of : Option ℕ → Option PageAtom → Option (ℕ × PageAtom)
element_of None index = None
element_of (Some array) None = None
element_of (Some array) (Some index) = Some (array, index)

-- ---- values

unfoldable pub operator_of_one : ℕ → Option Operator
operator_of_one byte =
    pick (eqb byte 43) (Some Add) (pick (eqb byte 45) (Some Subtract) (pick (eqb byte 42) (Some Multiply)
    (pick (eqb byte 47) (Some Divide) (pick (eqb byte 37) (Some Remainder) (pick (eqb byte 60) (Some Less)
    (pick (eqb byte 62) (Some Greater) None))))))

-- Operators that end in `=`, by their first byte.
unfoldable pub operator_of_two : ℕ → Option Operator
operator_of_two byte =
    pick (eqb byte 60) (Some LessOrEqual) (pick (eqb byte 62) (Some GreaterOrEqual) (pick (eqb byte 61) (Some Equal)
    (pick (eqb byte 33) (Some NotEqual) None)))

unfoldable pub operator_read : List ℕ → Option Operator
operator_read [] = None
operator_read (first ∷ []) = operator_of_one first
operator_read (first ∷ (second ∷ [])) = pick (eqb second 61) (operator_of_two first) None
operator_read (first ∷ (second ∷ (third ∷ others))) = None

-- An element, or else an atom.
abbrev pub single_of : Option (ℕ × PageAtom) → Option PageAtom → Option Value
single_of (Some (array, index)) atom = Some (Element array index)
single_of None (Some a) = Some (Single a)
single_of None None = None

abbrev pub called_of : Option ℕ → Option Value
called_of = option_map Call

abbrev pub minus_of : Option PageAtom → Option Value
minus_of = option_map Minus

abbrev pub binary_of : Option Operator → Option PageAtom → Option PageAtom → Option Value
binary_of None left right = None
binary_of (Some o) None right = None
binary_of (Some o) (Some a) None = None
binary_of (Some o) (Some a) (Some b) = Some (Binary o a b)

-- ---- lines

abbrev pub goto_of : Option ℕ → Option LineContent
goto_of = option_map Goto

abbrev pub label_of : Option ℕ → Option LineContent
label_of = option_map Label

abbrev pub if_of : Option PageAtom → Option LineContent
if_of = option_map If

abbrev pub while_of : Option PageAtom → Option LineContent
while_of = option_map While

abbrev pub return_of : Option PageAtom → Option LineContent
return_of = option_map Return

abbrev pub call_of : Option PageAtom → Option ℕ → Option LineContent
call_of None number = None
call_of (Some a) None = None
call_of (Some a) (Some f) = Some (OpensCall a f)

abbrev pub argument_of : Option PageAtom → Option LineContent
argument_of = option_map Argument

abbrev pub last_argument_of : Option PageAtom → Option LineContent
last_argument_of = option_map LastArgument

abbrev pub function_of : Option ℕ → Option LineContent
function_of = option_map OpensFunction

abbrev pub parameters_of : Option ℕ → Option LineContent
parameters_of = option_map OpensParameters

abbrev pub parameter_of : Option ℕ → Option LineContent
parameter_of = option_map Parameter

abbrev pub last_parameter_of : Option ℕ → Option LineContent
last_parameter_of = option_map LastParameter

-- A name takes any value,
abbrev pub store_of : Option PageAtom → Option Value → Option LineContent
store_of None value = None
store_of (Some a) None = None
store_of (Some a) (Some v) = Some (Store a v)

-- an element an atom.
abbrev pub put_of : ℕ → PageAtom → Option Value → Option LineContent
put_of array index None = None
put_of array index (Some (Single a)) = Some (Put array index a)
put_of array index (Some (Element other at)) = None
put_of array index (Some (Minus a)) = None
put_of array index (Some (Binary o a b)) = None
put_of array index (Some (Call f)) = None

abbrev pub assigned_of : Option (ℕ × PageAtom) → Option PageAtom → Option Value → Option LineContent
assigned_of (Some (array, index)) name value = put_of array index value
assigned_of None name value = store_of name value

module _ (names : Names) where
  -- `v7`, `l7`, `t7`, `-7`
  unfoldable pub atom_read : List ℕ → Option PageAtom
  atom_read [] = None
  atom_read (first ∷ others) =
      pick (eqb first 118) (variable_of (number_read names.variables others))
      (pick (eqb first 108) (declared_word_of (number_read names.declared others))
      (pick (eqb first 116) (temporary_of (number_read names.temporaries others)) (constant_of (number_of (first ∷ others)))))

  -- An element without its letter and its last bracket, told by where its first bracket stands.
  unfoldable pub element_in : List ℕ → Option (ℕ × PageAtom)
  element_in inner =
      pick (eqb (piece_end 91 inner) (length inner)) None
      (element_of (number_read names.arrays (take (piece_end 91 inner) inner)) (atom_read (drop (piece_end 91 inner + 1) inner)))

  -- `a7[X]`
  unfoldable pub element_read : List ℕ → Option (ℕ × PageAtom)
  element_read word = pick (is_framed (97 ∷ []) (93 ∷ []) word) (element_in (middle 1 1 word)) None

  -- `X op Y` by X, and what stands behind its blank.
  unfoldable pub binary_read : List ℕ → List ℕ → Option Value
  binary_read first rest =
      pick (eqb (piece_end 32 rest) (length rest)) None
      (binary_of (operator_read (take (piece_end 32 rest) rest)) (atom_read first) (atom_read (drop (piece_end 32 rest + 1) rest)))

  -- `- X` or `X op Y`
  unfoldable pub several_read : List ℕ → List ℕ → Option Value
  several_read first rest = pick (is_word (45 ∷ []) first) (minus_of (atom_read rest)) (binary_read first rest)

  -- `f7()`, an element, or an atom
  unfoldable pub single_read : List ℕ → Option Value
  single_read text =
      pick (is_framed (102 ∷ []) (40 ∷ 41 ∷ []) text) (called_of (number_read 40980 (middle 1 2 text))) (single_of (element_read text) (atom_read text))

  -- What is assigned, without its semicolon.
  unfoldable pub value_read : List ℕ → Option Value
  value_read text =
      pick (eqb (piece_end 32 text) (length text)) (single_read text)
      (several_read (take (piece_end 32 text) text) (drop (piece_end 32 text + 1) text))

  -- `P = fN(` or `P = X;`: the target's bytes, and the rest with its blank, equals sign and parenthesis or semicolon.
  unfoldable pub assignment_of : List ℕ → List ℕ → Option LineContent
  assignment_of target rest =
      pick (is_framed (32 ∷ 61 ∷ 32 ∷ 102 ∷ []) (40 ∷ []) rest) (call_of (name_of (atom_read target)) (number_read 40980 (middle 4 1 rest)))
      (pick (is_framed (32 ∷ 61 ∷ 32 ∷ []) (59 ∷ []) rest) (assigned_of (element_read target) (name_of (atom_read target)) (value_read (middle 3 1 rest))) None)

  -- `X,`, `X);`
  unfoldable pub argument_read : List ℕ → Option LineContent
  argument_read text =
      pick (is_framed [] (44 ∷ []) text) (argument_of (atom_read (middle 0 1 text)))
      (pick (is_framed [] (41 ∷ 59 ∷ []) text) (last_argument_of (atom_read (middle 0 2 text))) None)

  -- An argument has no blank.
  unfoldable pub assignment_read : List ℕ → Option LineContent
  assignment_read text = pick (eqb (piece_end 32 text) (length text)) (argument_read text) (assignment_of (take (piece_end 32 text) text) (drop (piece_end 32 text) text))

  -- `if (X) {`, `while (X) {`, or an assignment or argument
  unfoldable pub test_read : List ℕ → Option LineContent
  test_read text =
      pick (is_framed (105 ∷ 102 ∷ 32 ∷ 40 ∷ []) (41 ∷ 32 ∷ 123 ∷ []) text) (if_of (atom_read (middle 4 3 text)))
      (pick (is_framed (119 ∷ 104 ∷ 105 ∷ 108 ∷ 101 ∷ 32 ∷ 40 ∷ []) (41 ∷ 32 ∷ 123 ∷ []) text) (while_of (atom_read (middle 7 3 text))) (assignment_read text))

  -- `int lN) {`, `int lN,`, or one of those
  unfoldable pub parameter_read : List ℕ → Option LineContent
  parameter_read text =
      pick (is_framed (105 ∷ 110 ∷ 116 ∷ 32 ∷ 108 ∷ []) (41 ∷ 32 ∷ 123 ∷ []) text) (last_parameter_of (number_read names.declared (middle 5 3 text)))
      (pick (is_framed (105 ∷ 110 ∷ 116 ∷ 32 ∷ 108 ∷ []) (44 ∷ []) text) (parameter_of (number_read names.declared (middle 5 1 text))) (test_read text))

  -- `return X;`, `int fN() {`, `int fN(`, or one of those
  unfoldable pub function_read : List ℕ → Option LineContent
  function_read text =
      pick (is_framed (114 ∷ 101 ∷ 116 ∷ 117 ∷ 114 ∷ 110 ∷ 32 ∷ []) (59 ∷ []) text) (return_of (atom_read (middle 7 1 text)))
      (pick (is_framed (105 ∷ 110 ∷ 116 ∷ 32 ∷ 102 ∷ []) (40 ∷ 41 ∷ 32 ∷ 123 ∷ []) text) (function_of (number_read 40980 (middle 5 4 text)))
      (pick (is_framed (105 ∷ 110 ∷ 116 ∷ 32 ∷ 102 ∷ []) (40 ∷ []) text) (parameters_of (number_read 40980 (middle 5 1 text))) (parameter_read text)))

  -- `goto LN;`, `LN:;`, or one of those
  unfoldable pub jump_read : List ℕ → Option LineContent
  jump_read text =
      pick (is_framed (103 ∷ 111 ∷ 116 ∷ 111 ∷ 32 ∷ 76 ∷ []) (59 ∷ []) text) (goto_of (number_read 40980 (middle 6 1 text)))
      (pick (is_framed (76 ∷ []) (58 ∷ 59 ∷ []) text) (label_of (number_read 40980 (middle 1 2 text))) (function_read text))

  -- One fixed word, or one of those.
  unfoldable pub line_read : List ℕ → Option LineContent
  line_read text =
      pick (is_word (59 ∷ []) text) (Some Empty) (pick (is_word (123 ∷ []) text) (Some Opens) (pick (is_word (125 ∷ []) text) (Some Closes)
      (pick (is_word (125 ∷ 32 ∷ 101 ∷ 108 ∷ 115 ∷ 101 ∷ 32 ∷ 123 ∷ []) text) (Some Turns)
      (pick (is_word (97 ∷ 98 ∷ 111 ∷ 114 ∷ 116 ∷ 40 ∷ 41 ∷ 59 ∷ []) text) (Some Abort) (jump_read text)))))
