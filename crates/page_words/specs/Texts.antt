-- Texts: the bytes of each line without the blanks around them, and which lines fit: names of the header's, label numbers "0 to 40,979", and
-- so those of functions,
-- constants that are words.
use Rattle.std.specs.Prelude.{List, [], ◌∷◌, ◌++◌, ℕ, ◌^◌, ◌<◌, ℤ}
use Rattle.std.specs.Int.Signed.{mag}
use Rattle.text_numbers.specs.Number.{digits, number_bytes}
use Rattle.page.specs.Page.{operator_word, ended_by}
use Rattle.page_words.specs.declared.Names.{Names}
use Rattle.page_words.specs.declared.PageAtom.{PageAtom}
use Rattle.page_words.specs.declared.PageAtom.TheVariants.{Constant, Variable, Declared, Temporary}
use Rattle.page_words.specs.declared.Value.{Value}
use Rattle.page_words.specs.declared.Value.TheVariants.{Single, Element, Minus, Binary, Call}
use Rattle.page_words.specs.declared.LineContent.{LineContent}
use Rattle.page_words.specs.declared.LineContent.TheVariants.{Empty, Abort, Goto, Label, Store, Put, Opens, While, If, Turns, Closes, Return, OpensCall, Argument, LastArgument, OpensFunction, OpensParameters, Parameter, LastParameter}

abbrev pub atom_text : PageAtom → List ℕ
atom_text (Constant v) = number_bytes v
atom_text (Variable n) = 118 ∷ digits n
atom_text (Declared n) = 108 ∷ digits n
atom_text (Temporary n) = 116 ∷ digits n

-- `a7[X]`
abbrev pub element_text : ℕ → PageAtom → List ℕ
element_text array index = (97 ∷ []) ++ ((digits array ++ (91 ∷ atom_text index)) ++ (93 ∷ []))

abbrev pub value_text : Value → List ℕ
value_text (Single a) = atom_text a
value_text (Element array index) = element_text array index
value_text (Minus a) = (45 ∷ []) ++ (32 ∷ atom_text a)
value_text (Binary o a b) = atom_text a ++ (32 ∷ (operator_word o ++ (32 ∷ atom_text b)))
value_text (Call f) = (102 ∷ []) ++ (digits f ++ (40 ∷ 41 ∷ []))

-- `P = X;`
abbrev pub assignment_text : List ℕ → List ℕ → List ℕ
assignment_text target value = target ++ ((32 ∷ 61 ∷ 32 ∷ []) ++ (value ++ (59 ∷ [])))

abbrev pub line_text : LineContent → List ℕ
line_text Empty = 59 ∷ []
line_text Abort = 97 ∷ 98 ∷ 111 ∷ 114 ∷ 116 ∷ 40 ∷ 41 ∷ 59 ∷ []
line_text (Goto l) = (103 ∷ 111 ∷ 116 ∷ 111 ∷ 32 ∷ 76 ∷ []) ++ (digits l ++ (59 ∷ []))
line_text (Label l) = (76 ∷ []) ++ (digits l ++ (58 ∷ 59 ∷ []))
line_text (Store a v) = assignment_text (atom_text a) (value_text v)
line_text (Put array index a) = assignment_text (element_text array index) (atom_text a)
line_text Opens = 123 ∷ []
line_text (While a) = (119 ∷ 104 ∷ 105 ∷ 108 ∷ 101 ∷ 32 ∷ 40 ∷ []) ++ (atom_text a ++ (41 ∷ 32 ∷ 123 ∷ []))
line_text (If a) = (105 ∷ 102 ∷ 32 ∷ 40 ∷ []) ++ (atom_text a ++ (41 ∷ 32 ∷ 123 ∷ []))
line_text Turns = 125 ∷ 32 ∷ 101 ∷ 108 ∷ 115 ∷ 101 ∷ 32 ∷ 123 ∷ []
line_text Closes = 125 ∷ []
line_text (Return a) = (114 ∷ 101 ∷ 116 ∷ 117 ∷ 114 ∷ 110 ∷ 32 ∷ []) ++ (atom_text a ++ (59 ∷ []))
line_text (OpensCall a f) = atom_text a ++ ((32 ∷ 61 ∷ 32 ∷ 102 ∷ []) ++ (digits f ++ (40 ∷ [])))
line_text (Argument a) = [] ++ (atom_text a ++ (44 ∷ []))
line_text (LastArgument a) = [] ++ (atom_text a ++ (41 ∷ 59 ∷ []))
line_text (OpensFunction f) = (105 ∷ 110 ∷ 116 ∷ 32 ∷ 102 ∷ []) ++ (digits f ++ (40 ∷ 41 ∷ 32 ∷ 123 ∷ []))
line_text (OpensParameters f) = (105 ∷ 110 ∷ 116 ∷ 32 ∷ 102 ∷ []) ++ (digits f ++ (40 ∷ []))
line_text (Parameter n) = (105 ∷ 110 ∷ 116 ∷ 32 ∷ 108 ∷ []) ++ (digits n ++ (44 ∷ []))
line_text (LastParameter n) = (105 ∷ 110 ∷ 116 ∷ 32 ∷ 108 ∷ []) ++ (digits n ++ (41 ∷ 32 ∷ 123 ∷ []))

module _ (names : Names) where
  abbrev pub AtomFits : PageAtom → Type 0
  AtomFits (Constant v) = mag v < 2 ^ 31
  AtomFits (Variable n) = n < names.variables
  AtomFits (Declared n) = n < names.declared
  AtomFits (Temporary n) = n < names.temporaries

  abbrev pub NameFits : PageAtom → Type 0
  NameFits (Constant v) = ⊥
  NameFits (Variable n) = n < names.variables
  NameFits (Declared n) = n < names.declared
  NameFits (Temporary n) = n < names.temporaries

  abbrev pub ElementFits : ℕ → PageAtom → Type 0
  ElementFits array index = (array < names.arrays) × AtomFits index

  abbrev pub ValueFits : Value → Type 0
  ValueFits (Single a) = AtomFits a
  ValueFits (Element array index) = ElementFits array index
  ValueFits (Minus a) = AtomFits a
  ValueFits (Binary o a b) = AtomFits a × AtomFits b
  ValueFits (Call f) = f < 40980

  abbrev pub LineFits : LineContent → Type 0
  LineFits Empty = Unit
  LineFits Abort = Unit
  LineFits (Goto l) = l < 40980
  LineFits (Label l) = l < 40980
  LineFits (Store a v) = NameFits a × ValueFits v
  LineFits (Put array index a) = ElementFits array index × AtomFits a
  LineFits Opens = Unit
  LineFits (While a) = AtomFits a
  LineFits (If a) = AtomFits a
  LineFits Turns = Unit
  LineFits Closes = Unit
  LineFits (Return a) = AtomFits a
  LineFits (OpensCall a f) = NameFits a × (f < 40980)
  LineFits (Argument a) = AtomFits a
  LineFits (LastArgument a) = AtomFits a
  LineFits (OpensFunction f) = f < 40980
  LineFits (OpensParameters f) = f < 40980
  LineFits (Parameter n) = n < names.declared
  LineFits (LastParameter n) = n < names.declared
