-- Trees: the line of a page that each line read is, and that its bytes are those of the page. Declared word n is variable number S + n,
-- temporary n is S + D + n.
use Rattle.std.specs.Prelude.{◌≡◌, true, false, ◌⊎◌, ℕ, ◌+◌, ◌-◌, ◌≤◌, ◌<◌, ltb}
use Rattle.std.proofs.Math.Path.{refl, ap}
use Rattle.std.proofs.Common.{sym, ap₂, ◌∙◌, inl, inr}
use mathlib.Core.List.{List, [], ◌∷◌, ◌++◌, append_assoc}
use native.Mathlib.Omega.{arith}
use borrow.Author.Tests.{lt-ltb, le-ltb}
use Rattle.text_numbers.specs.Number.{digits}
use Rattle.language.specs.Trees.{Expression, constant, read, minus, binary, assign, call, Place, variable, element, no_more, present, label, empty, express, goto, abort, give_back}
use Rattle.page.specs.Lines.{PageLine, single, mark, opens, opens_while, opens_if, turns, closes, opens_call, argument, last_argument, opens_function, opens_parameters, parameter, last_parameter}
use Rattle.page.specs.declared.Sizes.{Sizes}
use Rattle.page.specs.Page.{operator_word, function_word, opened_word, first_temporary, name, atom_word, place_word, value_words, ended, parted, line_words}
use Rattle.page.proofs.Fits.{fits-constant, fits-variable, value-atom, value-element, value-minus, value-binary, value-call, fits-empty, fits-abort, fits-goto, fits-label, fits-store, fits-put, fits-return, fits-opens, fits-while, fits-if, fits-turns, fits-closes, fits-call, fits-argument, fits-last-argument, fits-function, fits-parameters, fits-parameter, fits-last-parameter}
use Rattle.page.proofs.Fits as page-fits
use Rattle.page_words.specs.Texts.{atom_text, element_text, value_text, assignment_text, line_text, AtomFits, NameFits, ElementFits, ValueFits, LineFits}
use Rattle.page_words.specs.declared.Names.{Names}
use Rattle.page_words.specs.declared.PageAtom.{PageAtom}
use Rattle.page_words.specs.declared.PageAtom.TheVariants.{Constant, Variable, Declared, Temporary}
use Rattle.page_words.specs.declared.Value.{Value}
use Rattle.page_words.specs.declared.Value.TheVariants.{Single, Element, Minus, Binary, Call}
use Rattle.page_words.specs.declared.LineContent.{LineContent}
use Rattle.page_words.specs.declared.LineContent.TheVariants.{Empty, Abort, Goto, Label, Store, Put, Opens, While, If, Turns, Closes, Return, OpensCall, Argument, LastArgument, OpensFunction, OpensParameters, Parameter, LastParameter}

-- S and D.
module _ (sizes : Sizes) where
  -- A constant is no place; no line that fits has one there.
  abbrev pub place_tree : PageAtom → Place
  place_tree (Constant v) = variable 0
  place_tree (Variable n) = variable n
  place_tree (Declared n) = variable (sizes.store + n)
  place_tree (Temporary n) = variable (first_temporary sizes + n)

  abbrev pub atom_tree : PageAtom → Expression
  atom_tree (Constant v) = constant v
  atom_tree (Variable n) = read (variable n)
  atom_tree (Declared n) = read (variable (sizes.store + n))
  atom_tree (Temporary n) = read (variable (first_temporary sizes + n))

  abbrev pub value_tree : Value → Expression
  value_tree (Single a) = atom_tree a
  value_tree (Element array index) = read (element array (atom_tree index))
  value_tree (Minus a) = minus (atom_tree a)
  value_tree (Binary o a b) = binary o (atom_tree a) (atom_tree b)
  value_tree (Call f) = call f no_more

  abbrev pub line_tree : LineContent → PageLine
  line_tree Empty = single empty
  line_tree Abort = single abort
  line_tree (Goto l) = single (goto l)
  line_tree (Label l) = mark (label l)
  line_tree (Store a v) = single (express (assign (place_tree a) (value_tree v)))
  line_tree (Put array index a) = single (express (assign (element array (atom_tree index)) (atom_tree a)))
  line_tree Opens = opens
  line_tree (While a) = opens_while (atom_tree a)
  line_tree (If a) = opens_if (atom_tree a)
  line_tree Turns = turns
  line_tree Closes = closes
  line_tree (Return a) = single (give_back (present (atom_tree a)))
  line_tree (OpensCall a f) = opens_call (place_tree a) f
  line_tree (Argument a) = argument (atom_tree a)
  line_tree (LastArgument a) = last_argument (atom_tree a)
  line_tree (OpensFunction f) = opens_function f
  line_tree (OpensParameters f) = opens_parameters f
  line_tree (Parameter n) = parameter (sizes.store + n)
  line_tree (LastParameter n) = last_parameter (sizes.store + n)

-- ---- laws

-- The names are those of a store with these sizes.
pub record Within (sizes : Sizes) (names : Names) : Type 0 where
  pub variables_inside : names.variables ≤ sizes.store
  pub same_declared : names.declared ≡ sizes.declared

module _ (sizes : Sizes) (names : Names) (within : Within sizes names) where
  temporary_word : (n : ℕ) → name sizes (first_temporary sizes + n) ≡ 116 ∷ digits n
  unfolding name
  temporary_word n =
      let first = first_temporary sizes in
      let back : first + n - first ≡ n = omega arith in
      rw (le-ltb (first + n) sizes.store (omega arith), le-ltb (first + n) first (omega arith), back)

  declared-word : (n : ℕ) → n < names.declared → name sizes (sizes.store + n) ≡ 108 ∷ digits n
  unfolding name
  declared-word n h =
      let number = sizes.store + n in
      let back : number - sizes.store ≡ n = omega arith in
      rw (le-ltb number sizes.store (omega arith), lt-ltb number (first_temporary sizes) (omega (arith, within.same_declared)), back)

  variable-word : (n : ℕ) → n < names.variables → name sizes n ≡ 118 ∷ digits n
  unfolding name
  variable-word n h = rw (lt-ltb n sizes.store (omega (arith, within.variables_inside)))

  atom-word : (a : PageAtom) → AtomFits names a → atom_word sizes (atom_tree sizes a) ≡ atom_text a
  atom-word (Constant v) h = refl
  atom-word (Variable n) h = variable-word n h
  atom-word (Declared n) h = declared-word n h
  atom-word (Temporary n) h = temporary_word n

  name-word : (a : PageAtom) → NameFits names a → place_word sizes (place_tree sizes a) ≡ atom_text a
  name-word (Constant v) h = absurd h
  name-word (Variable n) h = variable-word n h
  name-word (Declared n) h = declared-word n h
  name-word (Temporary n) h = temporary_word n

  element-word : (array : ℕ) (a : PageAtom) → ElementFits names array a → place_word sizes (element array (atom_tree sizes a)) ≡ element_text array a
  element-word array a h =
      ap (λ (l : List ℕ). 97 ∷ (digits array ++ (91 ∷ (l ++ (93 ∷ []))))) (atom-word a h.1) ∙ ap (λ (l : List ℕ). 97 ∷ l) (sym (append_assoc (digits array) (91 ∷ atom_text a) (93 ∷ [])))

  assigned-atom : (word : List ℕ) (a : PageAtom) → AtomFits names a → parted (word ∷ ((61 ∷ []) ∷ ended (value_words sizes (atom_tree sizes a)))) ≡ assignment_text word (atom_text a)
  unfolding parted ended
  assigned-atom word (Constant v) h = refl
  assigned-atom word (Variable n) h = rw (variable-word n h)
  assigned-atom word (Declared n) h = rw (declared-word n h)
  assigned-atom word (Temporary n) h = rw (temporary_word n)

  called-word : (f : ℕ) → (opened_word f ++ (41 ∷ [])) ≡ 102 ∷ (digits f ++ (40 ∷ 41 ∷ []))
  called-word f = append_assoc (function_word f) (40 ∷ []) (41 ∷ [])

  assigned : (word : List ℕ) (v : Value) → ValueFits names v → parted (word ∷ ((61 ∷ []) ∷ ended (value_words sizes (value_tree sizes v)))) ≡ assignment_text word (value_text v)
  unfolding parted ended
  assigned word (Single a) h = assigned-atom word a h
  assigned word (Element array a) h = ap (λ (l : List ℕ). word ++ (32 ∷ (61 ∷ (32 ∷ (l ++ (59 ∷ [])))))) (element-word array a h)
  assigned word (Minus a) h = rw (atom-word a h)
  assigned word (Binary o a b) h =
      rw (atom-word a h.0, atom-word b h.1)
      (ap (λ (l : List ℕ). word ++ (32 ∷ (61 ∷ (32 ∷ l))))
      (sym (append_assoc (atom_text a) (32 ∷ (operator_word o ++ (32 ∷ atom_text b))) (59 ∷ [])
      ∙ ap (λ (l : List ℕ). atom_text a ++ (32 ∷ l)) (append_assoc (operator_word o) (32 ∷ atom_text b) (59 ∷ [])))))
  assigned word (Call f) h = ap (λ (l : List ℕ). word ++ (32 ∷ (61 ∷ (32 ∷ (l ++ (59 ∷ [])))))) (called-word f)

  -- The bytes of a line are its words on the page, parted by blanks.
  pub line-words : (line : LineContent) → LineFits names line → parted (line_words sizes (line_tree sizes line)) ≡ line_text line
  unfolding parted ended
  line-words Empty h = refl
  line-words Abort h = refl
  line-words (Goto l) h = refl
  line-words (Label l) h = ap (λ (bytes : List ℕ). 76 ∷ bytes) (append_assoc (digits l) (58 ∷ []) (59 ∷ []))
  line-words (Store a v) h = ap (λ (l : List ℕ). parted (l ∷ ((61 ∷ []) ∷ ended (value_words sizes (value_tree sizes v))))) (name-word a h.0) ∙ assigned (atom_text a) v h.1
  line-words (Put array index a) h =
      ap (λ (l : List ℕ). parted (l ∷ ((61 ∷ []) ∷ ended (value_words sizes (atom_tree sizes a))))) (element-word array index h.0) ∙ assigned-atom (element_text array index) a h.1
  line-words Opens h = refl
  line-words (While a) h = rw (atom-word a h) (ap (λ (l : List ℕ). 119 ∷ 104 ∷ 105 ∷ 108 ∷ 101 ∷ 32 ∷ 40 ∷ l) (append_assoc (atom_text a) (41 ∷ []) (32 ∷ 123 ∷ [])))
  line-words (If a) h = rw (atom-word a h) (ap (λ (l : List ℕ). 105 ∷ 102 ∷ 32 ∷ 40 ∷ l) (append_assoc (atom_text a) (41 ∷ []) (32 ∷ 123 ∷ [])))
  line-words Turns h = refl
  line-words Closes h = refl
  line-words (Return a) h = rw (atom-word a h)
  line-words (OpensCall a f) h = rw (name-word a h.0)
  line-words (Argument a) h = rw (atom-word a h)
  line-words (LastArgument a) h = rw (atom-word a h) (append_assoc (atom_text a) (41 ∷ []) (59 ∷ []))
  line-words (OpensFunction f) h = ap (λ (l : List ℕ). 105 ∷ 110 ∷ 116 ∷ 32 ∷ (l ++ (32 ∷ 123 ∷ []))) (called-word f) ∙ ap (λ (l : List ℕ). 105 ∷ 110 ∷ 116 ∷ 32 ∷ 102 ∷ l) (append_assoc (digits f) (40 ∷ 41 ∷ []) (32 ∷ 123 ∷ []))
  line-words (OpensParameters f) h = refl
  line-words (Parameter n) h = rw (declared-word n h)
  line-words (LastParameter n) h = rw (declared-word n h) (ap (λ (l : List ℕ). 105 ∷ 110 ∷ 116 ∷ 32 ∷ 108 ∷ l) (append_assoc (digits n) (41 ∷ []) (32 ∷ 123 ∷ [])))

  -- ---- it fits, as page/Fits has it

  -- The variables, and the declared words and temporaries behind the store.
  abbrev pub Named : ℕ → Type 0
  Named i = (i < names.variables) ⊎ ((sizes.store ≤ i) × (i < sizes.store + (names.declared + names.temporaries)))

  -- The declared words.
  abbrev pub Declares : ℕ → Type 0
  Declares i = (sizes.store ≤ i) × (i < first_temporary sizes)

  atom_fits : (a : PageAtom) → AtomFits names a → page-fits.AtomFits Named names.arrays (atom_tree sizes a)
  atom_fits (Constant v) h = fits-constant h
  atom_fits (Variable n) h = fits-variable (inl h)
  atom_fits (Declared n) h = fits-variable {i = sizes.store + n} (inr (omega arith, omega arith))
  atom_fits (Temporary n) h = fits-variable {i = first_temporary sizes + n} (inr (omega arith, omega (arith, within.same_declared)))

  value-fits : (v : Value) → ValueFits names v → page-fits.ValueFits Named names.arrays (value_tree sizes v)
  value-fits (Single a) h = value-atom (atom_fits a h)
  value-fits (Element array a) h = value-element h.0 (atom_fits a h.1)
  value-fits (Minus a) h = value-minus (atom_fits a h)
  value-fits (Binary o a b) h = value-binary (atom_fits a h.0) (atom_fits b h.1)
  value-fits (Call f) h = value-call h

  pub line-fits : (line : LineContent) → LineFits names line → page-fits.LineFits Named names.arrays Declares (line_tree sizes line)
  line-fits Empty h = fits-empty
  line-fits Abort h = fits-abort
  line-fits (Goto l) h = fits-goto h
  line-fits (Label l) h = fits-label h
  line-fits (Store (Constant v) value) h = absurd h.0
  line-fits (Store (Variable n) v) h = fits-store (inl h.0) (value-fits v h.1)
  line-fits (Store (Declared n) v) h = let less = h.0 in fits-store {i = sizes.store + n} (inr (omega arith, omega arith)) (value-fits v h.1)
  line-fits (Store (Temporary n) v) h = let less = h.0 in fits-store {i = first_temporary sizes + n} (inr (omega arith, omega (arith, within.same_declared))) (value-fits v h.1)
  line-fits (Put array index a) h = fits-put h.0.0 (atom_fits index h.0.1) (atom_fits a h.1)
  line-fits Opens h = fits-opens
  line-fits (While a) h = fits-while (atom_fits a h)
  line-fits (If a) h = fits-if (atom_fits a h)
  line-fits Turns h = fits-turns
  line-fits Closes h = fits-closes
  line-fits (Return a) h = fits-return (atom_fits a h)
  line-fits (OpensCall (Constant v) f) h = absurd h.0
  line-fits (OpensCall (Variable n) f) h = fits-call (inl h.0) h.1
  line-fits (OpensCall (Declared n) f) h = let less = h.0 in fits-call {i = sizes.store + n} (inr (omega arith, omega arith)) h.1
  line-fits (OpensCall (Temporary n) f) h = let less = h.0 in fits-call {i = first_temporary sizes + n} (inr (omega arith, omega (arith, within.same_declared))) h.1
  line-fits (Argument a) h = fits-argument (atom_fits a h)
  line-fits (LastArgument a) h = fits-last-argument (atom_fits a h)
  line-fits (OpensFunction f) h = fits-function h
  line-fits (OpensParameters f) h = fits-parameters h
  line-fits (Parameter n) h = fits-parameter {word = sizes.store + n} (omega arith, omega (arith, within.same_declared))
  line-fits (LastParameter n) h = fits-last-parameter {word = sizes.store + n} (omega arith, omega (arith, within.same_declared))
