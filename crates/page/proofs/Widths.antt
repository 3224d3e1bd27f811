-- Widths: every line has 80 columns and a newline. The widest statement is `t8191 = -2147483648 <= -2147483648;`, 35 columns; before it
-- stand at most 5 + 1 + 36.
use Rattle.std.specs.Prelude.{◌≡◌, ℕ, zero, suc, ◌+◌, ◌*◌, ◌-◌, ◌≤◌, ◌<◌}
use Rattle.std.proofs.Math.Path.{refl, ap}
use Rattle.std.proofs.Common.{◌∙◌}
use mathlib.Core.List.{List, [], ◌∷◌, ◌++◌}
use native.Mathlib.Omega.{arith}
use Rattle.std.proofs.Math.ListN.{length, length-append}
use Rattle.words.specs.declared.Operator.{Operator}
use Rattle.words.specs.declared.Operator.TheVariants.{Add, Subtract, Multiply, Divide, Remainder, Less, Greater, LessOrEqual, GreaterOrEqual, Equal, NotEqual}
use Rattle.text_numbers.specs.Number.{digits, number_bytes}
use Rattle.text_lines.specs.Line.{newline}
use Rattle.text_numbers.specs.PutLaws.{digits-within, number-eleven}
use Rattle.language.specs.Trees.{Expression, constant, read, minus, binary, assign, call, variable, element, no_more, present, label, empty, express, goto, abort, give_back, absent, and, block, break, case, comma, compound, conditional, continue, declare, default, do_while, for, guarded_do, guarded_if, if_else, if_then, not, or, postfix, prefix, switch, while}
use Rattle.page.specs.declared.Sizes.{Sizes}
use Rattle.page.proofs.WordLaws.{each-name}
use Rattle.page.specs.Lines.{PageLine, single, mark, opens, opens_while, opens_if, turns, closes, opens_call, argument, last_argument, opens_function, opens_parameters, parameter, last_parameter, Indented, indented}
use Rattle.page.specs.Page.{blank, equals_word, opening_word, int_word, operator_word, ended_by, ended, label_word, function_word, opened_word, called_word, first_temporary, name, atom_word, place_word, value_words, line_words, blanks, parted, right_set, padded, indent, line_bytes, lines_bytes}
use Rattle.page.proofs.Fits.{AtomFits, fits-constant, fits-variable, ValueFits, value-atom, value-element, value-minus, value-binary, value-call, is_function, LineFits, fits-empty, fits-abort, fits-goto, fits-label, fits-store, fits-put, fits-return, fits-opens, fits-while, fits-if, fits-turns, fits-closes, fits-call, fits-argument, fits-last-argument, fits-function, fits-parameters, fits-parameter, fits-last-parameter, AllFit, all_none, all_more}

pub length-blanks : (n : ℕ) → length (blanks n) ≡ n
unfolding blanks
length-blanks zero = refl
length-blanks (suc n) = omega (arith, length-blanks n)

length-ended : (byte : ℕ) (xs : List ℕ) → length (ended_by byte xs) ≡ length xs + 1
length-ended byte xs = length-append xs (byte ∷ [])

label-width : (l : ℕ) → l < 40980 → length (digits l) ≤ 5
label-width l h = digits-within 4 l (omega arith)

operator-width : (o : Operator) → length (operator_word o) ≤ 2
operator-width Add = omega arith
operator-width Subtract = omega arith
operator-width Multiply = omega arith
operator-width Divide = omega arith
operator-width Remainder = omega arith
operator-width Less = omega arith
operator-width Greater = omega arith
operator-width LessOrEqual = omega arith
operator-width GreaterOrEqual = omega arith
operator-width Equal = omega arith
operator-width NotEqual = omega arith

-- "V variables (0 to 256)"; D at most 64 and T at most 8,192 behind the first S words.
pub variable-width : (sizes : Sizes) (i : ℕ) → i < 256 → length (name sizes i) ≤ 5
variable-width sizes i h = each-name (λ word. length word ≤ 5) sizes i
    (λ e. omega (arith, digits-within 2 i (omega arith)))
    (λ e. omega (arith, digits-within 2 (i - sizes.store) (omega arith)))
    (λ e. omega (arith, digits-within 2 (i - first_temporary sizes) (omega arith)))

pub behind-width : (sizes : Sizes) (i : ℕ) → sizes.store ≤ i → i < sizes.store + 8256 → length (name sizes i) ≤ 5
behind-width sizes i h k = each-name (λ word. length word ≤ 5) sizes i
    (λ e. absurd (omega arith))
    (λ e. omega (arith, digits-within 3 (i - sizes.store) (omega arith)))
    (λ e. omega (arith, digits-within 3 (i - first_temporary sizes) (omega arith)))

-- Two and three words, with their blanks.
parted-two : (x y : List ℕ) → length (parted (x ∷ (y ∷ []))) ≡ length x + 1 + length y
unfolding parted
parted-two x y = omega (arith, length-append x (blank ∷ y))

parted-more : (x y : List ℕ) (words : List (List ℕ)) → length (parted (x ∷ (y ∷ words))) ≡ length x + 1 + length (parted (y ∷ words))
unfolding parted
parted-more x y words = omega (arith, length-append x (blank ∷ parted (y ∷ words)))

parted-assigned : (x : List ℕ) (words : List (List ℕ)) → length (parted (x ∷ (equals_word ∷ words))) ≤ length x + 3 + length (parted words)
unfolding parted
parted-assigned x [] = omega (arith, length-append x (blank ∷ equals_word))
parted-assigned x (y ∷ ys) = omega (arith, length-append x (blank ∷ (equals_word ++ (blank ∷ parted (y ∷ ys)))))

pub length-set : (columns : ℕ) (xs : List ℕ) → length xs ≤ columns → length (right_set columns xs) ≡ columns
unfolding right_set
length-set columns xs h = omega (arith, length-append (blanks (columns - length xs)) xs, length-blanks (columns - length xs))

length-padded : (columns : ℕ) (xs : List ℕ) → length xs ≤ columns → length (padded columns xs) ≡ columns
unfolding padded
length-padded columns xs h = omega (arith, length-append xs (blanks (columns - length xs)), length-blanks (columns - length xs))

-- `f40979(`, `f40979()`
opened-width : (f : ℕ) → is_function f → length (opened_word f) ≤ 7
opened-width f h = omega (arith, length-ended 40 (function_word f), label-width f h)

called-width : (f : ℕ) → is_function f → length (called_word f) ≤ 8
called-width f h = omega (arith, length-ended 41 (opened_word f), opened-width f h)

module _ {Names Parameters : ℕ → Type 0} {arrays : ℕ} (sizes : Sizes) (names : (i : ℕ) → Names i → length (name sizes i) ≤ 5)
    (parameters : (i : ℕ) → Parameters i → length (name sizes i) ≤ 5) (few : arrays ≤ 32) where
  atom-width : (e : Expression) → AtomFits Names arrays e → length (atom_word sizes e) ≤ 11
  atom-width (constant v) (fits-constant h) = number-eleven v h
  atom-width (read (variable i)) (fits-variable n) = omega (arith, names i n)
  atom-width (read (element _ _)) x5 = elim x5 [ ]
  atom-width (minus _) x3 = elim x3 [ ]
  atom-width (not _) x4 = elim x4 [ ]
  atom-width (binary _ _ _) x7 = elim x7 [ ]
  atom-width (and _ _) x7 = elim x7 [ ]
  atom-width (or _ _) x8 = elim x8 [ ]
  atom-width (comma _ _) x9 = elim x9 [ ]
  atom-width (conditional _ _ _) x11 = elim x11 [ ]
  atom-width (assign _ _) x11 = elim x11 [ ]
  atom-width (compound _ _ _) x13 = elim x13 [ ]
  atom-width (prefix _ _) x13 = elim x13 [ ]
  atom-width (postfix _ _) x14 = elim x14 [ ]
  atom-width (call _ _) x15 = elim x15 [ ]

  -- `a31[-2147483648]`
  element-width : (array : ℕ) (e : Expression) → array < arrays → AtomFits Names arrays e → length (place_word sizes (element array e)) ≤ 16
  element-width array e b h =
      omega (arith, length-append (digits array) (91 ∷ ended_by 93 (atom_word sizes e)), length-ended 93 (atom_word sizes e), digits-within 1 array (omega arith), atom-width e h)

  -- `-2147483648;`
  assigned-atom : (e : Expression) → AtomFits Names arrays e → length (parted (ended (value_words sizes e))) ≤ 12
  unfolding ended parted
  assigned-atom (constant v) (fits-constant h) = omega (arith, length-ended 59 (number_bytes v), number-eleven v h)
  assigned-atom (read (variable i)) (fits-variable n) = omega (arith, length-ended 59 (name sizes i), names i n)
  assigned-atom (read (element _ _)) x5 = elim x5 [ ]
  assigned-atom (minus _) x3 = elim x3 [ ]
  assigned-atom (not _) x4 = elim x4 [ ]
  assigned-atom (binary _ _ _) x7 = elim x7 [ ]
  assigned-atom (and _ _) x7 = elim x7 [ ]
  assigned-atom (or _ _) x8 = elim x8 [ ]
  assigned-atom (comma _ _) x9 = elim x9 [ ]
  assigned-atom (conditional _ _ _) x11 = elim x11 [ ]
  assigned-atom (assign _ _) x11 = elim x11 [ ]
  assigned-atom (compound _ _ _) x13 = elim x13 [ ]
  assigned-atom (prefix _ _) x13 = elim x13 [ ]
  assigned-atom (postfix _ _) x14 = elim x14 [ ]
  assigned-atom (call _ _) x15 = elim x15 [ ]

  -- `-2147483648 <= -2147483648;`
  value-width : (e : Expression) → ValueFits Names arrays e → length (parted (ended (value_words sizes e))) ≤ 27
  unfolding ended parted
  value-width e (value-atom h) = omega (arith, assigned-atom e h)
  value-width (read (element array e)) (value-element b h) = omega (arith, length-ended 59 (place_word sizes (element array e)), element-width array e b h)
  value-width (minus e) (value-minus h) = omega (arith, length-ended 59 (atom_word sizes e), atom-width e h)
  value-width (binary o a b) (value-binary h k) =
      omega (
        arith,
        parted-more (atom_word sizes a) (operator_word o) (ended_by 59 (atom_word sizes b) ∷ []),
        parted-two (operator_word o) (ended_by 59 (atom_word sizes b)),
        length-ended 59 (atom_word sizes b),
        atom-width a h,
        operator-width o,
        atom-width b k,
      )
  value-width (call f no_more) (value-call b) = omega (arith, length-ended 59 (called_word f), called-width f b)

  pub line-width : (line : PageLine) → LineFits Names arrays Parameters line → length (parted (line_words sizes line)) ≤ 35
  unfolding parted
  line-width (single empty) fits-empty = omega arith
  line-width (single abort) fits-abort = omega arith
  line-width (single (goto l)) (fits-goto b) = omega (arith, length-ended 59 (label_word l), label-width l b)
  line-width (mark (label l)) (fits-label b) = omega (arith, length-ended 59 (ended_by 58 (label_word l)), length-ended 58 (label_word l), label-width l b)
  line-width (single (express (assign (variable i) e))) (fits-store n h) = omega (arith, parted-assigned (name sizes i) (ended (value_words sizes e)), names i n, value-width e h)
  line-width (single (express (assign (element array index) e))) (fits-put b h k) =
      omega (arith, parted-assigned (place_word sizes (element array index)) (ended (value_words sizes e)), element-width array index b h, assigned-atom e k)
  line-width opens fits-opens = omega arith
  line-width (opens_while e) (fits-while h) = omega (arith, length-append (40 ∷ ended_by 41 (atom_word sizes e)) (blank ∷ opening_word), length-ended 41 (atom_word sizes e), atom-width e h)
  line-width (opens_if e) (fits-if h) = omega (arith, length-append (40 ∷ ended_by 41 (atom_word sizes e)) (blank ∷ opening_word), length-ended 41 (atom_word sizes e), atom-width e h)
  line-width turns fits-turns = omega arith
  line-width closes fits-closes = omega arith
  line-width (single (give_back (present e))) (fits-return h) = omega (arith, length-ended 59 (atom_word sizes e), atom-width e h)
  line-width (opens_call (variable i) f) (fits-call n b) = omega (arith, parted-assigned (name sizes i) (opened_word f ∷ []), names i n, opened-width f b)
  line-width (argument e) (fits-argument h) = omega (arith, length-ended 44 (atom_word sizes e), atom-width e h)
  line-width (last_argument e) (fits-last-argument h) = omega (arith, length-ended 59 (ended_by 41 (atom_word sizes e)), length-ended 41 (atom_word sizes e), atom-width e h)
  line-width (opens_function f) (fits-function b) = omega (arith, length-append (called_word f) (blank ∷ opening_word), called-width f b)
  line-width (opens_parameters f) (fits-parameters b) = omega (arith, opened-width f b)
  line-width (parameter word) (fits-parameter p) = omega (arith, length-ended 44 (name sizes word), parameters word p)
  line-width (last_parameter word) (fits-last-parameter p) =
      omega (arith, length-append (ended_by 41 (name sizes word)) (blank ∷ opening_word), length-ended 41 (name sizes word), parameters word p)
  line-width (single (express (constant _))) x6 = elim x6 [ ]
  line-width (single (express (read _))) x7 = elim x7 [ ]
  line-width (single (express (minus _))) x8 = elim x8 [ ]
  line-width (single (express (not _))) x9 = elim x9 [ ]
  line-width (single (express (binary _ _ _))) x12 = elim x12 [ ]
  line-width (single (express (and _ _))) x12 = elim x12 [ ]
  line-width (single (express (or _ _))) x13 = elim x13 [ ]
  line-width (single (express (comma _ _))) x14 = elim x14 [ ]
  line-width (single (express (conditional _ _ _))) x16 = elim x16 [ ]
  line-width (single (express (compound _ _ _))) x17 = elim x17 [ ]
  line-width (single (express (prefix _ _))) x17 = elim x17 [ ]
  line-width (single (express (postfix _ _))) x18 = elim x18 [ ]
  line-width (single (express (call _ _))) x19 = elim x19 [ ]
  line-width (single (block _)) x5 = elim x5 [ ]
  line-width (single (if_then _ _)) x7 = elim x7 [ ]
  line-width (single (if_else _ _ _)) x9 = elim x9 [ ]
  line-width (single (while _ _)) x9 = elim x9 [ ]
  line-width (single (do_while _ _)) x10 = elim x10 [ ]
  line-width (single (for _ _ _ _)) x13 = elim x13 [ ]
  line-width (single (switch _ _)) x12 = elim x12 [ ]
  line-width (single break) x11 = elim x11 [ ]
  line-width (single continue) x12 = elim x12 [ ]
  line-width (single (guarded_if _)) x14 = elim x14 [ ]
  line-width (single (guarded_do _)) x15 = elim x15 [ ]
  line-width (single (declare _ _)) x17 = elim x17 [ ]
  line-width (single (give_back absent)) x18 = elim x18 [ ]
  line-width (mark (case _)) x5 = elim x5 [ ]
  line-width (mark default) x5 = elim x5 [ ]
  line-width (opens_call (element _ _) f) x7 = elim x7 [ ]

  -- "Lines of 80 columns plus a newline": five columns hold every number below 100,000.
  pub line-columns : (number level : ℕ) (line : PageLine) → number < 100000 → LineFits Names arrays Parameters line → length (line_bytes sizes number (indented level line)) ≡ 81
  unfolding line_bytes
  line-columns number level line b h =
      let before = right_set 5 (digits number) in
      let behind = blanks (indent level) ++ parted (line_words sizes line) in
      let five : length before ≡ 5 = length-set 5 (digits number) (digits-within 4 number (omega arith)) in
      let fits : length (before ++ (blank ∷ behind)) ≤ 80 =
      omega (arith, length-append before (blank ∷ behind), length-append (blanks (indent level)) (parted (line_words sizes line)), length-blanks (indent level), line-width line h) in
      length-append (padded 80 (before ++ (blank ∷ behind))) (newline ∷ []) ∙ ap (λ (n : ℕ). n + 1) (length-padded 80 (before ++ (blank ∷ behind)) fits)

  pub lines-columns : (number : ℕ) (lines : List Indented) → number + length lines ≤ 100000 → AllFit Names arrays Parameters lines → length (lines_bytes sizes number lines) ≡ 81 * length lines
  unfolding lines_bytes
  lines-columns number [] b all_none = refl
  lines-columns number (indented level line ∷ lines) b (all_more f h) =
      omega (arith, length-append (line_bytes sizes number (indented level line)) (lines_bytes sizes (number + 1) lines), line-columns number level line (omega arith) f, lines-columns (number + 1) lines (omega arith) h)
