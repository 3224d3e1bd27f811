-- Reading: the program that a page is. The words of each line are read without regard to blanks; then the program's page is printed
-- again: only the very bytes of a page are read.
use Rattle.std.specs.Prelude.{Bool, true, false, ◌&&◌, List, [], ◌∷◌, ℕ, ◌+◌, eqb, None, Option, Some}
use Rattle.words.specs.Word.{pick}
use Rattle.words.specs.declared.Operator.{Operator}
use Rattle.words.specs.declared.Operator.TheVariants.{Add, Subtract, Multiply, Divide, Remainder, Less, Greater, LessOrEqual, GreaterOrEqual, Equal, NotEqual}
use Rattle.text_numbers.specs.Number.{natural_of, number_of}
use Rattle.text_lines.specs.Line.{together, lines_of, TextLine, ended, unended}
use Rattle.language.specs.Trees.{Expression, constant, read, minus, binary, assign, call, Place, variable, element, no_more, present, label, empty, express, goto, abort, give_back, Items}
use Rattle.page.specs.declared.Sizes.{Sizes}
use Rattle.page.specs.Lines.{PageLine, single, mark, opens, opens_while, opens_if, turns, closes, opens_call, argument, last_argument, opens_function, opens_parameters, parameter, last_parameter, read_lines}
use Rattle.page.specs.Page.{blank, semicolon, colon, comma_byte, opening_bracket, closing_bracket, opening_parenthesis, closing_parenthesis, variable_letter, array_letter, declared_letter, temporary_letter, label_letter, function_letter, empty_word, opening_word, closing_word, equals_word, minus_word, if_word, while_word, goto_word, abort_word, int_word, return_word, operator_word, first_temporary, page_bytes}

-- ---- words

unfoldable pub same : List ℕ → List ℕ → Bool
same [] [] = true
same [] (y ∷ ys) = false
same (x ∷ xs) [] = false
same (x ∷ xs) (y ∷ ys) = eqb x y && same xs ys

-- The same pieces with a byte more at the start of the first.
abbrev pub longer : ℕ → List (List ℕ) → List (List ℕ)
longer byte [] = (byte ∷ []) ∷ []
longer byte (piece ∷ pieces) = (byte ∷ piece) ∷ pieces

-- The pieces between separators.
unfoldable pub pieces : ℕ → List ℕ → List (List ℕ)
pieces separator [] = [] ∷ []
pieces separator (byte ∷ bytes) = pick (eqb byte separator) ([] ∷ pieces separator bytes) (longer byte (pieces separator bytes))

-- Those that are not empty.
unfoldable pub filled : List (List ℕ) → List (List ℕ)
filled [] = []
filled ([] ∷ words) = filled words
filled ((byte ∷ bytes) ∷ words) = (byte ∷ bytes) ∷ filled words

-- The words between blanks.
abbrev pub words_of : List ℕ → List (List ℕ)
words_of bytes = filled (pieces blank bytes)

abbrev pub bind : {A B : Type 0} → Option A → (A → Option B) → Option B
bind None f = None
bind (Some a) f = f a

-- A word without its last byte, which must be this one.
unfoldable pub without : ℕ → List ℕ → Option (List ℕ)
without last [] = None
without last (byte ∷ []) = pick (eqb byte last) (Some []) None
without last (byte ∷ (second ∷ bytes)) = bind (without last (second ∷ bytes)) (λ word. Some (byte ∷ word))

-- ---- what a word says

unfoldable pub read_operator : List ℕ → Option Operator
read_operator word =
    pick (same word (operator_word Add)) (Some Add) (pick (same word (operator_word Subtract)) (Some Subtract) (pick (same word (operator_word Multiply)) (Some Multiply)
    (pick (same word (operator_word Divide)) (Some Divide) (pick (same word (operator_word Remainder)) (Some Remainder) (pick (same word (operator_word Less)) (Some Less)
    (pick (same word (operator_word Greater)) (Some Greater) (pick (same word (operator_word LessOrEqual)) (Some LessOrEqual) (pick (same word (operator_word GreaterOrEqual)) (Some GreaterOrEqual)
    (pick (same word (operator_word Equal)) (Some Equal) (pick (same word (operator_word NotEqual)) (Some NotEqual) None))))))))))

abbrev pub read_label : List ℕ → Option ℕ
read_label [] = None
read_label (byte ∷ bytes) = pick (eqb byte label_letter) (natural_of bytes) None

abbrev pub read_function : List ℕ → Option ℕ
read_function [] = None
read_function (byte ∷ bytes) = pick (eqb byte function_letter) (natural_of bytes) None

-- `fN(` and `fN()`
abbrev pub read_opened : List ℕ → Option ℕ
read_opened word = bind (without opening_parenthesis word) read_function

abbrev pub read_called : List ℕ → Option ℕ
read_called word = bind (without closing_parenthesis word) read_opened

-- The first, or else the second.
abbrev pub or_else : {A : Type 0} → Option A → Option A → Option A
or_else (Some a) other = Some a
or_else None other = other

module _ (sizes : Sizes) where
  -- The number of a variable.
  unfoldable pub read_name : List ℕ → Option ℕ
  read_name [] = None
  read_name (byte ∷ bytes) =
      pick (eqb byte variable_letter) (natural_of bytes)
      (pick (eqb byte declared_letter) (bind (natural_of bytes) (λ n. Some (sizes.store + n)))
      (pick (eqb byte temporary_letter) (bind (natural_of bytes) (λ n. Some (first_temporary sizes + n))) None))

  unfoldable pub read_atom : List ℕ → Option Expression
  read_atom word = or_else (bind (read_name word) (λ i. Some (read (variable i)))) (bind (number_of word) (λ v. Some (constant v)))

  -- An element by the pieces around its opening bracket.
  abbrev pub read_element : List (List ℕ) → Option Place
  read_element (array ∷ (index ∷ [])) = bind (natural_of array) (λ a. bind (without closing_bracket index) (λ atom. bind (read_atom atom) (λ e. Some (element a e))))
  read_element [] = None
  read_element (array ∷ []) = None
  read_element (array ∷ (index ∷ (other ∷ others))) = None

  unfoldable pub read_place : List ℕ → Option Place
  read_place [] = None
  read_place (byte ∷ bytes) = pick (eqb byte array_letter) (read_element (pieces opening_bracket bytes)) (bind (read_name (byte ∷ bytes)) (λ i. Some (variable i)))

  -- What is assigned, by its words up to the semicolon.
  abbrev pub read_value : List (List ℕ) → Option Expression
  read_value (x ∷ []) =
      bind (without semicolon x) (λ word. or_else (bind (read_place word) (λ p. Some (read p))) (or_else (read_atom word) (bind (read_called word) (λ f. Some (call f no_more)))))
  read_value (sign ∷ (x ∷ [])) = pick (same sign minus_word) (bind (without semicolon x) (λ word. bind (read_atom word) (λ e. Some (minus e)))) None
  read_value (x ∷ (operator ∷ (y ∷ []))) =
      bind (read_atom x) (λ left. bind (read_operator operator) (λ o. bind (without semicolon y) (λ word. bind (read_atom word) (λ right. Some (binary o left right)))))
  read_value [] = None
  read_value (x ∷ (operator ∷ (y ∷ (other ∷ others)))) = None

  abbrev pub read_test : List ℕ → Option Expression
  read_test [] = None
  read_test (byte ∷ bytes) = pick (eqb byte opening_parenthesis) (bind (without closing_parenthesis bytes) read_atom) None

  -- `P = fN(`
  abbrev pub read_call : List ℕ → List (List ℕ) → Option PageLine
  read_call place (x ∷ []) = bind (read_opened x) (λ f. bind (read_place place) (λ p. Some (opens_call p f)))
  read_call place [] = None
  read_call place (x ∷ (y ∷ words)) = None

  -- `LN:;`
  abbrev pub read_mark : List ℕ → Option PageLine
  read_mark word = bind (without semicolon word) (λ marked. bind (without colon marked) (λ name. bind (read_label name) (λ l. Some (mark (label l)))))

  -- `X,` and `X);`
  abbrev pub read_argument : List ℕ → Option PageLine
  read_argument word =
      or_else (bind (without comma_byte word) (λ atom. bind (read_atom atom) (λ e. Some (argument e))))
      (bind (without semicolon word) (λ ended. bind (without closing_parenthesis ended) (λ atom. bind (read_atom atom) (λ e. Some (last_argument e)))))

  -- What stands behind `int`: `lN,` or `fN(`; before `{`: `lN)` or `fN()`.
  abbrev pub read_parameter : List ℕ → Option PageLine
  read_parameter word = or_else (bind (without comma_byte word) (λ name. bind (read_name name) (λ i. Some (parameter i)))) (bind (read_opened word) (λ f. Some (opens_parameters f)))

  abbrev pub read_last_parameter : List ℕ → Option PageLine
  read_last_parameter word = or_else (bind (without closing_parenthesis word) (λ name. bind (read_name name) (λ i. Some (last_parameter i)))) (bind (read_called word) (λ f. Some (opens_function f)))

  -- ---- what a line says

  abbrev pub line_of : List (List ℕ) → Option PageLine
  line_of [] = None
  line_of (w ∷ []) =
      pick (same w empty_word) (Some (single empty)) (pick (same w opening_word) (Some opens) (pick (same w closing_word) (Some closes)
      (pick (same w abort_word) (Some (single abort))
      (or_else (read_mark w) (read_argument w)))))
  line_of (w ∷ (x ∷ [])) =
      pick (same w goto_word) (bind (without semicolon x) (λ name. bind (read_label name) (λ l. Some (single (goto l)))))
      (pick (same w return_word) (bind (without semicolon x) (λ word. bind (read_atom word) (λ e. Some (single (give_back (present e))))))
      (pick (same w int_word) (read_parameter x) None))
  line_of (w ∷ (x ∷ (y ∷ ys))) =
      pick (same x equals_word) (or_else (bind (read_place w) (λ p. bind (read_value (y ∷ ys)) (λ e. Some (single (express (assign p e)))))) (read_call w (y ∷ ys)))
      (pick (same w if_word) (bind (read_test x) (λ e. Some (opens_if e)))
      (pick (same w while_word) (bind (read_test x) (λ e. Some (opens_while e)))
      (pick (same w closing_word) (Some turns)
      (pick (same w int_word) (read_last_parameter x) None))))

  -- The first word is the line's number.
  abbrev pub numbered : List (List ℕ) → Option PageLine
  numbered [] = None
  numbered (number ∷ words) = line_of words

  -- ---- what a page says

  unfoldable pub page_lines : List TextLine → Option (List PageLine)
  page_lines [] = Some []
  page_lines (ended line ∷ lines) = together (numbered (words_of line)) (page_lines lines)
  page_lines (unended line ∷ lines) = None

  abbrev pub printed_again : List ℕ → Items → Option Items
  printed_again page contents = pick (same (page_bytes sizes contents) page) (Some contents) None

  -- The items of the program whose page this is.
  unfoldable pub read_page : List ℕ → Option Items
  read_page page = bind (page_lines (lines_of page)) (λ lines. bind (read_lines lines) (printed_again page))
